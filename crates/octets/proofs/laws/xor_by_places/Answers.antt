use Rattle.octets.proofs.Xor.{length-xor_bytes, slice_index-xor_bytes, same_as_xor_bytes, xor_bytes-append}
use Rattle.octets.proofs.laws.xor_by_places.Goals as goal

pub returns-clause-length : goal.returns-clause-length
returns-clause-length c = length-xor_bytes

pub returns-clause-places : goal.returns-clause-places
returns-clause-places c = slice_index-xor_bytes

pub returns-clause-exact : goal.returns-clause-exact
returns-clause-exact c = same_as_xor_bytes

pub returns-clause-append : goal.returns-clause-append
returns-clause-append c = xor_bytes-append
