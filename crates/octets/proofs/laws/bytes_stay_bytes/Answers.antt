use Rattle.octets.proofs.Xor.{IsBytes-xor_bytes}
use Rattle.octets.proofs.laws.bytes_stay_bytes.Goals as goal

pub returns-clause-xor : goal.returns-clause-xor
returns-clause-xor c = IsBytes-xor_bytes
