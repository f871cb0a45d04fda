use Rattle.octets.proofs.Xor.{HasBytes-xor_bytes}
use Rattle.octets.proofs.laws.counts_of_bytes.Goals as goal

pub returns-clause-xor : goal.returns-clause-xor
returns-clause-xor c = HasBytes-xor_bytes
