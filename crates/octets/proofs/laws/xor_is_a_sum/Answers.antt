use Rattle.octets.proofs.Xor.{xor_bytes-comm, xor_bytes-assoc, xor_bytes_twice}
use Rattle.octets.proofs.laws.xor_is_a_sum.Goals as goal

pub returns-clause-commutes : goal.returns-clause-commutes
returns-clause-commutes c = xor_bytes-comm

pub returns-clause-associates : goal.returns-clause-associates
returns-clause-associates c = xor_bytes-assoc

pub returns-clause-undone : goal.returns-clause-undone
returns-clause-undone c = xor_bytes_twice
