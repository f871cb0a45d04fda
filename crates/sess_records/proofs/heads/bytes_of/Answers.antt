use Rattle.std.proofs.Common.{refl}
use Rattle.sess_records.specs.Steps.{head_bytes}
use Rattle.sess_records.proofs.heads.bytes_of.Goals as goal

pub returns : goal.returns
unfolding head_bytes
returns c = rw (c.to_le_bytes.ensures, c.to_le_bytes-2.ensures, c.to_le_bytes-3.ensures) refl
