use Rattle.std.proofs.Common.{refl}
use Rattle.sess_records.proofs.heads.two_longs.Goals as goal

pub returns : goal.returns
returns c = rw (c.to_le_bytes.ensures, c.to_le_bytes-2.ensures) refl
