use Rattle.std.proofs.Common.{append_assoc}
use Rattle.client_core.proofs.filling.put_head.Goals as goal

pub returns-clause-written : goal.returns-clause-written
returns-clause-written c =
    rw (c.push_all-3.ensures.written, c.push_all-2.ensures.written, c.push_all.ensures.written, c.to_le_bytes.ensures, c.to_le_bytes-2.ensures, c.to_le_bytes-3.ensures) (simp append_assoc)
