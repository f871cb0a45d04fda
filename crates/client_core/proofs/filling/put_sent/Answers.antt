use Rattle.std.proofs.Common.{append_assoc}
use Rattle.containers.specs.Container.{row}
use Rattle.client_core.proofs.filling.put_sent.Goals as goal

pub returns-clause-written : goal.returns-clause-written
unfolding row
returns-clause-written c =
    rw (c.put_call.ensures.written, c.put_head.ensures.written, c.wrap_size.ensures, c.put_call.ensures.size) (simp append_assoc)
