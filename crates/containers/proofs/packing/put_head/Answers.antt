use Rattle.std.proofs.Common.{append_assoc}
use Rattle.containers.specs.Container.{head_of}
use Rattle.containers.proofs.packing.put_head.Goals as goal

pub returns-clause-written : goal.returns-clause-written
unfolding head_of
returns-clause-written c =
    rw (c.push_all-2.ensures.written, c.push_all.ensures.written, c.to_le_bytes.ensures, c.to_le_bytes-2.ensures) (simp append_assoc)
