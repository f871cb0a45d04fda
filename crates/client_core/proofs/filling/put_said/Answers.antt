use Rattle.std.proofs.Common.{append_assoc}
use Rattle.containers.specs.Container.{row}
use Rattle.client_core.proofs.filling.put_said.Goals as goal

pub returns-clause-written : goal.returns-clause-written
unfolding row
returns-clause-written c =
    rw (c.spell.ensures.written, c.put_head.ensures.written, c.said_size.ensures, c.sizes_of_said.ensures.sizes c.args.said.now c.requires.lawful) (simp append_assoc)
