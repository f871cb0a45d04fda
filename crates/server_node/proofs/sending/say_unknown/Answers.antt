use Rattle.std.proofs.Common.{[], ◌∷◌}
use Rattle.server_node.specs.Writes.{unknown_key}
use Rattle.server_node.proofs.Going.{said_memory}
use Rattle.server_node.proofs.sending.say_unknown.Goals as goal

pub returns-in-Err-clause-said : goal.returns-in-Err-clause-said
returns-in-Err-clause-said g c heard =
    said_memory c.args.wire.now c.put_one.new.wire heard (unknown_key ∷ []) (g.L.Link.told c.args.link.now) c.in-Err.ensures.same_in
