use Rattle.server_dispatch.proofs.Bound.{found-told}
use Rattle.server_dispatch.proofs.bindings.Bindings.is_bound.Goals as goal

pub returns : goal.returns
returns c =
    rw (← c.self.view_is) (found-told c.has_bound.result c.args.now c.seconds.result c.args.key c.as_slice.result.now c.self.inside.bindings.items c.seconds.ensures.value c.as_slice.ensures.value c.has_bound.ensures)
