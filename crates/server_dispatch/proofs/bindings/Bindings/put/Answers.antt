use Rattle.server_dispatch.proofs.Bound.{put-told}
use Rattle.server_dispatch.proofs.bindings.Bindings.put.Goals as goal

pub returns-clause-put : goal.returns-clause-put
returns-clause-put c =
    rw (← c.self.view_is) (put-told c.args.bound c.self.inside.bindings.items c.forget.new.bindings.items c.push_reserved.new.self.items c.forget.ensures.others c.push_reserved.ensures.items)
