use Rattle.std.proofs.Common.{refl}
use Rattle.server_node.proofs.Events.{did_fail, did_run}
use Rattle.server_node.proofs.working.run_first.Goals as goal

pub returns-in-Ok-clause-did : goal.returns-in-Ok-clause-did
returns-in-Ok-clause-did g c =
    did_run g.K.D.Draw.step g.V.Service.step g.K.S.Seal.lock (g.K.Desk.keys c.args.desk.now) _ _ c.args.now _ c.in-Ok.effects
    c.opens_what_it_sealed.ensures c.say.ensures.ends c.say.ensures.said c.say.ensures.same_in refl
    (λ keys server stands. c.in-Ok.ensures.given keys server stands) (λ keys server stands. c.in-Ok.ensures.served keys server stands)

pub returns-in-Err-clause-did : goal.returns-in-Err-clause-did
returns-in-Err-clause-did g c =
    did_fail g.K.D.Draw.step g.V.Service.step g.K.S.Seal.lock (g.K.Desk.keys c.args.desk.now) _ _ _ c.in-Err.fault _
    c.end_of.ensures refl refl (λ server stands memory. c.in-Err.ensures.unchanged_on_memory server stands memory) (λ server len stands full. c.in-Err.ensures.unchanged_on_full server len stands full)
    (λ server stands. c.in-Err.ensures.behind server stands) (λ memory. c.in-Err.ensures.same_service_on_memory memory) (λ len full. c.in-Err.ensures.same_service_on_full len full)
