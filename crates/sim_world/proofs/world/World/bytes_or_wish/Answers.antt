use Rattle.std.proofs.Common.{◌∙◌, List, ℕ, ap, subst, sym}
use Rattle.sched_text.specs.declared.event.Event.{Event}
use Rattle.sched_text.specs.declared.event.Event.TheVariants as line
use Rattle.sim_world.specs.Told.{StepsFrom}
use Rattle.sim_world.proofs.world.World.bytes_or_wish.Goals as goal

pub returns-in-Call-clause-steps : goal.returns-in-Call-clause-steps
returns-in-Call-clause-steps g c =
    subst (λ (event : Event). StepsFrom g.S.Seal.lock g.D.Draw.step g.V.Service.step g.V.Service.fresh_state (g.S.Seal.keys c.args.self.now.host.server.seal) c.args.self.now event c.call.result c.call.new.self)
    (sym (c.in-Call.is ∙ ap (λ (body : List ℕ). line.Call c.in-Call.client body c.in-Call.after) (sym c.as_slice.ensures.value))) c.call.ensures.steps

pub returns-in-Call-clause-same_seal : goal.returns-in-Call-clause-same_seal
returns-in-Call-clause-same_seal g c = c.call.ensures.same_seal

pub returns-in-Flush-clause-steps : goal.returns-in-Flush-clause-steps
returns-in-Flush-clause-steps g c =
    subst (λ (event : Event). StepsFrom g.S.Seal.lock g.D.Draw.step g.V.Service.step g.V.Service.fresh_state (g.S.Seal.keys c.args.self.now.host.server.seal) c.args.self.now event c.flush.result c.flush.new.self)
    (sym (c.in-Flush.is)) c.flush.ensures.steps

pub returns-in-Flush-clause-same_seal : goal.returns-in-Flush-clause-same_seal
returns-in-Flush-clause-same_seal g c = c.flush.ensures.same_seal

pub returns-in-Give-clause-steps : goal.returns-in-Give-clause-steps
returns-in-Give-clause-steps g c =
    subst (λ (event : Event). StepsFrom g.S.Seal.lock g.D.Draw.step g.V.Service.step g.V.Service.fresh_state (g.S.Seal.keys c.args.self.now.host.server.seal) c.args.self.now event c.give.result c.give.new.self)
    (sym (c.in-Give.is)) c.give.ensures.steps

pub returns-in-Give-clause-same_seal : goal.returns-in-Give-clause-same_seal
returns-in-Give-clause-same_seal g c = c.give.ensures.same_seal

pub returns-in-ForeignClient-clause-steps : goal.returns-in-ForeignClient-clause-steps
returns-in-ForeignClient-clause-steps g c =
    subst (λ (event : Event). StepsFrom g.S.Seal.lock g.D.Draw.step g.V.Service.step g.V.Service.fresh_state (g.S.Seal.keys c.args.self.now.host.server.seal) c.args.self.now event c.foreign_client.result c.foreign_client.new.self)
    (sym (c.in-ForeignClient.is ∙ ap (λ (bytes : List ℕ). line.ForeignClient c.in-ForeignClient.client bytes) (sym c.as_slice-in-ForeignClient.ensures.value))) c.foreign_client.ensures.steps

pub returns-in-ForeignClient-clause-same_seal : goal.returns-in-ForeignClient-clause-same_seal
returns-in-ForeignClient-clause-same_seal g c = c.foreign_client.ensures.same_seal

pub returns-in_default-clause-steps : goal.returns-in_default-clause-steps
returns-in_default-clause-steps g c = c.wish.ensures.steps

pub returns-in_default-clause-same_seal : goal.returns-in_default-clause-same_seal
returns-in_default-clause-same_seal g c = c.wish.ensures.same_seal
