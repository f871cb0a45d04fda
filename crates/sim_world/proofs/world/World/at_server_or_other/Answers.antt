use Rattle.std.proofs.Common.{◌∙◌, List, ℕ, ap, subst, sym}
use Rattle.sched_text.specs.declared.event.Event.{Event}
use Rattle.sched_text.specs.declared.event.Event.TheVariants as line
use Rattle.sim_world.specs.Told.{StepsFrom}
use Rattle.sim_world.proofs.world.World.at_server_or_other.Goals as goal

pub returns-in-ForeignServer-clause-steps : goal.returns-in-ForeignServer-clause-steps
returns-in-ForeignServer-clause-steps g c =
    subst (λ (event : Event). StepsFrom g.S.Seal.lock g.D.Draw.step g.V.Service.step g.V.Service.fresh_state (g.S.Seal.keys c.args.self.now.host.server.seal) c.args.self.now event c.foreign_server.result c.foreign_server.new.self)
    (sym (c.in-ForeignServer.is ∙ ap (λ (bytes : List ℕ). line.ForeignServer bytes) (sym c.as_slice.ensures.value))) c.foreign_server.ensures.steps

pub returns-in-ForeignServer-clause-same_seal : goal.returns-in-ForeignServer-clause-same_seal
returns-in-ForeignServer-clause-same_seal g c = c.foreign_server.ensures.same_seal

pub returns-in-Work-clause-steps : goal.returns-in-Work-clause-steps
returns-in-Work-clause-steps g c =
    subst (λ (event : Event). StepsFrom g.S.Seal.lock g.D.Draw.step g.V.Service.step g.V.Service.fresh_state (g.S.Seal.keys c.args.self.now.host.server.seal) c.args.self.now event c.work.result c.work.new.self)
    (sym (c.in-Work.is)) c.work.ensures.steps

pub returns-in-Work-clause-same_seal : goal.returns-in-Work-clause-same_seal
returns-in-Work-clause-same_seal g c = c.work.ensures.same_seal

pub returns-in-TickServer-clause-steps : goal.returns-in-TickServer-clause-steps
returns-in-TickServer-clause-steps g c =
    subst (λ (event : Event). StepsFrom g.S.Seal.lock g.D.Draw.step g.V.Service.step g.V.Service.fresh_state (g.S.Seal.keys c.args.self.now.host.server.seal) c.args.self.now event c.tick_server.result c.tick_server.new.self)
    (sym (c.in-TickServer.is)) c.tick_server.ensures.steps

pub returns-in-TickServer-clause-same_seal : goal.returns-in-TickServer-clause-same_seal
returns-in-TickServer-clause-same_seal g c = c.tick_server.ensures.same_seal

pub returns-in-AttachServer-clause-steps : goal.returns-in-AttachServer-clause-steps
returns-in-AttachServer-clause-steps g c =
    subst (λ (event : Event). StepsFrom g.S.Seal.lock g.D.Draw.step g.V.Service.step g.V.Service.fresh_state (g.S.Seal.keys c.args.self.now.host.server.seal) c.args.self.now event c.attach_server.result c.attach_server.new.self)
    (sym (c.in-AttachServer.is)) c.attach_server.ensures.steps

pub returns-in-AttachServer-clause-same_seal : goal.returns-in-AttachServer-clause-same_seal
returns-in-AttachServer-clause-same_seal g c = c.attach_server.ensures.same_seal

pub returns-in-Lose-clause-steps : goal.returns-in-Lose-clause-steps
returns-in-Lose-clause-steps g c =
    subst (λ (event : Event). StepsFrom g.S.Seal.lock g.D.Draw.step g.V.Service.step g.V.Service.fresh_state (g.S.Seal.keys c.args.self.now.host.server.seal) c.args.self.now event c.lose.result c.lose.new.self)
    (sym (c.in-Lose.is)) c.lose.ensures.steps

pub returns-in-Lose-clause-same_seal : goal.returns-in-Lose-clause-same_seal
returns-in-Lose-clause-same_seal g c = c.lose.ensures.same_seal

pub returns-in-Restart-clause-steps : goal.returns-in-Restart-clause-steps
returns-in-Restart-clause-steps g c =
    subst (λ (event : Event). StepsFrom g.S.Seal.lock g.D.Draw.step g.V.Service.step g.V.Service.fresh_state (g.S.Seal.keys c.args.self.now.host.server.seal) c.args.self.now event c.restart.result c.restart.new.self)
    (sym (c.in-Restart.is)) c.restart.ensures.steps

pub returns-in-Restart-clause-same_seal : goal.returns-in-Restart-clause-same_seal
returns-in-Restart-clause-same_seal g c = c.restart.ensures.same_seal

pub returns-in_default-clause-steps : goal.returns-in_default-clause-steps
returns-in_default-clause-steps g c = c.bytes_or_wish.ensures.steps

pub returns-in_default-clause-same_seal : goal.returns-in_default-clause-same_seal
returns-in_default-clause-same_seal g c = c.bytes_or_wish.ensures.same_seal
