use Rattle.std.proofs.Common.{subst, sym}
use Rattle.sched_text.specs.declared.event.Event.{Event}
use Rattle.sim_world.specs.Told.{StepsFrom}
use Rattle.sim_world.proofs.world.World.wish.Goals as goal

pub returns-in-TickClient-clause-steps : goal.returns-in-TickClient-clause-steps
returns-in-TickClient-clause-steps g c =
    subst (λ (event : Event). StepsFrom g.S.Seal.lock g.D.Draw.step g.V.Service.step g.V.Service.fresh_state (g.S.Seal.keys c.args.self.now.host.server.seal) c.args.self.now event c.tick_client.result c.tick_client.new.self)
    (sym (c.in-TickClient.is)) c.tick_client.ensures.steps

pub returns-in-TickClient-clause-same_seal : goal.returns-in-TickClient-clause-same_seal
returns-in-TickClient-clause-same_seal g c = c.tick_client.ensures.same_seal

pub returns-in-AttachClient-clause-steps : goal.returns-in-AttachClient-clause-steps
returns-in-AttachClient-clause-steps g c =
    subst (λ (event : Event). StepsFrom g.S.Seal.lock g.D.Draw.step g.V.Service.step g.V.Service.fresh_state (g.S.Seal.keys c.args.self.now.host.server.seal) c.args.self.now event c.attach_client.result c.attach_client.new.self)
    (sym (c.in-AttachClient.is)) c.attach_client.ensures.steps

pub returns-in-AttachClient-clause-same_seal : goal.returns-in-AttachClient-clause-same_seal
returns-in-AttachClient-clause-same_seal g c = c.attach_client.ensures.same_seal

pub returns-in-Ping-clause-steps : goal.returns-in-Ping-clause-steps
returns-in-Ping-clause-steps g c =
    subst (λ (event : Event). StepsFrom g.S.Seal.lock g.D.Draw.step g.V.Service.step g.V.Service.fresh_state (g.S.Seal.keys c.args.self.now.host.server.seal) c.args.self.now event c.ping.result c.ping.new.self)
    (sym (c.in-Ping.is)) c.ping.ensures.steps

pub returns-in-Ping-clause-same_seal : goal.returns-in-Ping-clause-same_seal
returns-in-Ping-clause-same_seal g c = c.ping.ensures.same_seal

pub returns-in-Salts-clause-steps : goal.returns-in-Salts-clause-steps
returns-in-Salts-clause-steps g c =
    subst (λ (event : Event). StepsFrom g.S.Seal.lock g.D.Draw.step g.V.Service.step g.V.Service.fresh_state (g.S.Seal.keys c.args.self.now.host.server.seal) c.args.self.now event c.salts.result c.salts.new.self)
    (sym (c.in-Salts.is)) c.salts.ensures.steps

pub returns-in-Salts-clause-same_seal : goal.returns-in-Salts-clause-same_seal
returns-in-Salts-clause-same_seal g c = c.salts.ensures.same_seal

pub returns-in-DropAnswer-clause-steps : goal.returns-in-DropAnswer-clause-steps
returns-in-DropAnswer-clause-steps g c =
    subst (λ (event : Event). StepsFrom g.S.Seal.lock g.D.Draw.step g.V.Service.step g.V.Service.fresh_state (g.S.Seal.keys c.args.self.now.host.server.seal) c.args.self.now event c.drop_answer.result c.drop_answer.new.self)
    (sym (c.in-DropAnswer.is)) c.drop_answer.ensures.steps

pub returns-in-DropAnswer-clause-same_seal : goal.returns-in-DropAnswer-clause-same_seal
returns-in-DropAnswer-clause-same_seal g c = c.drop_answer.ensures.same_seal

pub returns-in-Renew-clause-steps : goal.returns-in-Renew-clause-steps
returns-in-Renew-clause-steps g c =
    subst (λ (event : Event). StepsFrom g.S.Seal.lock g.D.Draw.step g.V.Service.step g.V.Service.fresh_state (g.S.Seal.keys c.args.self.now.host.server.seal) c.args.self.now event c.renew.result c.renew.new.self)
    (sym (c.in-Renew.is)) c.renew.ensures.steps

pub returns-in-Renew-clause-same_seal : goal.returns-in-Renew-clause-same_seal
returns-in-Renew-clause-same_seal g c = c.renew.ensures.same_seal

pub returns-in-End-clause-steps : goal.returns-in-End-clause-steps
returns-in-End-clause-steps g c =
    subst (λ (event : Event). StepsFrom g.S.Seal.lock g.D.Draw.step g.V.Service.step g.V.Service.fresh_state (g.S.Seal.keys c.args.self.now.host.server.seal) c.args.self.now event c.end.result c.end.new.self)
    (sym (c.in-End.is)) c.end.ensures.steps

pub returns-in-End-clause-same_seal : goal.returns-in-End-clause-same_seal
returns-in-End-clause-same_seal g c = c.end.ensures.same_seal
