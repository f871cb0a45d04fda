use Rattle.std.proofs.Common.{subst, sym}
use Rattle.sched_text.specs.declared.event.Event.{Event}
use Rattle.sim_world.specs.Told.{StepsFrom}
use Rattle.sim_world.proofs.world.World.does.Goals as goal

pub returns-in-Client-clause-steps : goal.returns-in-Client-clause-steps
returns-in-Client-clause-steps g c =
    subst (λ (event : Event). StepsFrom g.S.Seal.lock g.D.Draw.step g.V.Service.step g.V.Service.fresh_state (g.S.Seal.keys c.args.self.now.host.server.seal) c.args.self.now event c.client_joins.result c.client_joins.new.self)
    (sym (c.in-Client.is)) c.client_joins.ensures.steps

pub returns-in-Client-clause-same_seal : goal.returns-in-Client-clause-same_seal
returns-in-Client-clause-same_seal g c = c.client_joins.ensures.same_seal

pub returns-in-ClientTemp-clause-steps : goal.returns-in-ClientTemp-clause-steps
returns-in-ClientTemp-clause-steps g c =
    subst (λ (event : Event). StepsFrom g.S.Seal.lock g.D.Draw.step g.V.Service.step g.V.Service.fresh_state (g.S.Seal.keys c.args.self.now.host.server.seal) c.args.self.now event c.client_temp_joins.result c.client_temp_joins.new.self)
    (sym (c.in-ClientTemp.is)) c.client_temp_joins.ensures.steps

pub returns-in-ClientTemp-clause-same_seal : goal.returns-in-ClientTemp-clause-same_seal
returns-in-ClientTemp-clause-same_seal g c = c.client_temp_joins.ensures.same_seal

pub returns-in-ClockAll-clause-steps : goal.returns-in-ClockAll-clause-steps
returns-in-ClockAll-clause-steps g c =
    subst (λ (event : Event). StepsFrom g.S.Seal.lock g.D.Draw.step g.V.Service.step g.V.Service.fresh_state (g.S.Seal.keys c.args.self.now.host.server.seal) c.args.self.now event c.clock_all.result c.clock_all.new.self)
    (sym (c.in-ClockAll.is)) c.clock_all.ensures.steps

pub returns-in-ClockAll-clause-same_seal : goal.returns-in-ClockAll-clause-same_seal
returns-in-ClockAll-clause-same_seal g c = c.clock_all.ensures.same_seal

pub returns-in-ClockServer-clause-steps : goal.returns-in-ClockServer-clause-steps
returns-in-ClockServer-clause-steps g c =
    subst (λ (event : Event). StepsFrom g.S.Seal.lock g.D.Draw.step g.V.Service.step g.V.Service.fresh_state (g.S.Seal.keys c.args.self.now.host.server.seal) c.args.self.now event c.clock_server.result c.clock_server.new.self)
    (sym (c.in-ClockServer.is)) c.clock_server.ensures.steps

pub returns-in-ClockServer-clause-same_seal : goal.returns-in-ClockServer-clause-same_seal
returns-in-ClockServer-clause-same_seal g c = c.clock_server.ensures.same_seal

pub returns-in-ClockClient-clause-steps : goal.returns-in-ClockClient-clause-steps
returns-in-ClockClient-clause-steps g c =
    subst (λ (event : Event). StepsFrom g.S.Seal.lock g.D.Draw.step g.V.Service.step g.V.Service.fresh_state (g.S.Seal.keys c.args.self.now.host.server.seal) c.args.self.now event c.clock_client.result c.clock_client.new.self)
    (sym (c.in-ClockClient.is)) c.clock_client.ensures.steps

pub returns-in-ClockClient-clause-same_seal : goal.returns-in-ClockClient-clause-same_seal
returns-in-ClockClient-clause-same_seal g c = c.clock_client.ensures.same_seal

pub returns-in_default-clause-steps : goal.returns-in_default-clause-steps
returns-in_default-clause-steps g c = c.at_server_or_other.ensures.steps

pub returns-in_default-clause-same_seal : goal.returns-in_default-clause-same_seal
returns-in_default-clause-same_seal g c = c.at_server_or_other.ensures.same_seal
