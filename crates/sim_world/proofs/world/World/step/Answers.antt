use Rattle.std.proofs.Common.{◌≡◌, ◌≢◌, subst, sym}
use Rattle.std.specs.Prelude.{IfErr}
use Rattle.sim_world.specs.declared.fault.StepFault.TheVariants as told
use Rattle.sim_world.specs.Worlds.{world_setting}
use Rattle.sim_world.proofs.Step.{steps_stand}
use Rattle.sim_world.proofs.world.World.step.Goals as goal

pub returns-clause-refused : goal.returns-clause-refused
returns-clause-refused g c = λ sealing world is stands. (c.does.ensures.steps sealing world is stands).refused

pub returns-clause-stands : goal.returns-clause-stands
returns-clause-stands g c = λ sealing world is stands.
    let ring = g.S.Seal.keys c.args.self.now.host.server.seal in
    let setting = world_setting g.D.Draw.step g.V.Service.step g.V.Service.fresh_state ring sealing in
    steps_stand setting world c.args.event.now c.does.result c.does.new.self (c.does.ensures.steps sealing world is stands)

pub returns-clause-unchanged : goal.returns-clause-unchanged
returns-clause-unchanged g c = λ sealing world is stands. (c.does.ensures.steps sealing world is stands).kept

pub returns-clause-same_draw : goal.returns-clause-same_draw
returns-clause-same_draw g c = λ sealing world is stands.
    subst (λ (draw : g.row.D.Denot). IfErr c.does.result (λ fault. fault ≢ told.Memory → c.does.new.self.draw ≡ draw)) (sym stands.host.drawn)
    (c.does.ensures.steps sealing world is stands).drawn
