use Rattle.std.proofs.Common.{subst, sym}
use Rattle.cmd_sim.specs.Worlds.{StandsFor}
use Rattle.cmd_sim.proofs.Settling.{stepped, told}
use Rattle.cmd_sim.proofs.schedule_world.SimWorld.step.Goals as goal

pub returns-clause-refused : goal.returns-clause-refused
returns-clause-refused c = λ world stands.
    let inside = c.self.inside.world in
    told inside.host.server.seal c.self.invariant inside c.args.event.now c.step.result c.setting_of_sim.ensures.seal c.step.ensures.refused world
    (subst (λ kept. StandsFor kept world) (sym c.self.view_is) stands)

pub returns-clause-stands : goal.returns-clause-stands
returns-clause-stands c = λ world stands.
    let inside = c.self.inside.world in
    stepped inside.host.server.seal c.self.invariant inside c.step.new.self c.args.event.now c.step.result c.setting_of_sim.ensures.seal c.step.ensures.stands world
    (subst (λ kept. StandsFor kept world) (sym c.self.view_is) stands)
