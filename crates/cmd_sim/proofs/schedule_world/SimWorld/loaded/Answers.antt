use Rattle.std.proofs.Common.{subst, sym}
use Rattle.world_rules.specs.World.{begins}
use Rattle.cmd_sim.specs.Worlds.{StandsFor, sim_setting}
use Rattle.cmd_sim.proofs.Settling.{loaded}
use Rattle.cmd_sim.proofs.schedule_world.SimWorld.loaded.Goals as goal

pub returns : goal.returns
returns c = λ stands.
    let inside = c.self.inside.world in
    loaded inside.host.server.seal c.self.invariant inside c.in_ok-world.world c.args.calls c.setting_of_sim.ensures.seal c.in_ok-world.ensures.loaded
    (subst (λ kept. StandsFor kept (begins sim_setting 0)) (sym c.self.view_is) stands)
