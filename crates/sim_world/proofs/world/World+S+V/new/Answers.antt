use Rattle.std.proofs.Common.{ℕ, subst}
use Rattle.world_rules.specs.World.{begins}
use Rattle.sim_world.specs.Drawn.{steps_of_words}
use Rattle.sim_world.specs.Worlds.{Stands, world_setting}
use Rattle.sim_world.proofs.world.World+S+V.new.Goals as goal

pub returns-clause-stands : goal.returns-clause-stands
returns-clause-stands g c = λ sealing.
    let setting = world_setting steps_of_words g.V.Service.step g.V.Service.fresh_state (g.S.Seal.keys c.args.seal) sealing in
    subst (λ (draw : ℕ). Stands setting c.with_draw.result (begins setting draw)) c.new.ensures (c.with_draw.ensures.stands sealing)
