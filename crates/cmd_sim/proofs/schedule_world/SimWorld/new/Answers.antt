use Rattle.std.proofs.Common.{◌∙◌, subst, sym}
use Rattle.sim_world.specs.Keys.{HasWorldKeys}
use Rattle.cmd_sim.specs.Worlds.{sim_sealing}
use Rattle.cmd_sim.proofs.Settling.{begun}
use Rattle.cmd_sim.proofs.schedule_world.SimWorld.new.Goals as goal

pub with_draw-requires : goal.with_draw-requires
with_draw-requires c = record { keys = subst HasWorldKeys (sym (c.new-seal.ensures ∙ c.in_ok-sim_keys.ensures)) c.setting_of_sim.ensures.keys }

pub invariant_of-result : goal.invariant_of-result
invariant_of-result c = c.with_draw.ensures.seal ∙ (c.new-seal.ensures ∙ c.in_ok-sim_keys.ensures)

pub returns : goal.returns
returns c = begun c.new-seal.result (c.new-seal.ensures ∙ c.in_ok-sim_keys.ensures) c.with_draw.result c.new.result c.new.ensures (c.with_draw.ensures.stands sim_sealing)
