use Rattle.std.proofs.Common.{◌<◌, ◌↔◌, ℕ, subst, sym}
use Rattle.std.specs.Prelude.{IsTrue}
use Rattle.cmd_sim.specs.Words.{words_max}
use Rattle.cmd_sim.specs.Worlds.{StandsFor}
use Rattle.cmd_sim.proofs.Settling.{drawn-below}
use Rattle.cmd_sim.proofs.schedule_world.SimWorld.draws_on.Goals as goal

pub returns : goal.returns
returns c = λ world stands.
    drawn-below c.self.inside.world world c.counts_on.result words_max
    (subst (λ (draw : ℕ). IsTrue c.counts_on.result ↔ (draw < words_max)) c.draw.ensures c.counts_on.ensures)
    (subst (λ kept. StandsFor kept world) (sym c.self.view_is) stands)
