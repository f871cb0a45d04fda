-- The words drawn for names aren't 0 and differ, as long as the count of words isn't at its end.
use Rattle.std.proofs.Common.{◌≢◌, ◌<◌, ◌^◌, ℕ, subst, arith}
use Rattle.std.specs.List.{All, AllPairs}
use Rattle.draws.specs.Draws.{next_words}
use Rattle.draws.specs.Steps.{step_word}
use Rattle.law_once.specs.Words.{AreDrawn}
use Rattle.world_rules.specs.Premises.{Fresh}
use Rattle.world_rules.specs.Setting.{Setting}
use Rattle.world_rules.specs.World.{World, begins}
use Rattle.cmd_sim.specs.Words.{words_max}
use Rattle.cmd_sim.specs.Worlds.{Registers, sim_setting}
use Rattle.cmd_sim.proofs.Drawing.{given-below, counted-some, counted-apart}

pub fresh-drawn : ((setting : Setting ℕ Registers) (draw n : ℕ) (world : World ℕ Registers) → AreDrawn setting (begins setting draw) n world
    → All (λ word. word ≢ 0) (next_words setting.step n draw) → AllPairs (λ word other. word ≢ other) (next_words setting.step n draw) → Fresh world)
    → ((i : ℕ) → 0 < i → i < 2 ^ 64 → step_word i ≢ 0) → ((i j : ℕ) → i < 2 ^ 64 → j < 2 ^ 64 → i ≢ j → step_word i ≢ step_word j)
    → (n : ℕ) (world : World ℕ Registers) → AreDrawn sim_setting (begins sim_setting 0) n world → world.draw < words_max → Fresh world
unfolding sim_setting
fresh-drawn law not_zero apart n world drawn few =
    let below : n < words_max = omega (arith, given-below n 0 (subst (λ (draw : ℕ). draw < words_max) drawn.draw few)) in
    law sim_setting 0 n world drawn (counted-some not_zero apart n below) (counted-apart not_zero apart n below)
