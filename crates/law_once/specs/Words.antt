-- The words that a world drew for names: session numbers, unique numbers and salts.
use Rattle.std.specs.Prelude.{◌≡◌, ◌≢◌, ℕ, suc, ◌+◌, ◌<◌, ◌≤◌, ◌==◌, if◌then◌else◌, List, [], ◌∷◌, map}
use Rattle.std.specs.List.{All, AllPairs}
use Rattle.draws.specs.Draws.{draw_after, next_words, word_after}
use Rattle.draws.specs.Steps.{step_word}
use Rattle.world_rules.specs.Setting.{Setting}
use Rattle.world_rules.specs.World.{World}
use Rattle.world_rules.specs.Premises.{names_drawn}

-- how often a word stands in a list
abbrev pub times : ℕ → List ℕ → ℕ
times word [] = 0
times word (other ∷ words) = if other == word then suc (times word words) else times word words

-- From the one world to the other n words were drawn, and what stands among the names further is among these: no word
-- drawn once gives two names.
pub record AreDrawn {S V : Type 0} (setting : Setting S V) (before : World S V) (n : ℕ) (behind : World S V) : Type 0 where
  pub draw : behind.draw ≡ draw_after setting.step n before.draw
  pub names : (word : ℕ) → times word (names_drawn behind) ≤ times word (names_drawn before) + times word (next_words setting.step n before.draw)

-- the words are those of places of what is drawn, among its first n, each place once
pub record HavePlaces {S : Type 0} (step : S → ℕ × S) (draw : S) (n : ℕ) (words : List ℕ) : Type 0 where
  pub places : List ℕ
  pub below : All (λ place. place < n) places
  pub apart : AllPairs (λ place other. place ≢ other) places
  pub there : words ≡ map (λ place. word_after step place draw) places

-- the step of a draw that gave so many words of a `StepDraw`, one after the other; it doesn't begin again behind the last one
abbrev pub given_step : ℕ → ℕ × ℕ
given_step given = (step_word (given + 1), given + 1)
