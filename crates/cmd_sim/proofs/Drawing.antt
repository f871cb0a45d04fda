-- Words that are counted: as long as the count isn't at its end, they are the words of a `StepDraw`, one after the other.
use Rattle.std.proofs.Common.{◌≡◌, ◌≢◌, ◌∙◌, ◌<◌, ◌+◌, ◌^◌, ℕ, zero, suc, min, length, get_or, ap, sym, arith, refl}
use Rattle.std.specs.List.{All, AllPairs}
use Rattle.draws.specs.Draws.{draw_after, next_words}
use Rattle.draws.specs.Steps.{step_word}
use Rattle.cmd_sim.specs.Words.{counted_step, words_max}

-- so many were given then
pub given-below : (n given : ℕ) → draw_after counted_step n given < words_max → given + n < words_max
given-below zero given h = omega (arith, h)
given-below (suc n) given h = omega (arith, given-below n (min (given + 1) words_max) h)

pub counted-length : (n given : ℕ) → length (next_words counted_step n given) ≡ n
counted-length zero given = refl
counted-length (suc n) given = ap suc (counted-length n (min (given + 1) words_max))

counted-on : (given : ℕ) → given + 1 < words_max → min (given + 1) words_max ≡ given + 1
counted-on given h = omega (arith, h)

-- the word at each place
pub counted-at : (n given i : ℕ) (d : ℕ) → given + n < words_max → i < n → get_or (next_words counted_step n given) i d ≡ step_word (given + 1 + i)
counted-at zero given i d h below = absurd (omega (arith, below))
counted-at (suc n) given zero d h below = ap step_word (omega arith)
counted-at (suc n) given (suc i) d h below =
    ap (λ (at : ℕ). get_or (next_words counted_step n at) i d) (counted-on given (omega (arith, h, below)))
    ∙ (counted-at n (given + 1) i d (omega (arith, h)) (omega (arith, below)) ∙ ap step_word (omega arith))

module _ (not_zero : (i : ℕ) → 0 < i → i < 2 ^ 64 → step_word i ≢ 0) (apart : (i j : ℕ) → i < 2 ^ 64 → j < 2 ^ 64 → i ≢ j → step_word i ≢ step_word j) (n : ℕ) (few : n < words_max) where
  below-end : (i : ℕ) → i < n → 0 + 1 + i < 2 ^ 64
  below-end i h = omega (arith, few, h)

  word-at : (i d : ℕ) → i < length (next_words counted_step n 0) → get_or (next_words counted_step n 0) i d ≡ step_word (0 + 1 + i)
  word-at i d h = counted-at n 0 i d (omega (arith, few)) (omega (arith, h, counted-length n 0))

  pub counted-some : All (λ word. word ≢ 0) (next_words counted_step n 0)
  counted-some i d h same = not_zero (0 + 1 + i) (omega arith) (below-end i (omega (arith, h, counted-length n 0))) (sym (word-at i d h) ∙ same)

  pub counted-apart : AllPairs (λ word other. word ≢ other) (next_words counted_step n 0)
  counted-apart i j d before h same =
      let first : i < length (next_words counted_step n 0) = omega (arith, before, h) in
      apart (0 + 1 + i) (0 + 1 + j) (below-end i (omega (arith, first, counted-length n 0))) (below-end j (omega (arith, h, counted-length n 0))) (omega (arith, before))
      (sym (word-at i d first) ∙ (same ∙ word-at j d h))
