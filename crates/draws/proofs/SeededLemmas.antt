-- A draw that goes through places.
use Rattle.std.proofs.Common.{◌≡◌, ℕ, zero, suc, ◌+◌, ◌%◌, ◌^◌, ◌<◌, ap, ◌∙◌, arith}
use Rattle.draws.specs.Draws.{draw_after, word_after}

-- a step goes from each place to the next
abbrev pub GoesOn : {S : Type 0} → (S → ℕ × S) → (ℕ → S) → (ℕ → ℕ) → Type 0
GoesOn step standing word =
    (place : ℕ) → place < 2 ^ 64 → step (standing place) ≡ (word place, standing ((place + 1) % 2 ^ 64))

pub draw_after-standing : {S : Type 0} (step : S → ℕ × S) (standing : ℕ → S) (word : ℕ → ℕ) → GoesOn step standing word
    → (n place : ℕ) → place < 2 ^ 64 → draw_after step n (standing place) ≡ standing ((place + n) % 2 ^ 64)
draw_after-standing step standing word goes zero place inside = ap standing (omega arith)
draw_after-standing step standing word goes (suc n) place inside =
    ap (λ d. draw_after step n d.1) (goes place inside)
    ∙ draw_after-standing step standing word goes n ((place + 1) % 2 ^ 64) (omega arith)
    ∙ ap standing (omega arith)

pub word_after-standing : {S : Type 0} (step : S → ℕ × S) (standing : ℕ → S) (word : ℕ → ℕ) → GoesOn step standing word
    → (n place : ℕ) → place < 2 ^ 64 → word_after step n (standing place) ≡ word ((place + n) % 2 ^ 64)
word_after-standing step standing word goes n place inside =
    ap (λ d. (step d).0) (draw_after-standing step standing word goes n place inside)
    ∙ ap (λ d. d.0) (goes ((place + n) % 2 ^ 64) (omega arith))
