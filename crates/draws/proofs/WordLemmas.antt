-- Words that are drawn one after another.
use Rattle.std.proofs.Common.{◌≡◌, ℕ, zero, suc, ◌+◌, ◌∷◌, ◌++◌, length, ap, ◌∙◌, refl, arith}
use Rattle.draws.specs.Draws.{draw_after, next_words}

-- so many words, and then so many more
pub draw_after-add : {S : Type 0} (step : S → ℕ × S) (n m : ℕ) (draw : S)
    → draw_after step (n + m) draw ≡ draw_after step m (draw_after step n draw)
draw_after-add step zero m draw = let e : 0 + m ≡ m = omega arith in ap (λ k. draw_after step k draw) e
draw_after-add step (suc n) m draw =
    let e : suc n + m ≡ suc (n + m) = omega arith in
    ap (λ k. draw_after step k draw) e ∙ draw_after-add step n m (step draw).1

pub next_words-add : {S : Type 0} (step : S → ℕ × S) (n m : ℕ) (draw : S)
    → next_words step (n + m) draw ≡ next_words step n draw ++ next_words step m (draw_after step n draw)
next_words-add step zero m draw = let e : 0 + m ≡ m = omega arith in ap (λ k. next_words step k draw) e
next_words-add step (suc n) m draw =
    let e : suc n + m ≡ suc (n + m) = omega arith in
    ap (λ k. next_words step k draw) e ∙ ap (λ ws. (step draw).0 ∷ ws) (next_words-add step n m (step draw).1)

pub length-next_words : {S : Type 0} (step : S → ℕ × S) (n : ℕ) (draw : S) → length (next_words step n draw) ≡ n
length-next_words step zero draw = refl
length-next_words step (suc n) draw = let e = length-next_words step n (step draw).1 in omega (arith, e)
