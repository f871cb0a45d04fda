-- What is drawn. A draw gives words of 64 bits one after another: its step is the next word, and the draw after it.
use Rattle.std.specs.Prelude.{ℕ, zero, suc, ◌+◌, ◌/◌, List, [], ◌∷◌, take}
use Rattle.std.specs.Int.{w64, to_le_bytes}
use Rattle.std.specs.List.{flat_map}

-- the draw after its next n words
abbrev pub draw_after : {S : Type 0} → (S → ℕ × S) → ℕ → S → S
draw_after step zero draw = draw
draw_after step (suc n) draw = draw_after step n (step draw).1

-- the next n words, in order
abbrev pub next_words : {S : Type 0} → (S → ℕ × S) → ℕ → S → List ℕ
next_words step zero draw = []
next_words step (suc n) draw = (step draw).0 ∷ next_words step n (step draw).1

-- the word that comes after n others
abbrev pub word_after : {S : Type 0} → (S → ℕ × S) → ℕ → S → ℕ
word_after step n draw = (step (draw_after step n draw)).0

-- how many words n bytes take
abbrev pub words_for : ℕ → ℕ
words_for n = (n + 7) / 8

-- the next n bytes: those of the next words, the least byte of each first, the last word cut
abbrev pub next_bytes : {S : Type 0} → (S → ℕ × S) → ℕ → S → List ℕ
next_bytes step n draw = take n (flat_map (to_le_bytes w64) (next_words step (words_for n) draw))
