-- Rows are drawn when they are first needed.
use Rattle.std.specs.Prelude.{ℕ, zero, suc, ◌==◌, Bool, if◌then◌else◌, List, [], ◌∷◌, ◌++◌}
use Rattle.std.specs.List.{list_any}
use Rattle.salt_line.specs.Rows.{Row}

-- there is a row of this period
abbrev pub has_row : ℕ → List Row → Bool
has_row period rows = list_any (λ row. row.period == period) rows

-- the word of the row of this period, 0 where there is none
abbrev pub word_in : ℕ → List Row → ℕ
word_in period [] = 0
word_in period (row ∷ rows) = if row.period == period then row.word else word_in period rows

-- the rows and the draw after the row of a period is needed: where there is none, its word is drawn, and it stands last
abbrev pub needed : {S : Type 0} → (S → ℕ × S) → ℕ → List Row × S → List Row × S
needed step period both =
    if has_row period both.0
    then both
    else (both.0 ++ record { period = period; word = (step both.1).0 } ∷ [], (step both.1).1)

-- the rows and the draw after the rows of n periods from this one on are needed, one after the other
abbrev pub needed_from : {S : Type 0} → (S → ℕ × S) → ℕ → ℕ → List Row × S → List Row × S
needed_from step period zero both = both
needed_from step period (suc n) both = needed_from step (suc period) n (needed step period both)
