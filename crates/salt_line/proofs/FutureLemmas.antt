-- Rows that are handed out.
use Rattle.std.proofs.Common.{◌≡◌, ℕ, zero, suc, ◌+◌, ◌*◌, ◌<◌, ◌≤◌, ◌^◌, List, [], ◌∷◌, ◌++◌, ap, ◌∙◌, refl, arith}
use Rattle.std.specs.Prelude.{All}
use Rattle.std.proofs.lemmas.List.Elements.{All-cons, All-nil}
use Rattle.salt_line.specs.declared.salt_line.SaltRow.{SaltRow}
use Rattle.salt_line.specs.Rows.{Row, since, until}
use Rattle.salt_line.specs.Needed.{word_in}
use Rattle.salt_line.specs.Line.{Line}
use Rattle.salt_line.specs.Future.{salt_rows_from}

-- the row of a period, as it is handed out
abbrev pub salt_row : ℕ → ℕ → ℕ → SaltRow
salt_row start period word = record { since = since start period; until = until start period; salt = word }

-- rows in which these periods have the same words are handed out alike
pub salt_rows_from-same : (start : ℕ) (xs ys : List Row) (period n : ℕ)
    → ((q : ℕ) → period ≤ q → q < period + n → word_in q ys ≡ word_in q xs)
    → salt_rows_from record { start = start; rows = ys } period n ≡ salt_rows_from record { start = start; rows = xs } period n
salt_rows_from-same start xs ys period zero same = refl
salt_rows_from-same start xs ys period (suc n) same =
    let here : List SaltRow → ℕ → List SaltRow = λ l w. salt_row start period w ∷ l in
    ap (here (salt_rows_from record { start = start; rows = ys } (suc period) n)) (same period (omega arith) (omega arith))
    ∙ ap (λ l. here l (word_in period xs))
    (salt_rows_from-same start xs ys (suc period) n (λ q low high. same q (omega arith) (omega arith)))

-- one more row at the end
pub salt_rows_from-more : (line : Line) (period n : ℕ)
    → salt_rows_from line period (n + 1)
    ≡ salt_rows_from line period n ++ salt_row line.start (period + n) (word_in (period + n) line.rows) ∷ []
salt_rows_from-more line period zero =
    let e : period ≡ period + 0 = omega arith in
    ap (λ q. salt_row line.start q (word_in q line.rows) ∷ []) e
salt_rows_from-more line period (suc n) =
    let e : suc period + n ≡ period + suc n = omega arith in
    let f : suc n + 1 ≡ suc (n + 1) = omega arith in
    let first = salt_row line.start period (word_in period line.rows) in
    ap (salt_rows_from line period) f
    ∙ ap (λ l. first ∷ l) (salt_rows_from-more line (suc period) n
    ∙ ap (λ q. salt_rows_from line (suc period) n ++ salt_row line.start q (word_in q line.rows) ∷ []) e)

-- rows that end early enough have times of 32 bits
pub early-salt_rows_from : (line : Line) (period n : ℕ) → line.start + 1800 * (period + n) + 3600 ≤ 4294967295
    → All (λ row. (row.since < row.until) × (row.until < 2 ^ 32)) (salt_rows_from line period n)
early-salt_rows_from line period zero early = All-nil _
early-salt_rows_from line period (suc n) early =
    All-cons (λ row. (row.since < row.until) × (row.until < 2 ^ 32)) (salt_row line.start period (word_in period line.rows)) _ (omega arith, omega arith)
    (early-salt_rows_from line (suc period) n (omega arith))
