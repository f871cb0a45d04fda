-- What is kept stands for a line.
use Rattle.std.proofs.Common.{◌≡◌, ℕ, ◌+◌, ◌≤◌, true, List, ap, ◌∙◌, sym, subst, arith}
use Rattle.std.proofs.lemmas.Bool.{ltb-true, lt-ltb}
use Rattle.std.specs.Prelude.{Any, filter, nat_lt}
use Rattle.salt_line.specs.Rows.{Row, until, IsValidAt, period_at}
use Rattle.salt_line.specs.Needed.{word_in, needed_from}
use Rattle.salt_line.specs.Line.{Line, Kept, Stands, line_after, draw_after_rows, drawn_rows, current_salt}
use Rattle.salt_line.proofs.TestLemmas.{same_tests, filter-ext, filter-filter, any_from_filter, any_to_filter, any_weaker}
use Rattle.salt_line.specs.Held.{IsIn}
use Rattle.salt_line.specs.Future.{salt_rows_from, salt_rows}
use Rattle.salt_line.proofs.FutureLemmas.{salt_rows_from-same}
use Rattle.salt_line.proofs.NeededLemmas.{needed_from-filter, word_in-filter}

-- at a later moment, what has not ended by then stands for the line
pub Stands-later : (kept : Kept) (line : Line) (now : ℕ) (rows : List Row) → kept.start ≤ now → kept.latest ≤ now
    → rows ≡ filter (λ row. nat_lt (period_at kept.start now) (row.period + 2)) kept.rows → Stands kept line
    → Stands record { start = kept.start; latest = now; rows = rows } line
Stands-later kept line now rows started later left stands = record {
  start = stands.start;
  rows =
      left
      ∙ filter-ext (λ row. nat_lt (period_at kept.start now) (row.period + 2))
      (λ row. nat_lt now (until line.start row.period))
      (λ row. same_tests (period_at kept.start now) (row.period + 2) now (until kept.start row.period)
      (λ h. omega arith) (λ h. omega arith)
      ∙ ap (λ s. nat_lt now (until s row.period)) stands.start) kept.rows
      ∙ ap (filter (λ row. nat_lt now (until line.start row.period))) stands.rows
      ∙ filter-filter (λ row. nat_lt kept.latest (until line.start row.period))
      (λ row. nat_lt now (until line.start row.period))
      (λ row h. let after = ltb-true now (until line.start row.period) h in
      lt-ltb kept.latest (until line.start row.period) (omega arith)) line.rows;
}

-- a period from the current one on has not ended
goes_on : (start now latest : ℕ) → start ≤ now → latest ≤ now → (r : ℕ) → period_at start now ≤ r
    → nat_lt latest (until start r) ≡ true
goes_on start now latest started later r above = lt-ltb latest (until start r) (omega arith)

-- what is needed of the kept rows
module _ {S : Type 0} (step : S → ℕ × S) (n now : ℕ) (kept : Kept) (line : Line) (draw : S) (rows : List Row) (after : S)
    (stands : Stands kept line) (latest : kept.latest ≡ now) (started : kept.start ≤ now)
    (is : ◌≡◌ {A = List Row × S} (rows, after) (needed_from step (period_at kept.start now) n (kept.rows, draw))) where
  all_of : ◌≡◌ {A = List Row × S} (rows, after) (
    filter (λ row. nat_lt kept.latest (until line.start row.period)) (drawn_rows step now n line draw).0,
    (drawn_rows step now n line draw).1,
  )
  all_of =
      is
      ∙ ap (λ s. needed_from step (period_at s now) n (kept.rows, draw)) stands.start
      ∙ ap (λ rs. needed_from step (period_at line.start now) n (rs, draw)) stands.rows
      ∙ needed_from-filter (λ q. nat_lt kept.latest (until line.start q)) step (period_at line.start now) n
      (goes_on line.start now kept.latest (subst (λ s. s ≤ now) stands.start started) (omega arith)) line.rows draw

  pub Stands-drawn : Stands record { start = kept.start; latest = kept.latest; rows = rows } (line_after step now n line draw)
  Stands-drawn = record { start = stands.start; rows = ap (λ b. b.0) all_of }

  pub draw-drawn : after ≡ draw_after_rows step now n line draw
  draw-drawn = ap (λ b. b.1) all_of

  pub word-drawn : (q : ℕ) → period_at kept.start now ≤ q → word_in q rows ≡ word_in q (line_after step now n line draw).rows
  word-drawn q above =
      ap (λ b. word_in q b.0) all_of
      ∙ word_in-filter (λ r. nat_lt kept.latest (until line.start r)) q
      (goes_on line.start now kept.latest (subst (λ s. s ≤ now) stands.start started) (omega arith) q
      (subst (λ s. period_at s now ≤ q) stands.start above)) (drawn_rows step now n line draw).0

  pub salt-drawn : (q : ℕ) → q ≡ period_at kept.start now
      → word_in q rows ≡ current_salt (line_after step now n line draw) now
  salt-drawn q at =
      word-drawn q (omega arith)
      ∙ ap (λ r. word_in r (line_after step now n line draw).rows) (at ∙ ap (λ s. period_at s now) stands.start)

  pub rows-drawn : (q m : ℕ) → q ≡ period_at kept.start now
      → salt_rows_from record { start = kept.start; rows = rows } q m ≡ salt_rows (line_after step now n line draw) now m
  rows-drawn q m at =
      ap (λ (s : ℕ). salt_rows_from record { start = s; rows = rows } q m) stands.start
      ∙ ap (λ p. salt_rows_from record { start = line.start; rows = rows } p m) (at ∙ ap (λ s. period_at s now) stands.start)
      ∙ salt_rows_from-same line.start (line_after step now n line draw).rows rows (period_at line.start now) m
      (λ r low high. word-drawn r (subst (λ s. period_at s now ≤ r) (sym stands.start) low))

-- a salt of a kept row of this period or the one before is valid
pub valid-from_kept : (kept : Kept) (line : Line) (now salt : ℕ) → kept.start ≤ now → Stands kept line
    → Any (IsIn (period_at kept.start now) salt) kept.rows
    → Any (λ row. (row.word ≡ salt) × IsValidAt line.start row now) line.rows
valid-from_kept kept line now salt started stands some =
    let same_start = stands.start in
    any_weaker (IsIn (period_at kept.start now) salt) (λ row. (row.word ≡ salt) × IsValidAt line.start row now)
    (λ row h. let low = h.1 in let high = h.2 in (h.0, (omega arith, omega arith))) line.rows
    (any_from_filter (IsIn (period_at kept.start now) salt) (λ row. nat_lt kept.latest (until line.start row.period)) line.rows
    (subst (Any (IsIn (period_at kept.start now) salt)) stands.rows some))

-- a valid salt is that of a kept row of this period or the one before
pub kept-from_valid : (kept : Kept) (line : Line) (now salt : ℕ) → kept.start ≤ now → kept.latest ≤ now → Stands kept line
    → Any (λ row. (row.word ≡ salt) × IsValidAt line.start row now) line.rows
    → Any (IsIn (period_at kept.start now) salt) kept.rows
kept-from_valid kept line now salt started later stands some =
    let same_start = stands.start in
    any_weaker (λ row. (row.word ≡ salt) × IsValidAt line.start row now) (IsIn (period_at kept.start now) salt)
    (λ row h. let low = h.1.0 in let high = h.1.1 in (h.0, omega arith, omega arith)) kept.rows
    (subst (Any (λ row. (row.word ≡ salt) × IsValidAt line.start row now)) (sym stands.rows)
    (any_to_filter (λ row. (row.word ≡ salt) × IsValidAt line.start row now)
    (λ row. nat_lt kept.latest (until line.start row.period))
    (λ row h. let high = h.1.1 in lt-ltb kept.latest (until line.start row.period) (omega arith)) line.rows some))
