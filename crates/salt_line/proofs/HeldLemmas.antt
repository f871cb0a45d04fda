-- Rows that are held as the words of periods that follow one another.
use Rattle.std.proofs.Common.{◌≡◌, ℕ, zero, suc, ◌+◌, ◌-◌, ◌<◌, ◌≤◌, ◌⊎◌, inl, inr, Bool, true, false, cond, List, [], ◌∷◌, ◌++◌, length, drop, Some, None, ap, ◌∙◌, sym, refl, subst, arith}
use Rattle.std.proofs.lemmas.Bool.{lt-ltb, le-ltb, eq-eqb, ne_eqb}
use Rattle.std.specs.Prelude.{Any, filter, nat_lt, nat_eq, slice_get, ◌||◌}
use Rattle.salt_line.specs.Rows.{Row}
use Rattle.salt_line.specs.Needed.{has_row, word_in}
use Rattle.std.proofs.Math.Nat.{eq-or-lt_of_le}
use Rattle.salt_line.specs.Held.{rows_of, IsIn}
use Rattle.salt_line.proofs.TestLemmas.{filter_yes, filter_no, any_here, any_there, any_cases, not_any}

-- a word is that of the row of its period
pub row_at : (first k w : ℕ) (words : List ℕ) → slice_get words k ≡ Some w
    → (has_row (first + k) (rows_of first words) ≡ true) × (word_in (first + k) (rows_of first words) ≡ w)
row_at first k w [] h = cc
row_at first zero w (v ∷ words) h =
    let same : nat_eq first (first + 0) ≡ true = eq-eqb first (first + 0) (omega arith) in
    let is : v ≡ w = cc in (
      ap (λ b. b || has_row (first + 0) (rows_of (suc first) words)) same,
      ap (λ b. cond b v (word_in (first + 0) (rows_of (suc first) words))) same ∙ is,
    )
row_at first (suc k) w (v ∷ words) h =
    let other : nat_eq first (first + suc k) ≡ false = ne_eqb first (first + suc k) (λ e. omega arith) in
    let e : suc first + k ≡ first + suc k = omega arith in
    let rest = row_at (suc first) k w words h in (
      ap (λ b. b || has_row (first + suc k) (rows_of (suc first) words)) other
          ∙ ap (λ q. has_row q (rows_of (suc first) words)) (sym e) ∙ rest.0,
      ap (λ b. cond b v (word_in (first + suc k) (rows_of (suc first) words))) other
          ∙ ap (λ q. word_in q (rows_of (suc first) words)) (sym e) ∙ rest.1,
    )

-- past the last word there is no row
pub no_row_past : (q first : ℕ) (words : List ℕ) → first + length words ≤ q → has_row q (rows_of first words) ≡ false
no_row_past q first [] past = refl
no_row_past q first (v ∷ words) past =
    let other : nat_eq first q ≡ false = ne_eqb first q (λ e. omega arith) in
    ap (λ b. b || has_row q (rows_of (suc first) words)) other ∙ no_row_past q (suc first) words (omega arith)

-- one more word at the end
pub rows_of-push : (first w : ℕ) (words : List ℕ)
    → rows_of first (words ++ w ∷ []) ≡ rows_of first words ++ record { period = first + length words; word = w } ∷ []
rows_of-push first w [] =
    let e : first ≡ first + 0 = omega arith in ap (λ (q : ℕ). let row : Row = record { period = q; word = w } in row ∷ []) e
rows_of-push first w (v ∷ words) =
    let e : suc first + length words ≡ first + suc (length words) = omega arith in
    let row : Row = record { period = first; word = v } in
    let last : ℕ → List Row = λ q. record { period = q; word = w } ∷ [] in
    ap (λ l. row ∷ l) (rows_of-push (suc first) w words ∙ ap (λ q. rows_of (suc first) words ++ last q) e)

-- the rows that have not ended in a period
abbrev goes_on : ℕ → Row → Bool
goes_on period row = nat_lt period (row.period + 2)

pub all_go_on : (period first : ℕ) (words : List ℕ) → period ≤ first + 1
    → filter (goes_on period) (rows_of first words) ≡ rows_of first words
all_go_on period first [] early = refl
all_go_on period first (v ∷ words) early =
    filter_yes (goes_on period) record { period = first; word = v } (rows_of (suc first) words)
    (lt-ltb period (first + 2) (omega arith))
    ∙ ap (λ l. record { period = first; word = v } ∷ l) (all_go_on period (suc first) words (omega arith))

-- the first d rows have ended, and the others go on
pub others_go_on : (period first d : ℕ) (words : List ℕ) → d ≤ length words → d ≤ period - 1 - first
    → period ≤ first + d + 1 → filter (goes_on period) (rows_of first words) ≡ rows_of (first + d) (drop d words)
others_go_on period first zero words few ended near =
    let e : first ≡ first + 0 = omega arith in
    all_go_on period first words (omega arith) ∙ ap (λ q. rows_of q words) e
others_go_on period first (suc d) [] few ended near = absurd (omega arith)
others_go_on period first (suc d) (v ∷ words) few ended near =
    let e : suc first + d ≡ first + suc d = omega arith in
    filter_no (goes_on period) record { period = first; word = v } (rows_of (suc first) words)
    (le-ltb period (first + 2) (omega arith))
    ∙ others_go_on period (suc first) d words (omega arith) (omega arith) (omega arith)
    ∙ ap (λ q. rows_of q (drop d words)) e

pub none_goes_on : (period first : ℕ) (words : List ℕ) → length words ≤ period - 1 - first
    → filter (goes_on period) (rows_of first words) ≡ []
none_goes_on period first [] ended = refl
none_goes_on period first (v ∷ words) ended =
    filter_no (goes_on period) record { period = first; word = v } (rows_of (suc first) words)
    (le-ltb period (first + 2) (omega arith))
    ∙ none_goes_on period (suc first) words (omega arith)

-- some row of these is a word with its period, both ways
pub any_at : (P : Row → Type 0) (first k w : ℕ) (words : List ℕ) → slice_get words k ≡ Some w
    → P record { period = first + k; word = w } → Any P (rows_of first words)
any_at P first k w [] h holds = absurd (cc)
any_at P first zero w (v ∷ words) h holds =
    let e : first + 0 ≡ first = omega arith in
    let is : w ≡ v = cc in
    any_here P record { period = first; word = v } (rows_of (suc first) words)
    (subst (λ q. P record { period = q; word = v }) e (subst (λ u. P record { period = first + 0; word = u }) is holds))
any_at P first (suc k) w (v ∷ words) h holds =
    let e : first + suc k ≡ suc first + k = omega arith in
    any_there P record { period = first; word = v } (rows_of (suc first) words)
    (any_at P (suc first) k w words h (subst (λ q. P record { period = q; word = w }) e holds))

pub at_any : (P : Row → Type 0) (first : ℕ) (words : List ℕ) → Any P (rows_of first words)
    → (k : ℕ) × (w : ℕ) × (slice_get words k ≡ Some w) × P record { period = first + k; word = w }
at_any P first [] some = absurd (not_any P some)
at_any P first (v ∷ words) some =
    elim (any_cases P record { period = first; word = v } (rows_of (suc first) words) some) [
      | inl here ↦
          let e : first ≡ first + 0 = omega arith in (0, v, refl, subst (λ q. P record { period = q; word = v }) e here)
      | inr there ↦
          let rest = at_any P (suc first) words there in
          let e : suc first + rest.0 ≡ first + suc rest.0 = omega arith in
          (suc rest.0, rest.1, rest.2, subst (λ q. P record { period = q; word = rest.1 }) e rest.3)
    ]

pub none_past : (words : List ℕ) (k : ℕ) → slice_get words k ≡ None → length words ≤ k
none_past [] k h = omega arith
none_past (v ∷ words) zero h = absurd (cc)
none_past (v ∷ words) (suc k) h = let rest = none_past words k h in omega arith

-- a held word of this period or the one before is in some row
pub held-in : (period first q w : ℕ) (words : List ℕ) → first ≤ q → slice_get words (q - first) ≡ Some w → q ≤ period
    → period < q + 2 → Any (IsIn period w) (rows_of first words)
held-in period first q w words above h low high =
    let e : first + (q - first) ≡ q = omega arith in
    any_at (IsIn period w) first (q - first) w words h (refl, omega arith, omega arith)

in_at-go : (period first w k : ℕ) (words : List ℕ) → slice_get words k ≡ Some w → first + k ≤ period → period < first + k + 2
    → ((first + k ≡ period) ⊎ (first + k < period))
    → ((first ≤ period) × (slice_get words (period - first) ≡ Some w))
    ⊎ ((0 < period) × ((first ≤ period - 1) × (slice_get words (period - 1 - first) ≡ Some w)))
in_at-go period first w k words h low high (inl this) =
    let e : period - first ≡ k = omega arith in
    inl (omega arith, ap (slice_get words) e ∙ h)
in_at-go period first w k words h low high (inr before) =
    let e : period - 1 - first ≡ k = omega arith in
    inr (omega arith, (omega arith, ap (slice_get words) e ∙ h))

-- and back
pub in-held : (period first w : ℕ) (words : List ℕ) → Any (IsIn period w) (rows_of first words)
    → ((first ≤ period) × (slice_get words (period - first) ≡ Some w))
    ⊎ ((0 < period) × ((first ≤ period - 1) × (slice_get words (period - 1 - first) ≡ Some w)))
in-held period first w words some =
    let found = at_any (IsIn period w) first words some in
    let is : slice_get words found.0 ≡ Some w = found.2 ∙ ap Some found.3.0 in
    let low : first + found.0 ≤ period = found.3.1 in
    let high : period < first + found.0 + 2 = found.3.2 in
    in_at-go period first w found.0 words is low high (eq-or-lt_of_le low)
