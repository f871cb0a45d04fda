-- Rows that are needed, in all rows and in those that a filter by periods kept.
use Rattle.std.proofs.Common.{◌≡◌, ℕ, zero, suc, ◌+◌, ◌≤◌, ◌⊎◌, inl, inr, Bool, true, false, cond, List, [], ◌∷◌, ◌++◌, ap, ◌∙◌, sym, refl, arith}
use Rattle.std.proofs.lemmas.Bool.{eqb-true, eq-eqb, ne_eqb}
use Rattle.std.proofs.lemmas.List.Elements.{filter-append}
use Rattle.std.proofs.lemmas.Map.Views.{any-filter_same}
use Rattle.std.specs.Prelude.{filter, nat_eq, ◌||◌}
use Rattle.salt_line.specs.Rows.{Row}
use Rattle.salt_line.specs.Needed.{has_row, word_in, needed, needed_from}
use Rattle.salt_line.proofs.TestLemmas.{bool_cases, filter_yes, filter_no}

-- rows put at the end don't change the word of a period that has a row
pub word_in-append : (q : ℕ) (xs ys : List Row) → has_row q xs ≡ true → word_in q (xs ++ ys) ≡ word_in q xs
word_in-append q [] ys h = cc
word_in-append q (x ∷ xs) ys h =
    (elim (nat_eq x.period q) as (λ b. (b || has_row q xs) ≡ true
    → cond b x.word (word_in q (xs ++ ys)) ≡ cond b x.word (word_in q xs)) [
      | true ↦ λ _. refl
      | false ↦ λ t. word_in-append q xs ys t
    ]) h

-- a row put at the end is that of its period where there was none
pub word_in-push : (q w : ℕ) (xs : List Row) → has_row q xs ≡ false
    → word_in q (xs ++ record { period = q; word = w } ∷ []) ≡ w
word_in-push q w [] h = ap (λ b. cond b w 0) (eq-eqb q q refl)
word_in-push q w (x ∷ xs) h =
    (elim (nat_eq x.period q) as (λ b. (b || has_row q xs) ≡ false
    → cond b x.word (word_in q (xs ++ record { period = q; word = w } ∷ [])) ≡ w) [
      | true ↦ λ t. cc
      | false ↦ λ t. word_in-push q w xs t
    ]) h

pub has_row-push : (q w : ℕ) (xs : List Row) → has_row q (xs ++ record { period = q; word = w } ∷ []) ≡ true
has_row-push q w [] = ap (λ b. b || false) (eq-eqb q q refl)
has_row-push q w (x ∷ xs) =
    elim (nat_eq x.period q) as (λ b. (b || has_row q (xs ++ record { period = q; word = w } ∷ [])) ≡ true) [
      | true ↦ refl
      | false ↦ has_row-push q w xs
    ]

pub has_row-append : (q : ℕ) (xs ys : List Row) → has_row q xs ≡ true → has_row q (xs ++ ys) ≡ true
has_row-append q [] ys h = cc
has_row-append q (x ∷ xs) ys h =
    (elim (nat_eq x.period q) as (λ b. (b || has_row q xs) ≡ true → (b || has_row q (xs ++ ys)) ≡ true) [
      | true ↦ λ _. refl
      | false ↦ λ t. has_row-append q xs ys t
    ]) h

-- a row is needed that is there
pub needed-there : {S : Type 0} (step : S → ℕ × S) (q : ℕ) (both : List Row × S) → has_row q both.0 ≡ true
    → needed step q both ≡ both
needed-there step q both h =
    ap (λ b. cond b both (both.0 ++ record { period = q; word = (step both.1).0 } ∷ [], (step both.1).1)) h

-- a row is needed that isn't there
pub needed-missing : {S : Type 0} (step : S → ℕ × S) (q : ℕ) (both : List Row × S) → has_row q both.0 ≡ false
    → needed step q both ≡ (both.0 ++ record { period = q; word = (step both.1).0 } ∷ [], (step both.1).1)
needed-missing step q both h =
    ap (λ b. cond b both (both.0 ++ record { period = q; word = (step both.1).0 } ∷ [], (step both.1).1)) h

needed-has-go : {S : Type 0} (step : S → ℕ × S) (q : ℕ) (both : List Row × S)
    → ((has_row q both.0 ≡ true) ⊎ (has_row q both.0 ≡ false)) → has_row q (needed step q both).0 ≡ true
needed-has-go step q both (inl holds) = ap (λ b. has_row q b.0) (needed-there step q both holds) ∙ holds
needed-has-go step q both (inr fails) =
    ap (λ b. has_row q b.0) (needed-missing step q both fails) ∙ has_row-push q (step both.1).0 both.0

-- once it was needed, the row is there
pub needed-has : {S : Type 0} (step : S → ℕ × S) (q : ℕ) (both : List Row × S) → has_row q (needed step q both).0 ≡ true
needed-has step q both = needed-has-go step q both (bool_cases (has_row q both.0))

needed-keeps-go : {S : Type 0} (step : S → ℕ × S) (r q : ℕ) (both : List Row × S) → has_row r both.0 ≡ true
    → ((has_row q both.0 ≡ true) ⊎ (has_row q both.0 ≡ false))
    → (has_row r (needed step q both).0 ≡ true) × (word_in r (needed step q both).0 ≡ word_in r both.0)
needed-keeps-go step r q both h (inl holds) =
    let e = needed-there step q both holds in
    (ap (λ b. has_row r b.0) e ∙ h, ap (λ b. word_in r b.0) e)
needed-keeps-go step r q both h (inr fails) =
    let e = needed-missing step q both fails in
    (ap (λ b. has_row r b.0) e ∙ has_row-append r both.0 _ h, ap (λ b. word_in r b.0) e ∙ word_in-append r both.0 _ h)

-- a row that is there stays, with its word
pub needed-keeps : {S : Type 0} (step : S → ℕ × S) (r q : ℕ) (both : List Row × S) → has_row r both.0 ≡ true
    → (has_row r (needed step q both).0 ≡ true) × (word_in r (needed step q both).0 ≡ word_in r both.0)
needed-keeps step r q both h = needed-keeps-go step r q both h (bool_cases (has_row q both.0))

-- one more row at the end
pub needed_from-more : {S : Type 0} (step : S → ℕ × S) (q n : ℕ) (both : List Row × S)
    → needed_from step q (n + 1) both ≡ needed step (q + n) (needed_from step q n both)
needed_from-more step q zero both = let e : q + 0 ≡ q = omega arith in ap (λ k. needed step k both) (sym e)
needed_from-more step q (suc n) both =
    let e : suc q + n ≡ q + suc n = omega arith in
    let f : suc n + 1 ≡ suc (n + 1) = omega arith in
    ap (λ k. needed_from step q k both) f ∙ needed_from-more step (suc q) n (needed step q both)
    ∙ ap (λ k. needed step k (needed_from step (suc q) n (needed step q both))) e

-- a filter by periods that keeps this period
module _ (kept : ℕ → Bool) where
  abbrev by_period : Row → Bool
  by_period row = kept row.period

  pub has_row-filter : (q : ℕ) → kept q ≡ true → (xs : List Row) → has_row q (filter by_period xs) ≡ has_row q xs
  has_row-filter q k xs =
      any-filter_same (λ row. nat_eq row.period q) by_period true (λ row t. ap kept (eqb-true row.period q t) ∙ k) xs

  word_in-filter-go : (q : ℕ) → kept q ≡ true → (x : Row) (xs : List Row)
      → word_in q (filter by_period xs) ≡ word_in q xs → ((kept x.period ≡ true) ⊎ (kept x.period ≡ false))
      → word_in q (filter by_period (x ∷ xs)) ≡ word_in q (x ∷ xs)
  word_in-filter-go q k x xs rest (inl holds) =
      ap (word_in q) (filter_yes by_period x xs holds) ∙ ap (λ w. cond (nat_eq x.period q) x.word w) rest
  word_in-filter-go q k x xs rest (inr fails) =
      let other : nat_eq x.period q ≡ false =
      ne_eqb x.period q (λ same. let e : true ≡ false = sym (ap kept same ∙ k) ∙ fails in cc) in
      ap (word_in q) (filter_no by_period x xs fails) ∙ rest
      ∙ sym (ap (λ b. cond b x.word (word_in q xs)) other)

  pub word_in-filter : (q : ℕ) → kept q ≡ true → (xs : List Row) → word_in q (filter by_period xs) ≡ word_in q xs
  word_in-filter q k [] = refl
  word_in-filter q k (x ∷ xs) = word_in-filter-go q k x xs (word_in-filter q k xs) (bool_cases (kept x.period))

  needed-filter-go : {S : Type 0} (step : S → ℕ × S) (q : ℕ) → kept q ≡ true → (xs : List Row) (draw : S)
      → ((has_row q xs ≡ true) ⊎ (has_row q xs ≡ false))
      → needed step q (filter by_period xs, draw)
      ≡ (filter by_period (needed step q (xs, draw)).0, (needed step q (xs, draw)).1)
  needed-filter-go step q k xs draw (inl holds) =
      needed-there step q (filter by_period xs, draw) (has_row-filter q k xs ∙ holds)
      ∙ ap (λ b. (filter by_period b.0, b.1)) (sym (needed-there step q (xs, draw) holds))
  needed-filter-go step q k xs draw (inr fails) =
      let row : Row = record { period = q; word = (step draw).0 } in
      let last : filter by_period (row ∷ []) ≡ row ∷ [] = filter_yes by_period row [] k in
      needed-missing step q (filter by_period xs, draw) (has_row-filter q k xs ∙ fails)
      ∙ ap (λ l. (l, (step draw).1))
      (ap (λ l. filter by_period xs ++ l) (sym last) ∙ sym (filter-append by_period xs (row ∷ [])))
      ∙ ap (λ b. (filter by_period b.0, b.1)) (sym (needed-missing step q (xs, draw) fails))

  -- what is needed of the rows that are kept is what is needed of all
  pub needed_from-filter : {S : Type 0} (step : S → ℕ × S) (q n : ℕ) → ((r : ℕ) → q ≤ r → kept r ≡ true)
      → (xs : List Row) (draw : S)
      → needed_from step q n (filter by_period xs, draw)
      ≡ (filter by_period (needed_from step q n (xs, draw)).0, (needed_from step q n (xs, draw)).1)
  needed_from-filter step q zero k xs draw = refl
  needed_from-filter step q (suc n) k xs draw =
      let one = needed-filter-go step q (k q (omega arith)) xs draw (bool_cases (has_row q xs)) in
      let next = needed step q (xs, draw) in
      ap (needed_from step (suc q) n) one
      ∙ needed_from-filter step (suc q) n (λ r above. k r (omega arith)) next.0 next.1
