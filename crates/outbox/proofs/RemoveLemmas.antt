-- What is found by a key, and what stays where an entry is taken out.
use Rattle.std.proofs.Common.{◌≡◌, ◌≢◌, ◌∙◌, sym, ℕ, zero, suc, ◌+◌, ◌<◌, ◌≤◌, Bool, true, false, ltb, eqb, Some, None, unwrap_or, List, [], ◌∷◌, map, length, get_or, remove, ap, refl, inl, inr, arith, cond}
use Rattle.std.specs.List.{position_or_len, position, find, slice_get}
use Rattle.std.proofs.lemmas.Bool.{cases_Bool, cases_lt, cases_eq, lt-ltb, le-ltb, eq-eqb, ne_eqb}
use Rattle.std.proofs.lemmas.List.Folds.{find_at}
use Rattle.std.proofs.lemmas.Option.{slice_get-get_or}
use Rattle.outbox.specs.Replies.{EachOnce}
use Rattle.outbox.specs.Places.{IsAbove, Rises}

-- ---- any test

-- the first one that passes stands in the list, or there is none
pub first_within : {X : Type 0} (test : X → Bool) (xs : List X) → position_or_len test xs ≤ length xs
first_within test [] = omega arith
first_within test (x ∷ xs) = elim (cases_Bool (test x)) [
  | inl e ↦ rw e (omega arith)
  | inr e ↦ let rest = first_within test xs in rw e (omega arith)
]

pub unwrapped_position : {X : Type 0} (test : X → Bool) (xs : List X) → unwrap_or (position test xs) (length xs) ≡ position_or_len test xs
unwrapped_position test xs = elim (cases_lt (position_or_len test xs) (length xs)) [
  | inl within ↦ let e : ltb (position_or_len test xs) (length xs) ≡ true = lt-ltb _ _ within in rw e refl
  | inr past ↦ let e : ltb (position_or_len test xs) (length xs) ≡ false = le-ltb _ _ past in let all = first_within test xs in rw e (omega arith)
]

pub found_at : {X : Type 0} (test : X → Bool) (xs : List X) (k : ℕ) (d : X) → k ≡ position_or_len test xs → k < length xs → find test xs ≡ Some (get_or xs k d)
found_at test xs k d at within = find_at test xs ∙ (ap (λ i. slice_get xs i) (sym at) ∙ slice_get-get_or xs k d within)

-- none is found where none passes
pub none_found : {X : Type 0} (test : X → Bool) (xs : List X) → length xs ≤ position_or_len test xs → find test xs ≡ None
none_found test [] past = refl
none_found test (x ∷ xs) past = elim (cases_Bool (test x)) [
  | inl e ↦ let none : suc (length xs) ≤ 0 = rw e at past in absurd (omega arith)
  | inr e ↦ let rest : suc (length xs) ≤ 1 + position_or_len test xs = rw e at past in rw e (none_found test xs (omega arith))
]

-- one that isn't found isn't found among fewer
pub none_removed : {X : Type 0} (test : X → Bool) (xs : List X) (i : ℕ) → i < length xs → find test xs ≡ None → find test (remove xs i) ≡ None
none_removed test [] i within none = absurd (omega arith)
none_removed test (x ∷ xs) zero within none = elim (cases_Bool (test x)) [
  | inl e ↦ let some : Some x ≡ None = rw e at none in absurd (cc)
  | inr e ↦ rw e at none
]
none_removed test (x ∷ xs) (suc i) within none = elim (cases_Bool (test x)) [
  | inl e ↦ let some : Some x ≡ None = rw e at none in absurd (cc)
  | inr e ↦ let rest : find test xs ≡ None = rw e at none in rw e (none_removed test xs i (omega arith) rest)
]

-- where another one is taken out the same one is found
pub found_removed : {X : Type 0} (test : X → Bool) (xs : List X) (i : ℕ) (d : X) → i < length xs → test (get_or xs i d) ≡ false → find test (remove xs i) ≡ find test xs
found_removed test [] i d within other = absurd (omega arith)
found_removed test (x ∷ xs) zero d within other = rw other refl
found_removed test (x ∷ xs) (suc i) d within other = ap (λ rest. cond (test x) (Some x) rest) (found_removed test xs i d (omega arith) other)

-- one that passes is found
pub some_found : {X : Type 0} (test : X → Bool) (xs : List X) (i : ℕ) (d : X) → i < length xs → test (get_or xs i d) ≡ true → find test xs ≢ None
some_found test [] i d within passes none = absurd (omega arith)
some_found test (x ∷ xs) zero d within passes none = let some : Some x ≡ None = rw passes at none in cc
some_found test (x ∷ xs) (suc i) d within passes none = elim (cases_Bool (test x)) [
  | inl e ↦ let some : Some x ≡ None = rw e at none in cc
  | inr e ↦ let rest : find test xs ≡ None = rw e at none in some_found test xs i d (omega arith) passes rest
]

-- ---- by a key

module _ {X : Type 0} (key : X → ℕ) where
  pub above_removed : (floor : ℕ) (xs : List X) (i : ℕ) → i < length xs → IsAbove floor (map key xs) → IsAbove floor (map key (remove xs i))
  above_removed floor [] i within above = absurd (omega arith)
  above_removed floor (x ∷ xs) zero within above = above.1
  above_removed floor (x ∷ xs) (suc i) within above = (above.0, above_removed floor xs i (omega arith) above.1)

  pub rises_removed : (xs : List X) (i : ℕ) → i < length xs → Rises (map key xs) → Rises (map key (remove xs i))
  rises_removed [] i within rises = absurd (omega arith)
  rises_removed (x ∷ xs) zero within rises = rises.1
  rises_removed (x ∷ xs) (suc i) within rises = (above_removed (key x) xs i (omega arith) rises.0, rises_removed xs i (omega arith) rises.1)

  pub once_removed : (xs : List X) (i : ℕ) → i < length xs → EachOnce key xs → EachOnce key (remove xs i)
  once_removed [] i within once = absurd (omega arith)
  once_removed (x ∷ xs) zero within once = once.1
  once_removed (x ∷ xs) (suc i) within once = (none_removed (λ other. eqb (key other) (key x)) xs i (omega arith) once.0, once_removed xs i (omega arith) once.1)

  -- no key is above itself
  pub none_above : (number : ℕ) (xs : List X) → IsAbove number (map key xs) → find (λ x. eqb (key x) number) xs ≡ None
  none_above number [] above = refl
  none_above number (x ∷ xs) above = let e : eqb (key x) number ≡ false = ne_eqb (key x) number (λ same. omega (arith, above.0)) in rw e (none_above number xs above.1)

  pub once_rising : (xs : List X) → Rises (map key xs) → EachOnce key xs
  once_rising [] rises = tt
  once_rising (x ∷ xs) rises = (none_above (key x) xs rises.0, once_rising xs rises.1)

  -- a key that is there once is gone where its entry is taken out
  pub gone : (xs : List X) (i : ℕ) (d : X) (number : ℕ) → i < length xs → key (get_or xs i d) ≡ number → EachOnce key xs → find (λ x. eqb (key x) number) (remove xs i) ≡ None
  gone [] i d number within same once = absurd (omega arith)
  gone (x ∷ xs) zero d number within same once = rw (← same) once.0
  gone (x ∷ xs) (suc i) d number within same once = elim (cases_eq (key x) number) [
    | inl first ↦
        let none : find (λ other. eqb (key other) number) xs ≡ None = rw (← first) once.0 in
        absurd (some_found (λ other. eqb (key other) number) xs i d (omega arith) (eq-eqb _ _ same) none)
    | inr other ↦ let e : eqb (key x) number ≡ false = ne_eqb (key x) number other in rw e (gone xs i d number (omega arith) same once.1)
  ]
