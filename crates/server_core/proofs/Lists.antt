-- Lists: what holds of all pairs, and the first that is so.
use Rattle.std.proofs.Common.{◌≡◌, ◌∙◌, ℕ, zero, suc, ◌<◌, ◌≤◌, ◌+◌, Bool, Some, None, List, [], ◌∷◌, length, get_or, ap, sym, refl, arith, inl, inr, one-add}
use Rattle.std.specs.Prelude.{not, nat_lt}
use Rattle.std.specs.List.{All, AllPairs, find, filter, position, position_or_len}
use Rattle.std.proofs.lemmas.Bool.{cases_Bool, cond-true, cond-false, ltb-true, ltb-false}

pub pairs-head : {X : Type 0} (R : X → X → Type 0) (x : X) (xs : List X) → AllPairs R (x ∷ xs) → All (R x) xs
pairs-head R x xs all = λ k d within. all 0 (suc k) d (omega arith) (omega arith)

pub pairs-tail : {X : Type 0} (R : X → X → Type 0) (x : X) (xs : List X) → AllPairs R (x ∷ xs) → AllPairs R xs
pairs-tail R x xs all = λ i j d lt within. all (suc i) (suc j) d (omega arith) (omega arith)

-- none is so

pub no-first : {X : Type 0} (test : X → Bool) (xs : List X) → length xs ≤ position_or_len test xs → find test xs ≡ None
no-first test [] none = refl
no-first test (x ∷ xs) none =
    elim (cases_Bool (test x)) [
      | inl is ↦ let first : position_or_len test (x ∷ xs) ≡ 0 = rw is refl in absurd (omega arith)
      | inr not_so ↦
          let later : position_or_len test (x ∷ xs) ≡ 1 + position_or_len test xs = rw not_so refl in
          rw not_so (no-first test xs (omega arith))
    ]

pub none-out : {X : Type 0} (test : X → Bool) (xs : List X) → length xs ≤ position_or_len test xs → filter (λ x. not (test x)) xs ≡ xs
none-out test [] none = refl
none-out {X} test (x ∷ xs) none =
    elim (cases_Bool (test x)) [
      | inl is ↦ let first : position_or_len test (x ∷ xs) ≡ 0 = rw is refl in absurd (omega arith)
      | inr not_so ↦
          let later : position_or_len test (x ∷ xs) ≡ 1 + position_or_len test xs = rw not_so refl in
          rw not_so (ap (λ (ys : List X). x ∷ ys) (none-out test xs (omega arith)))
    ]

-- the first that is so

pub first-at : {X : Type 0} (test : X → Bool) (xs : List X) (d : X) → position_or_len test xs < length xs
    → find test xs ≡ Some (get_or xs (position_or_len test xs) d)
first-at test [] d within = absurd (omega arith)
first-at test (x ∷ xs) d within =
    elim (cases_Bool (test x)) [
      | inl is ↦ rw is refl
      | inr not_so ↦
          let later : position_or_len test (x ∷ xs) ≡ suc (position_or_len test xs) = rw (not_so, one-add) refl in
          let rest = first-at test xs d (omega arith) in
          rw (later, not_so) rest
    ]

-- where it is

some-same : {X : Type 0} (x y : X) → Some x ≡ Some y → x ≡ y
some-same x y same = cc

none-some : {X : Type 0} (x : X) → None ≡ Some x → ⊥
none-some x same = cc

pub place-is : {X : Type 0} (test : X → Bool) (xs : List X) (n : ℕ) → Some n ≡ position test xs → (position_or_len test xs ≡ n) × (n < length xs)
place-is test xs n is =
    let at = position_or_len test xs in
    elim (cases_Bool (nat_lt at (length xs))) [
      | inl within ↦
          let same : at ≡ n = some-same at n (sym (is ∙ cond-true (nat_lt at (length xs)) (Some at) None within)) in
          let lt : at < length xs = ltb-true at (length xs) within in
          (same, omega arith)
      | inr outside ↦ absurd (none-some n (sym (is ∙ cond-false (nat_lt at (length xs)) (Some at) None outside)))
    ]

pub no-place : {X : Type 0} (test : X → Bool) (xs : List X) → None ≡ position test xs → length xs ≤ position_or_len test xs
no-place test xs is =
    let at = position_or_len test xs in
    elim (cases_Bool (nat_lt at (length xs))) [
      | inl within ↦ absurd (none-some at (is ∙ cond-true (nat_lt at (length xs)) (Some at) None within))
      | inr outside ↦ ltb-false at (length xs) outside
    ]

pairs-at : {X : Type 0} (R : X → X → Type 0) (x : X) (xs : List X) → All (R x) xs → AllPairs R xs
    → (i j : ℕ) (d : X) → i < j → j < length (x ∷ xs) → R (get_or (x ∷ xs) i d) (get_or (x ∷ xs) j d)
pairs-at R x xs first rest zero zero d lt within = absurd (omega arith)
pairs-at R x xs first rest (suc i) zero d lt within = absurd (omega arith)
pairs-at R x xs first rest zero (suc j) d lt within = first j d (omega arith)
pairs-at R x xs first rest (suc i) (suc j) d lt within = rest i j d (omega arith) (omega arith)

pub pairs-cons : {X : Type 0} (R : X → X → Type 0) (x : X) (xs : List X) → All (R x) xs → AllPairs R xs → AllPairs R (x ∷ xs)
pairs-cons R x xs first rest = pairs-at R x xs first rest

pub pairs-nil : {X : Type 0} (R : X → X → Type 0) → AllPairs R []
pairs-nil R = λ i j d lt within. absurd (omega arith)
