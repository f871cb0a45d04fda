-- How often a number stands in a list: numbers that aren't 0 and differ, and fewer of them.
use Rattle.std.proofs.Common.{◌≡◌, ◌≢◌, ℕ, suc, ◌+◌, ◌<◌, ◌≤◌, ◌==◌, Bool, List, [], ◌∷◌, ◌++◌, length, if◌then◌else◌, inl, inr, refl, sym, subst, arith, eq-eqb, ne_eqb}
use Rattle.std.specs.Prelude.{◌⊎◌}
use Rattle.std.specs.List.{All, AllByRecursion, AllPairs, Contains}
use Rattle.std.proofs.lemmas.Bool.{cases_Bool, cases_eq}
use Rattle.std.proofs.lemmas.List.Kept.{AllPairs-cons}
use Rattle.law_once.proofs.Lists.{at_each, first_or, here, later}

abbrev pub count : ℕ → List ℕ → ℕ
count x [] = 0
count x (y ∷ ys) = if y == x then suc (count x ys) else count x ys

pub count_append : (x : ℕ) (xs ys : List ℕ) → count x (xs ++ ys) ≡ count x xs + count x ys
count_append x [] ys = omega arith
count_append x (y ∷ xs) ys =
    let rest = count_append x xs ys in
    elim (cases_Bool (y == x)) [
      | inl is ↦ rw is (omega (arith, rest))
      | inr not_so ↦ rw not_so rest
    ]

pub count_there : (x : ℕ) (xs : List ℕ) → Contains xs x → 1 ≤ count x xs
count_there x [] among = let below : among.0 < 0 = among.1 in absurd (omega (arith, below))
count_there x (y ∷ xs) among =
    elim (first_or x y xs among) [
      | inl is ↦ rw (eq-eqb y x is) (omega arith)
      | inr other ↦
          let rest = count_there x xs other in
          elim (cases_Bool (y == x)) [
            | inl is ↦ rw is (omega arith)
            | inr not_so ↦ rw not_so rest
          ]
    ]

pub none_or_there : (x : ℕ) (xs : List ℕ) → (count x xs ≡ 0) ⊎ Contains xs x
none_or_there x [] = inl refl
none_or_there x (y ∷ xs) =
    elim (cases_eq y x) [
      | inl is ↦ inr (subst (λ (z : ℕ). Contains (y ∷ xs) z) is (here y xs))
      | inr differs ↦
          elim (none_or_there x xs) [
            | inl none ↦ inl (rw (ne_eqb y x differs) none)
            | inr other ↦ inr (later x y xs other)
          ]
    ]

apart_tail : (x : ℕ) (xs : List ℕ) → AllPairs (λ one other. one ≢ other) (x ∷ xs) → AllPairs (λ one other. one ≢ other) xs
apart_tail x xs h = λ i j d below within. h (suc i) (suc j) d (omega arith) (omega arith)

apart_first : (x : ℕ) (xs : List ℕ) → AllPairs (λ one other. one ≢ other) (x ∷ xs) → Contains xs x → ⊥
apart_first x xs h among =
    let below : among.0 < length xs = among.1 in
    h 0 (suc among.0) x (omega arith) (omega arith) (sym among.2)

-- numbers that differ stand once each
pub apart_once : (x : ℕ) (xs : List ℕ) → AllPairs (λ one other. one ≢ other) xs → count x xs ≤ 1
apart_once x [] h = omega arith
apart_once x (y ∷ xs) h =
    let rest = apart_once x xs (apart_tail y xs h) in
    elim (cases_eq y x) [
      | inl is ↦
          elim (none_or_there x xs) [
            | inl none ↦ rw (eq-eqb y x is) (omega (arith, none))
            | inr among ↦ absurd (apart_first y xs h (subst (λ (z : ℕ). Contains xs z) (sym is) among))
          ]
      | inr differs ↦ rw (ne_eqb y x differs) rest
    ]

none_differ : (x : ℕ) (xs : List ℕ) → count x xs ≡ 0 → AllByRecursion (λ (y : ℕ). x ≢ y) xs
none_differ x [] none = tt
none_differ x (y ∷ xs) none =
    elim (cases_eq y x) [
      | inl is ↦
          let e : suc (count x xs) ≡ 0 = subst (λ (b : Bool). (if b then suc (count x xs) else count x xs) ≡ 0) (eq-eqb y x is) none in
          absurd (omega (arith, e))
      | inr differs ↦
          let e : count x xs ≡ 0 = subst (λ (b : Bool). (if b then suc (count x xs) else count x xs) ≡ 0) (ne_eqb y x differs) none in
          ((λ same. differs (sym same)), none_differ x xs e)
    ]

pub once_apart : (xs : List ℕ) → ((x : ℕ) → count x xs ≤ 1) → AllPairs (λ one other. one ≢ other) xs
once_apart [] once = λ i j d below within. absurd (omega arith)
once_apart (x ∷ xs) once =
    let first : suc (count x xs) ≤ 1 = subst (λ (b : Bool). (if b then suc (count x xs) else count x xs) ≤ 1) (eq-eqb x x refl) (once x) in
    AllPairs-cons (λ one other. one ≢ other) x xs (at_each (λ (y : ℕ). x ≢ y) xs (none_differ x xs (omega (arith, first))))
    (once_apart xs (λ z. elim (cases_Bool (x == z)) [
      | inl is ↦ let e : suc (count z xs) ≤ 1 = subst (λ (b : Bool). (if b then suc (count z xs) else count z xs) ≤ 1) is (once z) in omega (arith, e)
      | inr not_so ↦ subst (λ (b : Bool). (if b then suc (count z xs) else count z xs) ≤ 1) not_so (once z)
    ]))

some_none : (xs : List ℕ) → All (λ x. x ≢ 0) xs → count 0 xs ≡ 0
some_none xs h =
    elim (none_or_there 0 xs) [
      | inl none ↦ none
      | inr among ↦ absurd (h among.0 0 among.1 among.2)
    ]

pub none_some : (xs : List ℕ) → count 0 xs ≡ 0 → All (λ x. x ≢ 0) xs
none_some xs none = at_each (λ (x : ℕ). x ≢ 0) xs (turned xs (none_differ 0 xs none)) where
  turned : (ys : List ℕ) → AllByRecursion (λ (y : ℕ). 0 ≢ y) ys → AllByRecursion (λ (y : ℕ). y ≢ 0) ys
  turned [] h = tt
  turned (y ∷ ys) h = ((λ is. h.0 (sym is)), turned ys h.1)

-- each number stands in the second list as often as in the first, or more often
abbrev pub IsWithin : List ℕ → List ℕ → Type 0
IsWithin xs ys = (x : ℕ) → count x xs ≤ count x ys

-- the numbers aren't 0, and differ
abbrev pub AreFresh : List ℕ → Type 0
AreFresh xs = All (λ x. x ≢ 0) xs × AllPairs (λ one other. one ≢ other) xs

pub fewer_fresh : (xs ys : List ℕ) → IsWithin xs ys → AreFresh ys → AreFresh xs
fewer_fresh xs ys within fresh =
    let zero_there = within 0 in (
      none_some xs (omega (arith, zero_there, some_none ys fresh.0)),
      once_apart xs (λ x. let most = within x in let once = apart_once x ys fresh.1 in omega (arith, most, once)),
    )

-- what is there more is none of the others, and isn't 0
pub new_word : (x : ℕ) (xs ys : List ℕ) → AreFresh ys → suc (count x xs) ≤ count x ys → (x ≢ 0) × (Contains xs x → ⊥)
new_word x xs ys fresh more =
    let once = apart_once x ys fresh.1 in (
      (λ is. let none : count 0 ys ≡ 0 = some_none ys fresh.0 in
          let some : suc (count 0 xs) ≤ count 0 ys = subst (λ (z : ℕ). suc (count z xs) ≤ count z ys) is more in omega (arith, none, some)),
      (λ among. let there = count_there x xs among in omega (arith, once, there, more)),
    )

pub within_itself : (xs : List ℕ) → IsWithin xs xs
within_itself xs x = omega arith

pub within_both : (us vs xs ys : List ℕ) → IsWithin us xs → IsWithin vs ys → IsWithin (us ++ vs) (xs ++ ys)
within_both us vs xs ys one two x =
    let a = one x in let b = two x in omega (arith, a, b, count_append x us vs, count_append x xs ys)
