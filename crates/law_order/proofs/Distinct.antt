-- Numbers that differ, each of one place.
use Rattle.std.proofs.Common.{◌≡◌, ◌≢◌, ℕ, zero, suc, ◌<◌, Some, List, [], ◌∷◌, ◌++◌, length, inl, inr, refl, sym, ap, subst, arith}
use Rattle.std.specs.Prelude.{⊤, slice_get}
use Rattle.std.specs.List.{AllPairs, Contains, flat_map}
use Rattle.std.proofs.lemmas.List.Elements.{Contains-append_left, Contains-append_right}
use Rattle.law_order.proofs.Lists.{first_or, nobody, none-some, some-same}

abbrev pub Distinct : List ℕ → Type 0
Distinct [] = ⊤
Distinct (x ∷ xs) = (Contains xs x → ⊥) × Distinct xs

pub from-pairs : (xs : List ℕ) → AllPairs (λ one other. one ≢ other) xs → Distinct xs
from-pairs [] h = tt
from-pairs (x ∷ xs) h = (
  (λ among. let below : among.0 < length xs = among.1 in h 0 (suc among.0) x (omega arith) (omega arith) (sym among.2)),
  from-pairs xs (λ i j d below within. h (suc i) (suc j) d (omega arith) (omega arith)),
)

pub front : (xs ys : List ℕ) → Distinct (xs ++ ys) → Distinct xs
front [] ys h = tt
front (x ∷ xs) ys h = ((λ among. h.0 (Contains-append_left xs ys x among)), front xs ys h.1)

pub back : (xs ys : List ℕ) → Distinct (xs ++ ys) → Distinct ys
back [] ys h = h
back (x ∷ xs) ys h = back xs ys h.1

pub across : (xs ys : List ℕ) (x : ℕ) → Distinct (xs ++ ys) → Contains xs x → Contains ys x → ⊥
across [] ys x h among beside = nobody x among
across (y ∷ xs) ys x h among beside =
    elim (first_or x y xs among) [
      | inl is ↦ h.0 (Contains-append_right xs ys y (subst (Contains ys) (sym is) beside))
      | inr other ↦ across xs ys x h.1 other beside
    ]

-- ---- numbers by places

pub in_flat : {X : Type 0} (f : X → List ℕ) (xs : List X) (place : ℕ) (x : X) (number : ℕ) → slice_get xs place ≡ Some x → Contains (f x) number
    → Contains (flat_map f xs) number
in_flat f [] place x number is its = absurd (none-some x is)
in_flat f (y ∷ xs) zero x number is its =
    Contains-append_left (f y) (flat_map f xs) number (subst (λ (z : _). Contains (f z) number) (sym (some-same y x is)) its)
in_flat f (y ∷ xs) (suc place) x number is its = Contains-append_right (f y) (flat_map f xs) number (in_flat f xs place x number is its)

pub own : {X : Type 0} (f : X → List ℕ) (xs : List X) (place : ℕ) (x : X) → slice_get xs place ≡ Some x → Distinct (flat_map f xs) → Distinct (f x)
own f [] place x is h = absurd (none-some x is)
own f (y ∷ xs) zero x is h = subst (λ (z : _). Distinct (f z)) (some-same y x is) (front (f y) (flat_map f xs) h)
own f (y ∷ xs) (suc place) x is h = own f xs place x is (back (f y) (flat_map f xs) h)

pub disjoint : {X : Type 0} (f : X → List ℕ) (xs : List X) (i j : ℕ) (x y : X) (number : ℕ) → i ≢ j → slice_get xs i ≡ Some x → slice_get xs j ≡ Some y
    → Distinct (flat_map f xs) → Contains (f x) number → Contains (f y) number → ⊥
disjoint f [] i j x y number differs at_i at_j h its too = none-some x at_i
disjoint f (z ∷ xs) zero zero x y number differs at_i at_j h its too = differs refl
disjoint f (z ∷ xs) zero (suc j) x y number differs at_i at_j h its too =
    across (f z) (flat_map f xs) number h (subst (λ (z : _). Contains (f z) number) (sym (some-same z x at_i)) its) (in_flat f xs j y number at_j too)
disjoint f (z ∷ xs) (suc i) zero x y number differs at_i at_j h its too =
    across (f z) (flat_map f xs) number h (subst (λ (z : _). Contains (f z) number) (sym (some-same z y at_j)) too) (in_flat f xs i x number at_i its)
disjoint f (z ∷ xs) (suc i) (suc j) x y number differs at_i at_j h its too =
    disjoint f xs i j x y number (λ same. differs (ap suc same)) at_i at_j (back (f z) (flat_map f xs) h) its too
