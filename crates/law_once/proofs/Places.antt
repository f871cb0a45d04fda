-- Places of a list.
use Rattle.std.proofs.Common.{◌≡◌, ◌≢◌, ℕ, zero, suc, ◌≤◌, List, [], ◌∷◌, ◌++◌, length, map, Some, None, inl, inr, refl, ap, subst, arith}
use Rattle.std.specs.Prelude.{◌⊎◌, slice_get, option_map}
use Rattle.std.specs.List.{Contains}
use Rattle.world_rules.specs.World.{changed_from_0}
use Rattle.law_once.proofs.Lists.{here, later}

pub get_map : {X Y : Type 0} (f : X → Y) (xs : List X) (i : ℕ) → slice_get (map f xs) i ≡ option_map f (slice_get xs i)
get_map f [] i = refl
get_map f (x ∷ xs) zero = refl
get_map f (x ∷ xs) (suc i) = get_map f xs i

pub get_past : {X : Type 0} (xs : List X) (i : ℕ) → length xs ≤ i → slice_get xs i ≡ None
get_past [] i past = refl
get_past (x ∷ xs) zero past = absurd (omega arith)
get_past (x ∷ xs) (suc i) past = get_past xs i (omega arith)

pub get_pushed : {X : Type 0} (xs : List X) (x : X) (i : ℕ)
    → ((i ≡ length xs) × (slice_get (xs ++ x ∷ []) i ≡ Some x)) ⊎ ((i ≢ length xs) × (slice_get (xs ++ x ∷ []) i ≡ slice_get xs i))
get_pushed [] x zero = inl (refl, refl)
get_pushed [] x (suc i) = inr (λ is. omega (arith, is), refl)
get_pushed (y ∷ xs) x zero = inr (λ is. omega (arith, is), refl)
get_pushed (y ∷ xs) x (suc i) =
    elim (get_pushed xs x i) [ inl h ↦ inl (ap suc h.0, h.1) | inr h ↦ inr (λ is. h.0 (omega (arith, is)), h.1) ]

pub get_there : {X : Type 0} (xs : List X) (x : X) (i : ℕ) → slice_get xs i ≡ Some x → Contains xs x
get_there [] x i is = absurd (cc)
get_there (y ∷ xs) x zero is = let same : y ≡ x = cc in subst (λ (z : _). Contains (y ∷ xs) z) same (here y xs)
get_there (y ∷ xs) x (suc i) is = later x y xs (get_there xs x i is)

pub changed_there : {X : Type 0} (f : X → X) (xs : List X) (i : ℕ) → slice_get (changed_from_0 i f xs) i ≡ option_map f (slice_get xs i)
changed_there f [] i = refl
changed_there f (x ∷ xs) zero = refl
changed_there f (x ∷ xs) (suc i) = changed_there f xs i

pub changed_other : {X : Type 0} (f : X → X) (xs : List X) (i j : ℕ) → j ≢ i → slice_get (changed_from_0 i f xs) j ≡ slice_get xs j
changed_other f [] i j differs = refl
changed_other f (x ∷ xs) zero zero differs = absurd (differs refl)
changed_other f (x ∷ xs) zero (suc j) differs = refl
changed_other f (x ∷ xs) (suc i) zero differs = refl
changed_other f (x ∷ xs) (suc i) (suc j) differs = changed_other f xs i j (λ is. differs (ap suc is))
