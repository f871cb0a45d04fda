-- What stands at a place of a list, also where one of its members is changed.
use Rattle.std.proofs.Common.{◌≡◌, ◌≢◌, ◌∙◌, zero, suc, ℕ, ◌+◌, ◌<◌, Bool, true, Some, List, [], ◌∷◌, ◌++◌, length, map, inl, inr, refl, sym, ap, subst, arith}
use Rattle.std.specs.Prelude.{◌⊎◌, slice_get, option_map}
use Rattle.std.specs.List.{AllByRecursion, Contains}
use Rattle.std.proofs.lemmas.Bool.{cases_Bool, cond-true, cond-false}
use Rattle.call_table.specs.Table.{changed_at, first_from}
use Rattle.world_rules.specs.World.{changed_from_0}
use Rattle.law_order.proofs.Lists.{here, later, none-some, some-same}

-- ---- what stands at a place

pub get-there : {X : Type 0} (xs : List X) (x : X) (place : ℕ) → slice_get xs place ≡ Some x → Contains xs x
get-there [] x place is = absurd (none-some x is)
get-there (y ∷ xs) x zero is = subst (λ (z : _). Contains (z ∷ xs) x) (sym (some-same y x is)) (here x xs)
get-there (y ∷ xs) x (suc place) is = later x y xs (get-there xs x place is)

pub get-below : {X : Type 0} (xs : List X) (x : X) (place : ℕ) → slice_get xs place ≡ Some x → place < length xs
get-below [] x place is = absurd (none-some x is)
get-below (y ∷ xs) x zero is = omega arith
get-below (y ∷ xs) x (suc place) is = let rest = get-below xs x place is in omega (arith, rest)

pub get-append : {X : Type 0} (xs ys : List X) (place : ℕ) (x : X) → slice_get xs place ≡ Some x → slice_get (xs ++ ys) place ≡ Some x
get-append [] ys place x is = absurd (none-some x is)
get-append (y ∷ xs) ys zero x is = is
get-append (y ∷ xs) ys (suc place) x is = get-append xs ys place x is

pub get-end : {X : Type 0} (xs : List X) (last : X) → slice_get (xs ++ last ∷ []) (length xs) ≡ Some last
get-end [] last = refl
get-end (y ∷ xs) last = get-end xs last

-- what stands in a list with one more
pub get-more : {X : Type 0} (xs : List X) (last : X) (place : ℕ) (x : X) → slice_get (xs ++ last ∷ []) place ≡ Some x → (slice_get xs place ≡ Some x) ⊎ (last ≡ x)
get-more [] last zero x is = inr (some-same last x is)
get-more [] last (suc place) x is = absurd (none-some x is)
get-more (y ∷ xs) last zero x is = inl is
get-more (y ∷ xs) last (suc place) x is = get-more xs last place x is

-- what stands in a list of which all change
pub get-map : {X : Type 0} (f : X → X) (xs : List X) (place : ℕ) (x : X) → slice_get (map f xs) place ≡ Some x → (y : X) × (slice_get xs place ≡ Some y) × (f y ≡ x)
get-map f [] place x is = absurd (none-some x is)
get-map f (y ∷ xs) zero x is = (y, refl, some-same (f y) x is)
get-map f (y ∷ xs) (suc place) x is = get-map f xs place x is

pub map-get : {X : Type 0} (f : X → X) (xs : List X) (place : ℕ) (x : X) → slice_get xs place ≡ Some x → slice_get (map f xs) place ≡ Some (f x)
map-get f [] place x is = absurd (none-some x is)
map-get f (y ∷ xs) zero x is = ap (λ (z : _). Some (f z)) (some-same y x is)
map-get f (y ∷ xs) (suc place) x is = map-get f xs place x is

pub all-at : {X : Type 0} (P : X → Type 0) (xs : List X) (place : ℕ) (x : X) → slice_get xs place ≡ Some x → AllByRecursion P xs → P x
all-at P [] place x is all = absurd (none-some x is)
all-at P (y ∷ xs) zero x is all = subst P (some-same y x is) all.0
all-at P (y ∷ xs) (suc place) x is all = all-at P xs place x is all.1

pub get-within : {X : Type 0} (xs : List X) (place : ℕ) → place < length xs → (x : X) × (slice_get xs place ≡ Some x)
get-within [] place below = absurd (omega arith)
get-within (x ∷ xs) zero below = (x, refl)
get-within (x ∷ xs) (suc place) below = get-within xs place (omega arith)

-- the first that passes stands there and passes
pub first-from : {X : Type 0} (test : X → Bool) (place : ℕ) (xs : List X) (found : ℕ) → first_from test place xs ≡ Some found
    → (more : ℕ) × (found ≡ place + more) × ((x : X) × (slice_get xs more ≡ Some x) × (test x ≡ true))
first-from test place [] found is = absurd (none-some found is)
first-from test place (x ∷ xs) found is =
    elim (cases_Bool (test x)) [
      | inl holds ↦
          let same : place ≡ found = some-same place found (sym (cond-true (test x) (Some place) (first_from test (place + 1) xs) holds) ∙ is) in
          (0, omega arith, (x, refl, holds))
      | inr fails ↦
          let rest = first-from test (place + 1) xs found (sym (cond-false (test x) (Some place) (first_from test (place + 1) xs) fails) ∙ is) in
          let at = rest.1 in
          (suc rest.0, omega arith, rest.2)
    ]

-- ---- where one is changed

-- what stands in a list of which one changes
pub get-changed : {X : Type 0} (k : ℕ) (change : X → X) (xs : List X) (place : ℕ) (x : X) → slice_get (changed_from_0 k change xs) place ≡ Some x
    → ((place ≢ k) × (slice_get xs place ≡ Some x)) ⊎ ((place ≡ k) × ((y : X) × (slice_get xs place ≡ Some y) × (change y ≡ x)))
get-changed k change [] place x is = absurd (none-some x is)
get-changed zero change (y ∷ xs) zero x is = inr (refl, (y, refl, some-same (change y) x is))
get-changed zero change (y ∷ xs) (suc place) x is = inl ((λ same. omega (arith, same)), is)
get-changed (suc k) change (y ∷ xs) zero x is = inl ((λ same. omega (arith, same)), is)
get-changed (suc k) change (y ∷ xs) (suc place) x is =
    elim (get-changed k change xs place x is) [
      | inl other ↦ inl ((λ same. other.0 (omega (arith, same))), other.1)
      | inr own ↦ let same = own.0 in inr (omega (arith, same), own.1)
    ]

pub changed-there : {X : Type 0} (k : ℕ) (change : X → X) (xs : List X) (x : X) → slice_get xs k ≡ Some x → slice_get (changed_from_0 k change xs) k ≡ Some (change x)
changed-there k change [] x is = absurd (none-some x is)
changed-there zero change (y ∷ xs) x is = ap (λ (z : _). Some (change z)) (some-same y x is)
changed-there (suc k) change (y ∷ xs) x is = changed-there k change xs x is

pub changed-other : {X : Type 0} (k : ℕ) (change : X → X) (xs : List X) (place : ℕ) (x : X) → place ≢ k → slice_get xs place ≡ Some x
    → slice_get (changed_from_0 k change xs) place ≡ Some x
changed-other k change [] place x differs is = absurd (none-some x is)
changed-other zero change (y ∷ xs) zero x differs is = absurd (differs refl)
changed-other zero change (y ∷ xs) (suc place) x differs is = is
changed-other (suc k) change (y ∷ xs) zero x differs is = is
changed-other (suc k) change (y ∷ xs) (suc place) x differs is = changed-other k change xs place x (λ same. differs (ap suc same)) is

pub get_changed : {X : Type 0} (place : ℕ) (change : X → X) (xs : List X) (q : ℕ) → q ≡ place → slice_get (changed_at place change xs) q ≡ option_map change (slice_get xs q)
get_changed place change [] q is = refl
get_changed zero change (x ∷ xs) zero is = refl
get_changed zero change (x ∷ xs) (suc q) is = absurd (omega (arith, is))
get_changed (suc place) change (x ∷ xs) zero is = absurd (omega (arith, is))
get_changed (suc place) change (x ∷ xs) (suc q) is = get_changed place change xs q (omega (arith, is))

pub get_unchanged : {X : Type 0} (place : ℕ) (change : X → X) (xs : List X) (q : ℕ) → q ≢ place → slice_get (changed_at place change xs) q ≡ slice_get xs q
get_unchanged place change [] q differs = refl
get_unchanged zero change (x ∷ xs) zero differs = absurd (differs refl)
get_unchanged zero change (x ∷ xs) (suc q) differs = refl
get_unchanged (suc place) change (x ∷ xs) zero differs = refl
get_unchanged (suc place) change (x ∷ xs) (suc q) differs = get_unchanged place change xs q (λ is. differs (ap suc is))

-- one is changed
pub all-changed : {X : Type 0} (P : X → Type 0) (place : ℕ) (change : X → X) (xs : List X) → ((x : X) → slice_get xs place ≡ Some x → P x → P (change x))
    → AllByRecursion P xs → AllByRecursion P (changed_at place change xs)
all-changed P place change [] so all = tt
all-changed P zero change (x ∷ xs) so all = (so x refl all.0, all.1)
all-changed P (suc place) change (x ∷ xs) so all = (all.0, all-changed P place change xs so all.1)
