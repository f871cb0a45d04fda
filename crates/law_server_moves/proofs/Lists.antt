-- Members of lists.
use Rattle.std.proofs.Common.{◌≡◌, zero, suc, ◌<◌, Bool, true, false, List, [], ◌∷◌, ◌++◌, length, filter, if◌then◌else◌, inl, inr, refl, sym, ap, subst, ◌∙◌, arith}
use Rattle.std.specs.Prelude.{◌⊎◌}
use Rattle.std.specs.List.{AllByRecursion, Contains}
use Rattle.std.proofs.lemmas.Bool.{cases_Bool}

pub here : {X : Type 0} (x : X) (xs : List X) → Contains (x ∷ xs) x
here x xs = (0, omega arith, refl)

pub later : {X : Type 0} (x y : X) (xs : List X) → Contains xs x → Contains (y ∷ xs) x
later x y xs h = let below : h.0 < length xs = h.1 in (suc h.0, omega arith, h.2)

-- a member is the first one, or one of the others
pub first_or : {X : Type 0} (x y : X) (xs : List X) → Contains (y ∷ xs) x → (y ≡ x) ⊎ Contains xs x
first_or x y xs (zero, below, is) = inl is
first_or x y xs (suc k, below, is) = inr (k, omega (arith, below), is)

pub all_of : {X : Type 0} (P : X → Type 0) (xs : List X) → ((x : X) → Contains xs x → P x) → AllByRecursion P xs
all_of P [] each = tt
all_of P (x ∷ xs) each = (each x (here x xs), all_of P xs (λ y among. each y (later y x xs among)))

pub each_of : {X : Type 0} (P : X → Type 0) (xs : List X) → AllByRecursion P xs → (x : X) → Contains xs x → P x
each_of P [] h x among = let below : among.0 < 0 = among.1 in absurd (omega (arith, below))
each_of P (y ∷ xs) h x among =
    elim (first_or x y xs among) [
      | inl is ↦ subst P is h.0
      | inr other ↦ each_of P xs h.1 x other
    ]

pub map_all : {X : Type 0} (P Q : X → Type 0) (xs : List X) → ((x : X) → Contains xs x → P x → Q x) → AllByRecursion P xs → AllByRecursion Q xs
map_all P Q xs so h = all_of Q xs (λ x among. so x among (each_of P xs h x among))

pub all_append : {X : Type 0} (P : X → Type 0) (xs ys : List X) → AllByRecursion P xs → AllByRecursion P ys → AllByRecursion P (xs ++ ys)
all_append P [] ys h k = k
all_append P (x ∷ xs) ys h k = (h.0, all_append P xs ys h.1 k)

-- ---- filters

pub kept_in : {X : Type 0} (test : X → Bool) (xs : List X) (x : X) → Contains xs x → test x ≡ true → Contains (filter test xs) x
kept_in test [] x among is = let below : among.0 < 0 = among.1 in absurd (omega (arith, below))
kept_in test (y ∷ xs) x among is =
    elim (first_or x y xs among) [
      | inl same ↦ rw (ap test same ∙ is) (subst (λ (z : _). Contains (z ∷ filter test xs) x) (sym same) (here x (filter test xs)))
      | inr other ↦
          elim (cases_Bool (test y)) [
            | inl holds ↦ rw holds (later x y (filter test xs) (kept_in test xs x other is))
            | inr fails ↦ rw fails (kept_in test xs x other is)
          ]
    ]

pub from_filter : {X : Type 0} (test : X → Bool) (xs : List X) (x : X) → Contains (filter test xs) x → Contains xs x × (test x ≡ true)
from_filter test [] x among = let below : among.0 < 0 = among.1 in absurd (omega (arith, below))
from_filter test (y ∷ xs) x among =
    elim (cases_Bool (test y)) [
      | inl holds ↦
          let there : Contains (y ∷ filter test xs) x = subst (λ (b : Bool). Contains (if b then y ∷ filter test xs else filter test xs) x) holds among in
          elim (first_or x y (filter test xs) there) [
            | inl same ↦ (subst (λ (z : _). Contains (z ∷ xs) x) (sym same) (here x xs), ap test (sym same) ∙ holds)
            | inr other ↦ let rest = from_filter test xs x other in (later x y xs rest.0, rest.1)
          ]
      | inr fails ↦
          let there : Contains (filter test xs) x = subst (λ (b : Bool). Contains (if b then y ∷ filter test xs else filter test xs) x) fails among in
          let rest = from_filter test xs x there in
          (later x y xs rest.0, rest.1)
    ]

-- none is kept
pub filtered_out : {X : Type 0} (test : X → Bool) (xs : List X) → AllByRecursion (λ (x : X). test x ≡ false) xs → filter test xs ≡ []
filtered_out test [] h = refl
filtered_out test (x ∷ xs) h = rw h.0 (filtered_out test xs h.1)

-- all are
pub filtered_in : {X : Type 0} (test : X → Bool) (xs : List X) → AllByRecursion (λ (x : X). test x ≡ true) xs → filter test xs ≡ xs
filtered_in test [] h = refl
filtered_in test (x ∷ xs) h = rw h.0 (ap (λ (l : List _). x ∷ l) (filtered_in test xs h.1))
