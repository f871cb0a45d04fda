-- Lists of which all members are such.
use Rattle.std.proofs.Common.{ℕ, zero, suc, Option, Some, None, List, [], ◌∷◌, ◌++◌}
use Rattle.std.specs.Prelude.{map, slice_get, ⊤}
use Rattle.std.specs.List.{AllByRecursion}

pub rec-append : {X : Type 0} (P : X → Type 0) (xs ys : List X) → AllByRecursion P xs → AllByRecursion P ys → AllByRecursion P (xs ++ ys)
rec-append P [] ys h k = k
rec-append P (x ∷ xs) ys h k = (h.0, rec-append P xs ys h.1 k)

pub rec-map : {X : Type 0} (P : X → Type 0) (change : X → X) (xs : List X) → ((x : X) → P x → P (change x)) → AllByRecursion P xs → AllByRecursion P (map change xs)
rec-map P change [] keeps h = tt
rec-map P change (x ∷ xs) keeps h = (keeps x h.0, rec-map P change xs keeps h.1)

-- an option of which the member, where there is one, is such
abbrev pub If : {X : Type 0} → (X → Type 0) → Option X → Type 0
If P None = ⊤
If P (Some x) = P x

-- what stands in a place is such
pub rec-get : {X : Type 0} (P : X → Type 0) (xs : List X) (place : ℕ) → AllByRecursion P xs → If P (slice_get xs place)
rec-get P [] place h = tt
rec-get P (x ∷ xs) zero h = h.0
rec-get P (x ∷ xs) (suc place) h = rec-get P xs place h.1
