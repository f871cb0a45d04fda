-- Lists of which all members are such.
use Rattle.std.proofs.Common.{ℕ, zero, suc, Option, Some, None, List, [], ◌∷◌, ◌++◌}
use Rattle.std.specs.Prelude.{map, slice_get, ⊤}
use Rattle.std.specs.List.{AllByRecursion}
use Rattle.world_rules.specs.World.{changed_at, changed_from_0, counted}

pub rec-append : {X : Type 0} (P : X → Type 0) (xs ys : List X) → AllByRecursion P xs → AllByRecursion P ys → AllByRecursion P (xs ++ ys)
rec-append P [] ys h k = k
rec-append P (x ∷ xs) ys h k = (h.0, rec-append P xs ys h.1 k)

pub rec-map : {X Y : Type 0} (P : X → Type 0) (Q : Y → Type 0) (change : X → Y) (xs : List X) → ((x : X) → P x → Q (change x)) → AllByRecursion P xs → AllByRecursion Q (map change xs)
rec-map P Q change [] so h = tt
rec-map P Q change (x ∷ xs) so h = (so x h.0, rec-map P Q change xs so h.1)

-- an option of which the member, where there is one, is such
abbrev pub If : {X : Type 0} → (X → Type 0) → Option X → Type 0
If P None = ⊤
If P (Some x) = P x

rec-get : {X : Type 0} (P : X → Type 0) (xs : List X) (place : ℕ) → AllByRecursion P xs → If P (slice_get xs place)
rec-get P [] place h = tt
rec-get P (x ∷ xs) zero h = h.0
rec-get P (x ∷ xs) (suc place) h = rec-get P xs place h.1

pub rec-counted : {X : Type 0} (P : X → Type 0) (xs : List X) (number : ℕ) → AllByRecursion P xs → If P (counted number xs)
rec-counted P xs zero h = tt
rec-counted P xs (suc place) h = rec-get P xs place h

from-0 : {X : Type 0} (P : X → Type 0) (place : ℕ) (change : X → X) (xs : List X) → ((x : X) → P x → P (change x)) → AllByRecursion P xs → AllByRecursion P (changed_from_0 place change xs)
from-0 P place change [] so h = tt
from-0 P zero change (x ∷ xs) so h = (so x h.0, h.1)
from-0 P (suc place) change (x ∷ xs) so h = (h.0, from-0 P place change xs so h.1)

pub rec-changed : {X : Type 0} (P : X → Type 0) (number : ℕ) (change : X → X) (xs : List X) → ((x : X) → P x → P (change x)) → AllByRecursion P xs → AllByRecursion P (changed_at number change xs)
rec-changed P zero change xs so h = h
rec-changed P (suc place) change xs so h = from-0 P place change xs so h
