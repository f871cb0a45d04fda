-- Messages that are lent, from a place on.
use Rattle.std.proofs.Common.{◌≡◌, ◌∙◌, ℕ, ◌+◌, ◌-◌, List, [], ◌∷◌, ◌++◌, length, map, take, drop, ap, sym, refl, subst, arith}
use Rattle.std.specs.List.{AllByRecursion}
use Rattle.std.proofs.lemmas.List.{take_all, take-map, drop-map, drop-drop, length-drop}
use Rattle.service_tl.specs.declared.lists.Message.{Message}
use Rattle.containers.specs.declared.part.Part.{Part}
use Rattle.containers.specs.Lent.{message_of}
use Rattle.containers.specs.Container.{container_of, size_of}
use Rattle.packing.specs.Packing.{IsPacket, groups, packed}
use Rattle.octets.specs.Draft.{Draft}
use Rattle.server_output.specs.Batch.{IsPlace}
use Rattle.server_output.proofs.Left.{IsLeft, FitsBody, left-take, packet-fits}

abbrev pub lent_of : List Part → ℕ → List Part
lent_of parts start = take (length parts - start) (drop start parts)

lent-messages : (parts : List Part) (start : ℕ) → map message_of (lent_of parts start) ≡ drop start (map message_of parts)
lent-messages parts start =
    ap (λ (rest : List Part). map message_of rest) (take_all (length parts - start) (drop start parts) (omega (arith, length-drop start parts)))
    ∙ sym (drop-map message_of start parts)

module _ (parts slice : List Part) (start count : ℕ) (same : slice ≡ parts) where
  lent-same : map message_of (lent_of slice start) ≡ drop start (map message_of parts)
  lent-same = lent-messages slice start ∙ ap (λ (all : List Part). drop start (map message_of all)) same

  group-taken : map message_of (take count (lent_of slice start)) ≡ take count (drop start (map message_of parts))
  group-taken = sym (take-map message_of count (lent_of slice start)) ∙ ap (λ (rest : List Message). take count rest) lent-same

  -- the first group of what is left, and the others
  pub first-group : groups (map message_of (lent_of slice start)) ≡ take count (map message_of (lent_of slice start)) ∷ groups (drop count (map message_of (lent_of slice start)))
      → groups (drop start (map message_of parts)) ≡ map message_of (take count (lent_of slice start)) ∷ groups (drop (start + count) (map message_of parts))
  first-group first =
      let group = take-map message_of count (lent_of slice start) in
      let others : drop count (map message_of (lent_of slice start)) ≡ drop (start + count) (map message_of parts) =
      ap (λ (rest : List Message). drop count rest) lent-same ∙ drop-drop count start (map message_of parts) in
      ap groups (sym lent-same) ∙ (first ∙ rw (group, others) refl)

  pub group-packet : IsPacket (take count (map message_of (lent_of slice start))) → IsPacket (map message_of (take count (lent_of slice start)))
  group-packet packet = rw (← take-map message_of count (lent_of slice start)) packet

  pub group-fits : ((messages : List Message) → length (container_of messages) ≡ size_of messages) → (most bytes : ℕ)
      → IsLeft most bytes (drop start (map message_of parts)) → IsPacket (take count (map message_of (lent_of slice start)))
      → FitsBody most bytes (length (packed (map message_of (take count (lent_of slice start)))))
  group-fits sizes most bytes left packet =
      let P : List Message → Type 0 = IsLeft most bytes in
      packet-fits sizes most bytes (map message_of (take count (lent_of slice start)))
      (subst P (sym group-taken) (left-take most bytes count (drop start (map message_of parts)) left)) (group-packet packet)

-- the last member of a list, and the others
all-last : {X : Type 0} (P : X → Type 0) (xs : List X) (x : X) → AllByRecursion P (xs ++ x ∷ []) → P x
all-last P [] x all = all.0
all-last P (y ∷ xs) x all = all-last P xs x all.1

all-others : {X : Type 0} (P : X → Type 0) (xs ys : List X) → AllByRecursion P (xs ++ ys) → AllByRecursion P xs
all-others P [] ys all = tt
all-others P (x ∷ xs) ys all = (all.0, all-others P xs ys all.1)

-- the place that is taken, and those that are left
pub place-taken : (most : ℕ) (places others : List Draft) (place : Draft) → places ≡ others ++ place ∷ [] → AllByRecursion (IsPlace most) places → IsPlace most place
place-taken most places others place are all =
    let P : List Draft → Type 0 = AllByRecursion (IsPlace most) in
    all-last (IsPlace most) others place (subst P are all)

pub places-left : (most : ℕ) (places others : List Draft) (place : Draft) → places ≡ others ++ place ∷ [] → AllByRecursion (IsPlace most) places → AllByRecursion (IsPlace most) others
places-left most places others place are all =
    let P : List Draft → Type 0 = AllByRecursion (IsPlace most) in
    all-others (IsPlace most) others (place ∷ []) (subst P are all)
