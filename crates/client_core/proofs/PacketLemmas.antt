-- The body of a packet, by its messages as they stand in a container.
use Rattle.std.proofs.Common.{◌≡◌, ◌∙◌, ℕ, List, [], ◌∷◌, ◌++◌, length, drop, ap, refl, arith}
use Rattle.std.proofs.lemmas.List.{append-nil}
use Rattle.std.specs.Prelude.{◌≢◌}
use Rattle.std.specs.List.{flat_map}
use Rattle.service_tl.specs.declared.lists.Message.{Message}
use Rattle.containers.specs.Container.{container_of, head_of, row}
use Rattle.packing.specs.Packing.{packed}

behind_head : (message : Message) → drop 16 (row message ++ []) ≡ message.body
unfolding row
behind_head message = append-nil message.body

-- a single message's body stands behind its head
pub packed_one : (rows : List ℕ) (messages : List Message) → rows ≡ flat_map row messages → length messages ≡ 1 → drop 16 rows ≡ packed messages
packed_one rows [] is one = absurd (omega (arith, one))
packed_one rows (message ∷ []) is one = ap (drop 16) is ∙ behind_head message
packed_one rows (message ∷ (next ∷ others)) is one = absurd (omega (arith, one))

-- others stand behind a container's head
pub packed_other : (messages : List Message) → length messages ≢ 1 → packed messages ≡ head_of (length messages) ++ flat_map row messages
unfolding container_of
packed_other [] other = refl
packed_other (message ∷ []) other = absurd (other refl)
packed_other (message ∷ (next ∷ others)) other = refl
