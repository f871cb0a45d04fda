-- What is left to be sent, and what the packets of it have.
use Rattle.std.proofs.Common.{◌≡◌, ℕ, zero, suc, ◌+◌, ◌%◌, ◌≤◌, List, [], ◌∷◌, length, take, drop, refl, arith}
use Rattle.std.proofs.lemmas.List.{length-take, length-drop}
use Rattle.std.proofs.lemmas.List.Sums.{sum_by-cons}
use Rattle.std.specs.List.{AllByRecursion}
use Rattle.service_tl.specs.declared.lists.Message.{Message}
use Rattle.containers.specs.Container.{container_of, size_of}
use Rattle.packing.specs.Packing.{IsPacket, packed}
use Rattle.server_output.specs.Dues.{CanGo, bodies_bytes}
use Rattle.server_output.specs.Batch.{packed_most}
use Rattle.server_output.proofs.Counts.{one_weight, weight, weight-bytes}

pub all-take : {X : Type 0} (P : X → Type 0) (k : ℕ) (xs : List X) → AllByRecursion P xs → AllByRecursion P (take k xs)
all-take P zero xs all = tt
all-take P (suc k) [] all = tt
all-take P (suc k) (x ∷ xs) all = (all.0, all-take P k xs all.1)

pub all-drop : {X : Type 0} (P : X → Type 0) (k : ℕ) (xs : List X) → AllByRecursion P xs → AllByRecursion P (drop k xs)
all-drop P zero xs all = all
all-drop P (suc k) [] all = tt
all-drop P (suc k) (x ∷ xs) all = all-drop P k xs all.1

take-bytes : (k : ℕ) (messages : List Message) → bodies_bytes (take k messages) ≤ bodies_bytes messages
take-bytes zero messages = omega arith
take-bytes (suc k) [] = omega arith
take-bytes (suc k) (message ∷ messages) =
    omega (arith, take-bytes k messages, sum_by-cons (λ (one : Message). length one.body) message messages, sum_by-cons (λ (one : Message). length one.body) message (take k messages))

drop-bytes : (k : ℕ) (messages : List Message) → bodies_bytes (drop k messages) ≤ bodies_bytes messages
drop-bytes zero messages = omega arith
drop-bytes (suc k) [] = omega arith
drop-bytes (suc k) (message ∷ messages) = omega (arith, drop-bytes k messages, sum_by-cons (λ (one : Message). length one.body) message messages)

-- messages for which there is room, each of which can go
pub record IsLeft (count bytes : ℕ) (messages : List Message) : Type 0 where
  pub few : length messages ≤ count
  pub short : bodies_bytes messages ≤ bytes
  pub go : AllByRecursion CanGo messages

pub left-take : (count bytes k : ℕ) (messages : List Message) → IsLeft count bytes messages → IsLeft count bytes (take k messages)
left-take count bytes k messages left = record {
  few = omega (arith, left.few, length-take k messages);
  short = omega (arith, left.short, take-bytes k messages);
  go = all-take CanGo k messages left.go;
}

pub left-drop : (count bytes k : ℕ) (messages : List Message) → IsLeft count bytes messages → IsLeft count bytes (drop k messages)
left-drop count bytes k messages left = record {
  few = omega (arith, left.few, length-drop k messages);
  short = omega (arith, left.short, drop-bytes k messages);
  go = all-drop CanGo k messages left.go;
}

-- the body of a packet of such messages
pub record FitsBody (count bytes size : ℕ) : Type 0 where
  pub words : size % 4 ≡ 0
  pub short : size ≤ 1044480
  pub most : size ≤ packed_most count bytes

weight-words : (messages : List Message) → AllByRecursion CanGo messages → weight messages % 4 ≡ 0
weight-words [] all = refl
weight-words (message ∷ messages) all = omega (arith, all.0.words, weight-words messages all.1, sum_by-cons one_weight message messages)

module _ (sizes : (messages : List Message) → length (container_of messages) ≡ size_of messages) where
  container-fits : (count bytes : ℕ) (messages : List Message) → IsLeft count bytes messages → size_of messages ≤ 1044480 → FitsBody count bytes (length (container_of messages))
  container-fits count bytes messages left within =
      let size : length (container_of messages) ≡ 8 + weight messages = sizes messages in
      let bytes_are = weight-bytes messages in
      let few = left.few in
      let short = left.short in
      record {
        words = omega (arith, weight-words messages left.go);
        short = omega arith;
        most = omega arith;
      }

  pub packet-fits : (count bytes : ℕ) (group : List Message) → IsLeft count bytes group → IsPacket group → FitsBody count bytes (length (packed group))
  packet-fits count bytes [] left packet = absurd packet
  packet-fits count bytes (message ∷ []) left packet =
      let short = left.short in
      let alone = sum_by-cons (λ (one : Message). length one.body) message [] in
      record { words = left.go.0.words; short = left.go.0.short; most = omega (arith, left.go.0.short) }
  packet-fits count bytes (message ∷ (next ∷ others)) left packet = container-fits count bytes (message ∷ (next ∷ others)) left packet.short
