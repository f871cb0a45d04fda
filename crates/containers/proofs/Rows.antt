-- Messages one after the other: their lengths, and each followed by the others.
use Rattle.std.proofs.Common.{refl, ◌≡◌, ℕ, ◌+◌, ◌<◌, List, [], ◌∷◌, ◌++◌, length, map, get_or, drop, sym, ap, ◌∙◌, length-append, arith}
use Rattle.std.proofs.lemmas.List.{at_drop_more, length-map}
use Rattle.std.proofs.lemmas.List.Sums.{sum_by-append, sum_by-cons}
use Rattle.std.specs.List.{flat_map, sum_by}
use Rattle.byteorder.specs.Endian.{little_bytes}
use Rattle.service_tl.specs.declared.lists.Message.{Message}
use Rattle.containers.specs.Container.{message_head, container_head, row, head_of, container_of, size_of}

pub length-row : (message : Message) → length (row message) ≡ message_head + length message.body
unfolding row
length-row message =
    let seq = little_bytes 4 message.seq in
    let size = little_bytes 4 (length message.body) in
    omega (arith, length-append (little_bytes 8 message.number) (seq ++ (size ++ message.body)), length-append seq (size ++ message.body), length-append size message.body)

module _ {X : Type 0} (message_of : X → Message) where
  pub flat_map-map : (xs : List X) → flat_map row (map message_of xs) ≡ flat_map (λ x. row (message_of x)) xs
  flat_map-map [] = refl
  flat_map-map (x ∷ xs) = ap (λ (text : List ℕ). row (message_of x) ++ text) (flat_map-map xs)

  pub container_of-map : (xs : List X) → container_of (map message_of xs) ≡ head_of (length xs) ++ flat_map (λ x. row (message_of x)) xs
  unfolding container_of
  container_of-map xs = rw (length-map xs message_of, flat_map-map xs) refl

  pub rows_left : (xs : List X) (i : ℕ) (x : X) → i < length xs → x ≡ get_or xs i x
      → flat_map (λ y. row (message_of y)) (drop i xs) ≡ row (message_of x) ++ flat_map (λ y. row (message_of y)) (drop (i + 1) xs)
  rows_left xs i x lt is =
      let rows : List X → List ℕ = flat_map (λ y. row (message_of y)) in
      at_drop_more rows xs i x lt ∙ ap (λ (y : X). row (message_of y) ++ rows (drop (i + 1) xs)) (sym is)

length-rows : (messages : List Message) → length (flat_map row messages) ≡ sum_by (λ message. message_head + length message.body) messages
length-rows [] = refl
length-rows (message ∷ messages) =
    length-append (row message) (flat_map row messages)
    ∙ rw (length-row message, length-rows messages) (sym (sum_by-cons (λ m. message_head + length m.body) message messages))

pub length-head_of : (count : ℕ) → length (head_of count) ≡ container_head
unfolding head_of
length-head_of count = refl

pub length-container_of : (messages : List Message) → length (container_of messages) ≡ container_head + length (flat_map row messages)
unfolding container_of
length-container_of messages =
    length-append (head_of (length messages)) (flat_map row messages) ∙ rw (length-head_of (length messages)) refl

pub size_of-rows : (messages : List Message) → container_head + length (flat_map row messages) ≡ size_of messages
size_of-rows messages = rw (length-rows messages) refl

pub length-container_of-size_of : (messages : List Message) → length (container_of messages) ≡ size_of messages
length-container_of-size_of messages = length-container_of messages ∙ size_of-rows messages

pub size_of-push : (messages : List Message) (message : Message) → size_of (messages ++ message ∷ []) ≡ size_of messages + message_head + length message.body
size_of-push messages message = omega (arith, sum_by-append (λ (m : Message). message_head + length m.body) messages (message ∷ []))
