-- The messages of a container of bytes are bytes.
use Rattle.std.proofs.Common.{ℕ, zero, suc, ◌<◌, List, [], ◌∷◌, ◌++◌, length, arith}
use Rattle.std.specs.List.{AllByRecursion, flat_map}
use Rattle.byteorder.specs.Endian.{little_bytes}
use Rattle.octets.specs.Bytes.{IsBytes}
use Rattle.service_tl.specs.declared.lists.Message.{Message}
use Rattle.containers.specs.Container.{container_of, head_of, row}

bytes-cons : (x : ℕ) (xs : List ℕ) → x < 256 → IsBytes xs → IsBytes (x ∷ xs)
bytes-cons x xs low h zero = low
bytes-cons x xs low h (suc i) = h i

bytes-back : (xs ys : List ℕ) → IsBytes (xs ++ ys) → IsBytes ys
bytes-back [] ys h = h
bytes-back (x ∷ xs) ys h = bytes-back xs ys (λ i. h (suc i))

bytes-front : (xs ys : List ℕ) → IsBytes (xs ++ ys) → IsBytes xs
bytes-front [] ys h = λ i. omega arith
bytes-front (x ∷ xs) ys h = bytes-cons x xs (h 0) (bytes-front xs ys (λ i. h (suc i)))

row-body : (message : Message) → IsBytes (row message) → IsBytes message.body
unfolding row
row-body message bytes =
    let size = little_bytes 4 (length message.body) in
    let seq = little_bytes 4 message.seq in
    bytes-back size message.body (bytes-back seq (size ++ message.body) (bytes-back (little_bytes 8 message.number) (seq ++ (size ++ message.body)) bytes))

rows-bodies : (messages : List Message) → IsBytes (flat_map row messages) → AllByRecursion (λ message. IsBytes message.body) messages
rows-bodies [] bytes = tt
rows-bodies (message ∷ messages) bytes =
    (row-body message (bytes-front (row message) (flat_map row messages) bytes), rows-bodies messages (bytes-back (row message) (flat_map row messages) bytes))

pub container-bodies : (messages : List Message) → IsBytes (container_of messages) → AllByRecursion (λ message. IsBytes message.body) messages
unfolding container_of
container-bodies messages bytes = rows-bodies messages (bytes-back (head_of (length messages)) (flat_map row messages) bytes)
