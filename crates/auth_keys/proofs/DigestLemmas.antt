-- Digests are bytes.
use Rattle.std.proofs.Common.{◌≡◌, ◌∙◌, ℕ, zero, suc, ◌+◌, ◌*◌, ◌/◌, ◌<◌, ◌^◌, List, [], ◌∷◌, ◌++◌, length, take, drop, get_or, sym, ap, refl, subst, arith, length-append, length-drop, length-take-le, lit<}
use Rattle.std.specs.Int.{byte_at, bytes_high_first, from_le_bytes, to_be_bytes, to_le_bytes, w32, w64}
use Rattle.std.proofs.lemmas.Nat.{le_bytes_8}
use Rattle.octets.specs.Bytes.{IsBytes, HasBytes}
use Rattle.sha1.specs.Sha1.{digest_bytes, sha1}
use Rattle.auth_keys.specs.Keys.{identifier, identifier_bytes}

bytes-cons : (x : ℕ) (xs : List ℕ) → x < 256 → IsBytes xs → IsBytes (x ∷ xs)
bytes-cons x xs small h zero = small
bytes-cons x xs small h (suc i) = h i

bytes-append : (xs ys : List ℕ) → IsBytes xs → IsBytes ys → IsBytes (xs ++ ys)
bytes-append [] ys h k i = k i
bytes-append (x ∷ xs) ys h k zero = h 0
bytes-append (x ∷ xs) ys h k (suc i) = bytes-append xs ys (λ j. h (suc j)) k i

bytes-take : (n : ℕ) (xs : List ℕ) → IsBytes xs → IsBytes (take n xs)
bytes-take zero xs h i = lit< tt
bytes-take (suc n) [] h i = lit< tt
bytes-take (suc n) (x ∷ xs) h zero = h 0
bytes-take (suc n) (x ∷ xs) h (suc i) = bytes-take n xs (λ j. h (suc j)) i

bytes-drop : (n : ℕ) (xs : List ℕ) → IsBytes xs → IsBytes (drop n xs)
bytes-drop zero xs h i = h i
bytes-drop (suc n) [] h i = lit< tt
bytes-drop (suc n) (x ∷ xs) h i = bytes-drop n xs (λ j. h (suc j)) i

byte_at-small : (i n : ℕ) → byte_at i n < 256
byte_at-small zero n = omega arith
byte_at-small (suc i) n = omega arith

high_first-bytes : (k n : ℕ) → HasBytes k (bytes_high_first k n)
high_first-bytes zero n = record { count = refl; in_range = λ i. lit< tt }
high_first-bytes (suc k) n =
    let rest = high_first-bytes k n in
    record { count = ap suc rest.count; in_range = bytes-cons (byte_at k n) (bytes_high_first k n) (byte_at-small k n) rest.in_range }

words-bytes : (h : List ℕ) (n : ℕ) → HasBytes (4 * n) (digest_bytes h n)
unfolding digest_bytes
words-bytes h zero = record { count = refl; in_range = λ i. lit< tt }
words-bytes h (suc n) =
    let front = words-bytes h n in
    let word = high_first-bytes 4 (get_or h n 0) in
    record {
      count = omega (arith, length-append (digest_bytes h n) (to_be_bytes w32 (get_or h n 0)), front.count, word.count);
      in_range = bytes-append (digest_bytes h n) (to_be_bytes w32 (get_or h n 0)) front.in_range word.in_range;
    }

pub digest-bytes : (message : List ℕ) → HasBytes 20 (sha1 message)
unfolding sha1
digest-bytes message = words-bytes _ 5

-- the bytes of an identifier
eight : (bytes : List ℕ) → HasBytes 20 bytes → HasBytes 8 (take 8 (drop 12 bytes))
eight bytes h = record {
  count = omega (arith, length-take-le 8 (drop 12 bytes) (omega (arith, length-drop 12 bytes, h.count)));
  in_range = bytes-take 8 (drop 12 bytes) (bytes-drop 12 bytes h.in_range);
}

pub identifier-bytes : (key : List ℕ) → to_le_bytes w64 (identifier key) ≡ identifier_bytes key
identifier-bytes key =
    let h = eight (sha1 key) (digest-bytes (key)) in
    le_bytes_8 (identifier_bytes key) (identifier key) h.count h.in_range refl

number-small : (bytes : List ℕ) → IsBytes bytes → from_le_bytes w64 bytes < 2 ^ 64
number-small bytes h = omega (arith, h 0, h 1, h 2, h 3, h 4, h 5, h 6, h 7)

pub identifier-long : (key : List ℕ) → identifier key < 2 ^ 64
identifier-long key = number-small (identifier_bytes key) (eight (sha1 key) (digest-bytes key)).in_range
