-- The bodies that words stand for are bytes.
use Rattle.std.proofs.Common.{◌≡◌, ℕ, zero, suc, ◌+◌, ◌/◌, ◌%◌, ◌<◌, ◌≤◌, ◌^◌, true, List, [], ◌∷◌, ◌++◌, length, sym, subst, arith, inl, inr}
use Rattle.std.specs.Prelude.{nat_lt, replicate}
use Rattle.std.specs.Int.{byte_at, bytes_low_first, is_in_range}
use Rattle.std.specs.List.{list_all}
use Rattle.std.proofs.lemmas.Bool.{and_parts, cond_both, leb-true, ltb-true, or_cases}
use Rattle.std.proofs.Math.Nat.{mod-lt}
use Rattle.byteorder.specs.Endian.{little_bytes}
use Rattle.octets.specs.Bytes.{IsBytes}
use Rattle.tl_codec.specs.Spelling.{Bytes, Long, Tag, head, padding_of, spelling}
use Rattle.regs_service.specs.Requests.{is_name, is_name_byte}
use Rattle.sched_text.specs.Bodies.{Add, Get, Hex, IsBody, Packed, Pad}
use Rattle.sched_text.specs.Words.{ArePairs, IsDigit, IsHex}

-- ---- numbers as bytes

byte-low : (i x : ℕ) → byte_at i x < 256
byte-low zero x = mod-lt x (omega arith)
byte-low (suc i) x = mod-lt (x / 256 ^ suc i) (omega arith)

-- ---- texts

digit-low : (value digit : ℕ) → IsDigit value digit → value < 16
digit-low value digit (inl is) = omega (arith, is.0)
digit-low value digit (inr is) = is.1

byte-of : (byte high low : ℕ) → IsDigit (byte / 16) high → IsDigit (byte % 16) low → byte < 256
byte-of byte high low one other = let below = digit-low (byte / 16) high one in omega (arith, below)

-- a byte of a name is one
small : (byte : ℕ) → is_name_byte byte ≡ true → byte < 256
small byte is =
    elim (or_cases (is_in_range 97 122 byte) (is_in_range 48 57 byte) is) [
      | inl letter ↦ let h : byte ≤ 122 = leb-true byte 122 (and_parts _ _ letter).1 in omega (arith, h)
      | inr figure ↦ let h : byte ≤ 57 = leb-true byte 57 (and_parts _ _ figure).1 in omega (arith, h)
    ]

-- ---- by the laws of lists of bytes

module _ (nil : IsBytes []) (cons : (x : ℕ) (xs : List ℕ) → x < 256 → IsBytes xs → IsBytes (x ∷ xs)) (copies : (n x : ℕ) → x < 256 → IsBytes (replicate n x))
    (append : (xs ys : List ℕ) → IsBytes xs → IsBytes ys → IsBytes (xs ++ ys)) where
  low-bytes : (i n x : ℕ) → IsBytes (bytes_low_first i n x)
  low-bytes i zero x = nil
  low-bytes i (suc n) x = cons (byte_at i x) (bytes_low_first (suc i) n x) (byte-low i x) (low-bytes (suc i) n x)

  name-bytes : (name : List ℕ) → list_all is_name_byte name ≡ true → IsBytes name
  name-bytes [] is = nil
  name-bytes (byte ∷ name) is =
      let parts = and_parts (is_name_byte byte) (list_all is_name_byte name) is in
      cons byte name (small byte parts.0) (name-bytes name parts.1)

  named : (name : List ℕ) → is_name name ≡ true → IsBytes name
  named name is = name-bytes name (and_parts _ _ (and_parts _ _ is).1).1

  head-bytes : (size : ℕ) → IsBytes (head size)
  head-bytes size =
      cond_both (nat_lt size 254) (size ∷ []) (254 ∷ little_bytes 3 size) IsBytes
      (λ short. cons size [] (let h = ltb-true size 254 short in omega (arith, h)) nil) (λ long. cons 254 (little_bytes 3 size) (omega arith) (low-bytes 0 3 size))

  string-bytes : (content : List ℕ) → IsBytes content → IsBytes (spelling Bytes content)
  unfolding spelling
  string-bytes content h =
      let front = head (length content) in
      let count = padding_of (length front + length content) in
      append (front ++ content) (replicate count 0) (append front content (head-bytes (length content)) h) (copies count 0 (omega arith))

  tag-bytes : (number : ℕ) → IsBytes (spelling (Tag number) tt)
  unfolding spelling
  tag-bytes number = low-bytes 0 4 number

  long-bytes : (number : ℕ) → IsBytes (spelling Long number)
  unfolding spelling
  long-bytes number = low-bytes 0 8 number

  pairs-bytes : (bytes word : List ℕ) → ArePairs bytes word → IsBytes bytes
  pairs-bytes [] word are = nil
  pairs-bytes (byte ∷ bytes) word (high, low, rest, one, other, whole, are) = cons byte bytes (byte-of byte high low one other) (pairs-bytes bytes rest are)

  hex-bytes : (bytes word : List ℕ) → IsHex bytes word → IsBytes bytes
  hex-bytes bytes word (inl none) = subst IsBytes (sym none.0) nil
  hex-bytes bytes word (inr some) = pairs-bytes bytes word some.1

  pub body-bytes : (body : List ℕ) (words : List (List ℕ)) → IsBody body words → IsBytes body
  body-bytes body words (Add (name, amount, is, number, spelt, whole)) =
      subst IsBytes (sym whole) (append _ _ (append _ _ (tag-bytes _) (string-bytes name (named name is))) (long-bytes amount))
  body-bytes body words (Get (name, is, spelt, whole)) = subst IsBytes (sym whole) (append _ _ (tag-bytes _) (string-bytes name (named name is)))
  body-bytes body words (Pad (len, most, spelt, whole)) = subst IsBytes (sym whole) (copies len 0 (omega arith))
  body-bytes body words (Packed (spelt, whole)) = subst IsBytes (sym whole) (append _ _ (tag-bytes _) (copies 4 0 (omega arith)))
  body-bytes body words (Hex (word, is, spelt)) = hex-bytes body word is
