-- Lists of bytes.
use Rattle.std.proofs.Common.{ℕ, zero, suc, ◌/◌, ◌<◌, ◌^◌, List, [], ◌∷◌, ◌++◌, arith}
use Rattle.std.specs.Prelude.{take}
use Rattle.std.specs.Int.{byte_at, bytes_low_first}
use Rattle.std.proofs.Math.Nat.{mod-lt}
use Rattle.octets.specs.Bytes.{IsBytes}

pub bytes-nil : IsBytes []
bytes-nil i = omega arith

pub bytes-cons : (x : ℕ) (xs : List ℕ) → x < 256 → IsBytes xs → IsBytes (x ∷ xs)
bytes-cons x xs low h zero = low
bytes-cons x xs low h (suc i) = h i

pub bytes-append : (xs ys : List ℕ) → IsBytes xs → IsBytes ys → IsBytes (xs ++ ys)
bytes-append [] ys h k = k
bytes-append (x ∷ xs) ys h k = bytes-cons x (xs ++ ys) (h 0) (bytes-append xs ys (λ i. h (suc i)) k)

pub bytes-take : (n : ℕ) (xs : List ℕ) → IsBytes xs → IsBytes (take n xs)
bytes-take zero xs h = bytes-nil
bytes-take (suc n) [] h = bytes-nil
bytes-take (suc n) (x ∷ xs) h = bytes-cons x (take n xs) (h 0) (bytes-take n xs (λ i. h (suc i)))

byte-low : (i x : ℕ) → byte_at i x < 256
byte-low zero x = mod-lt x (omega arith)
byte-low (suc i) x = mod-lt (x / 256 ^ suc i) (omega arith)

pub low-bytes : (i n x : ℕ) → IsBytes (bytes_low_first i n x)
low-bytes i zero x = bytes-nil
low-bytes i (suc n) x = bytes-cons (byte_at i x) (bytes_low_first (suc i) n x) (byte-low i x) (low-bytes (suc i) n x)
