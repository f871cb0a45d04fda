-- The replies of the registers are whole words of bytes, and short.
use Rattle.std.proofs.Common.{◌≡◌, ℕ, zero, suc, ◌+◌, ◌/◌, ◌^◌, ◌<◌, ltb, ◌&&◌, Bool, true, cond, Option, Some, None, List, [], ◌∷◌, ◌++◌, refl, arith}
use Rattle.std.specs.Prelude.{codes}
use Rattle.std.specs.Int.{byte_at, bytes_low_first}
use Rattle.std.proofs.Math.Nat.{mod-lt}
use Rattle.std.proofs.lemmas.Bool.{and_parts, cond_both, ltb-true}
use Rattle.std.proofs.lemmas.List.{length-append}
use Rattle.byteorder.specs.Numbers.{length-bytes_low_first}
use Rattle.octets.specs.Bytes.{IsBytes}
use Rattle.tl_codec.specs.Spelling.{spelling}
use Rattle.regs_service.specs.Registers.{Sums, added, answered, has_place, step, sum_of, with_sum}
use Rattle.regs_service.specs.Replies.{error_reply, value_number, value_reply}
use Rattle.regs_service.specs.Requests.{Add, Asked, Get, request_of}
use Rattle.regs_service.specs.Served.{IsReply}

abbrev IsGood : List ℕ → Type 0
IsGood reply = IsReply reply × IsBytes reply

-- ---- bytes

bytes-nil : IsBytes []
bytes-nil i = omega arith

bytes-cons : (x : ℕ) (xs : List ℕ) → x < 256 → IsBytes xs → IsBytes (x ∷ xs)
bytes-cons x xs low h zero = low
bytes-cons x xs low h (suc i) = h i

bytes-append : (xs ys : List ℕ) → IsBytes xs → IsBytes ys → IsBytes (xs ++ ys)
bytes-append [] ys h k = k
bytes-append (x ∷ xs) ys h k = bytes-cons x (xs ++ ys) (h 0) (bytes-append xs ys (λ i. h (suc i)) k)

byte-low : (i x : ℕ) → byte_at i x < 256
byte-low zero x = mod-lt x (omega arith)
byte-low (suc i) x = mod-lt (x / 256 ^ suc i) (omega arith)

low-bytes : (i n x : ℕ) → IsBytes (bytes_low_first i n x)
low-bytes i zero x = bytes-nil
low-bytes i (suc n) x = bytes-cons (byte_at i x) (bytes_low_first (suc i) n x) (byte-low i x) (low-bytes (suc i) n x)

are_bytes : List ℕ → Bool
are_bytes [] = true
are_bytes (x ∷ xs) = ltb x 256 && are_bytes xs

tested : (xs : List ℕ) → are_bytes xs ≡ true → IsBytes xs
unfolding are_bytes
tested [] is = bytes-nil
tested (x ∷ xs) is = let parts = and_parts (ltb x 256) (are_bytes xs) is in bytes-cons x xs (ltb-true x 256 parts.0) (tested xs parts.1)

-- ---- replies

value-good : (value : ℕ) → IsGood (value_reply value)
unfolding spelling
value-good value =
    let tag : List ℕ = bytes_low_first 0 4 value_number in
    let long : List ℕ = bytes_low_first 0 8 value in
    let both = length-append tag long in
    let one = length-bytes_low_first 0 4 value_number in
    let other = length-bytes_low_first 0 8 value in
    (record { words = omega (arith, both, one, other); short = omega (arith, both, one, other) }, bytes-append tag long (low-bytes 0 4 value_number) (low-bytes 0 8 value))

bad-request : IsGood (error_reply (codes "BAD_REQUEST"))
unfolding spelling are_bytes
bad-request = (record { words = refl; short = omega arith }, tested (error_reply (codes "BAD_REQUEST")) refl)

too-large : IsGood (error_reply (codes "TOO_LARGE"))
unfolding spelling are_bytes
too-large = (record { words = refl; short = omega arith }, tested (error_reply (codes "TOO_LARGE")) refl)

too-many : IsGood (error_reply (codes "TOO_MANY"))
unfolding spelling are_bytes
too-many = (record { words = refl; short = omega arith }, tested (error_reply (codes "TOO_MANY")) refl)

added-good : (sums : Sums) (name : List ℕ) (amount : ℕ) → IsGood (added sums name amount).0
added-good sums name amount =
    let sum = sum_of sums name + amount in
    let G : List ℕ × Sums → Type 0 = λ done. IsGood done.0 in
    let placed : List ℕ × Sums = cond (has_place sums name) (value_reply sum, with_sum sums name sum) (error_reply (codes "TOO_MANY"), sums) in
    let second : G placed =
    cond_both (has_place sums name) (value_reply sum, with_sum sums name sum) (error_reply (codes "TOO_MANY"), sums) G (λ is. value-good sum) (λ is. too-many) in
    cond_both (ltb sum (2 ^ 64)) placed (error_reply (codes "TOO_LARGE"), sums) G (λ is. second) (λ is. too-large)

answered-good : (sums : Sums) (asked : Option Asked) → IsGood (answered sums asked).0
answered-good sums (Some (Add name amount)) = added-good sums name amount
answered-good sums (Some (Get name)) = value-good (sum_of sums name)
answered-good sums None = bad-request

pub step-good : (sums : Sums) (request : List ℕ) → IsGood (step sums request).0
step-good sums request = answered-good sums (request_of request)
