-- A number at the front of a text, and the bytes of a number.
use Rattle.std.proofs.Common.{◌≡◌, ℕ, zero, suc, ◌+◌, ◌*◌, ◌/◌, ◌%◌, ◌^◌, ◌<◌, ◌≤◌, ltb, false, true, inl, inr, List, [], ◌∷◌, ◌++◌, length, take, drop, Ok, Err, refl, sym, ap, ◌∙◌, arith}
use Rattle.std.proofs.Math.Nat.{div-div-eq-div-mul, div-one, pow-succ'}
use Rattle.std.proofs.lemmas.Bool.{cases_lt, ltb-false, le-ltb, lt-ltb}
use Rattle.std.proofs.lemmas.List.{take_at, drop_at, take-append-drop, length-append}
use Rattle.std.specs.Int.{byte_at, bytes_low_first}
use Rattle.byteorder.specs.Endian.{little_bytes, little_number, little_from}
use Rattle.byteorder.specs.Numbers.{length-bytes_low_first, little_from-cons, little_from-lt, little_from-take, little_number-reads_back}
use Rattle.tl_codec.specs.declared.fault.TlFault.TheVariants.{Short}
use Rattle.octets.specs.Bytes.{IsBytes}
use Rattle.tl_codec.specs.Reading.{raw_at, number_at}
use Rattle.tl_codec.proofs.Texts.{IsBytes-tail}
use Rattle.tl_codec.proofs.Steps.{guard_ok, same_parts}

-- a byte of a number, by its place
byte_at-pow : (k x : ℕ) → byte_at k x ≡ x / 256 ^ k % 256
byte_at-pow zero x = ap (λ (y : ℕ). y % 256) (sym (div-one x))
byte_at-pow (suc k) x = refl

-- the bytes from the next place on are those of a 256th
bytes_low_first-suc : (j k x : ℕ) → bytes_low_first (suc j) k x ≡ bytes_low_first j k (x / 256)
bytes_low_first-suc j zero x = refl
bytes_low_first-suc j (suc k) x =
    let wide : x / 256 ^ suc j ≡ x / 256 / 256 ^ j = ap (λ (p : ℕ). x / p) (pow-succ' 256 j) ∙ sym (div-div-eq-div-mul x 256 (256 ^ j)) in
    let byte : byte_at (suc j) x ≡ byte_at j (x / 256) = ap (λ (y : ℕ). y % 256) wide ∙ sym (byte_at-pow j (x / 256)) in
    rw (byte, bytes_low_first-suc (suc j) k x) refl

-- the bytes of the number that bytes hold
pub little_bytes-little_number : (n : ℕ) (xs : List ℕ) → n ≤ length xs → IsBytes xs → little_bytes n (little_number n xs) ≡ take n xs
little_bytes-little_number zero xs enough fits = refl
little_bytes-little_number (suc n) [] enough fits = absurd (omega arith)
little_bytes-little_number (suc n) (x ∷ xs) enough fits =
    let moved = little_from-cons 0 n x xs in
    let above = little_from 0 n xs in
    let small : x < 256 = fits 0 in
    let low : (x + 256 * above) % 256 ≡ x = omega arith in
    let high : (x + 256 * above) / 256 ≡ above = omega arith in
    let rest = little_bytes-little_number n xs (omega arith) (IsBytes-tail x xs fits) in
    rw (moved, low, bytes_low_first-suc 0 n (x + 256 * above), high, rest) refl

pub raw_takes : (size : ℕ) (text field rest : List ℕ) → raw_at size text ≡ Ok (field, rest) → (size ≤ length text) × (take size text ≡ field) × (drop size text ≡ rest)
raw_takes size text field rest e =
    let g = guard_ok (ltb (length text) size) (Short size (length text)) (take size text, drop size text) (field, rest) e in
    (ltb-false _ _ g.0, ap (λ (p : List ℕ × List ℕ). p.0) g.1, ap (λ (p : List ℕ × List ℕ). p.1) g.1)

pub raw_again : (size : ℕ) (field rest : List ℕ) → length field ≡ size → raw_at size (field ++ rest) ≡ Ok (field, rest)
raw_again size field rest len =
    let enough : ltb (length (field ++ rest)) size ≡ false = le-ltb _ _ (omega (arith, length-append field rest)) in
    rw (enough, take_at field rest size len, drop_at field rest size len) refl

number_long : (size : ℕ) (text : List ℕ) → size ≤ length text → number_at size text ≡ Ok (little_number size text, drop size text)
unfolding number_at
number_long size text le =
    let enough : ltb (length text) size ≡ false = le-ltb _ _ le in
    rw (enough, little_from-take 0 size size text (omega arith)) refl

number_short : (size : ℕ) (text : List ℕ) → length text < size → number_at size text ≡ Err (Short size (length text))
unfolding number_at
number_short size text lt =
    let lacks : ltb (length text) size ≡ true = lt-ltb _ _ lt in
    rw lacks refl

pub number_takes : (size : ℕ) (text : List ℕ) (n : ℕ) (rest : List ℕ) → IsBytes text → number_at size text ≡ Ok (n, rest) → (n < 256 ^ size) × (text ≡ little_bytes size n ++ rest)
number_takes size text n rest fits e =
    elim (cases_lt (length text) size) [
      | inl lt ↦ absurd (cc (number_short size text lt))
      | inr le ↦
          let long = number_long size text le in
          let same = same_parts (number_at size text) (little_number size text) n (drop size text) rest long e in
          let n-is = same.0 in
          let rest-is = same.1 in
          let front = little_bytes-little_number size text le fits in
          (rw (← n-is) (little_from-lt 0 size text fits), rw (← n-is, front, ← rest-is) (sym (take-append-drop size text)))
    ]

pub number_again : (size n : ℕ) (rest : List ℕ) → n < 256 ^ size → number_at size (little_bytes size n ++ rest) ≡ Ok (n, rest)
number_again size n rest lt =
    let len = length-bytes_low_first 0 size n in
    let long = number_long size (little_bytes size n ++ rest) (omega (arith, length-append (little_bytes size n) rest)) in
    long ∙ rw (little_number-reads_back size n rest lt, drop_at (little_bytes size n) rest size len) refl
