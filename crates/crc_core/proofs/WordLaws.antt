-- Words of four bytes, and blocks of four words, each with a register in front of it.
use Rattle.std.proofs.Common.{◌≡◌, ℕ, ◌+◌, ◌-◌, ◌*◌, ◌/◌, ◌%◌, ◌<◌, ◌≤◌, List, zero, suc, length, take, drop, slice_index, refl, sym, ap, ap₂, ◌∙◌, arith}
use Rattle.std.specs.Prelude.{bit_xor}
use Rattle.std.specs.Int.Bits.{xor_assoc, xor_zero_r}
use Rattle.std.proofs.lemmas.Nat.{xor_comm}
use Rattle.std.proofs.lemmas.List.{drop_more, drop_all, length-drop, take_all, take-append-drop}
use Rattle.crc_core.specs.Crc32.{fed_bits, fed_bit, fed}
use Rattle.crc_core.specs.Words.{word_at}
use Rattle.crc_core.proofs.BitLaws.{fed_bits-xor, zeros_fed, xor_swap}
use Rattle.crc_core.proofs.TextLaws.{first_byte, fed-append, fed-xor, zeros_in_turn}

-- each number of a text is a byte
abbrev pub Bytes : List ℕ → Type 0
Bytes xs = (k : ℕ) → slice_index xs k < 256

-- ---- sums of four

pub turned : (a b c d : ℕ) → bit_xor (bit_xor (bit_xor a b) c) d ≡ bit_xor (bit_xor d c) (bit_xor b a)
turned a b c d =
    xor_comm (bit_xor (bit_xor a b) c) d
    ∙ ap (bit_xor d) (xor_comm (bit_xor a b) c ∙ ap (bit_xor c) (xor_comm a b))
    ∙ sym (xor_assoc d c (bit_xor b a))

pub turned_on : (e a b c d : ℕ) → bit_xor (bit_xor (bit_xor (bit_xor e a) b) c) d ≡ bit_xor (bit_xor (bit_xor d c) (bit_xor b a)) e
turned_on e a b c d =
    ap (λ (x : ℕ). bit_xor (bit_xor (bit_xor x b) c) d) (xor_comm e a)
    ∙ ap (λ (x : ℕ). bit_xor (bit_xor x c) d) (xor_assoc a e b ∙ ap (bit_xor a) (xor_comm e b) ∙ sym (xor_assoc a b e))
    ∙ ap (λ (x : ℕ). bit_xor x d) (xor_assoc (bit_xor a b) e c ∙ ap (bit_xor (bit_xor a b)) (xor_comm e c) ∙ sym (xor_assoc (bit_xor a b) c e))
    ∙ (xor_assoc (bit_xor (bit_xor a b) c) e d ∙ ap (bit_xor (bit_xor (bit_xor a b) c)) (xor_comm e d) ∙ sym (xor_assoc (bit_xor (bit_xor a b) c) d e))
    ∙ ap (λ (x : ℕ). bit_xor x e) (turned a b c d)

-- ---- a word

byte_out : (k m w : ℕ) → k ≡ m + 8 → fed_bits k w 0 ≡ bit_xor (fed_bits m (w / 256) 0) (fed_bits k (w % 256) 0)
byte_out k m w e =
    ap (λ (j : ℕ). fed_bits j w 0) e ∙ zeros_fed m 8 w
    ∙ ap (λ (j : ℕ). bit_xor (fed_bits m (w / 256) 0) (fed_bits j (w % 256) 0)) (sym e)

-- what a word becomes, by its bytes
pub word_parts : (m w : ℕ) → w < 4294967296
    → bit_xor (bit_xor (fed_bits (m + 32) (w % 256) 0) (fed_bits (m + 24) (w / 256 % 256) 0)) (bit_xor (fed_bits (m + 16) (w / 65536 % 256) 0) (fed_bits (m + 8) (w / 16777216 % 256) 0))
    ≡ fed_bits (m + 32) w 0
word_parts m w h =
    let second : w / 256 / 256 ≡ w / 65536 = omega arith in
    let third : w / 65536 / 256 ≡ w / 16777216 % 256 = omega arith in
    let e0 = byte_out (m + 32) (m + 24) w (omega arith) in
    let e1 : fed_bits (m + 24) (w / 256) 0 ≡ bit_xor (fed_bits (m + 16) (w / 65536) 0) (fed_bits (m + 24) (w / 256 % 256) 0) =
    byte_out (m + 24) (m + 16) (w / 256) (omega arith) ∙ ap (λ (x : ℕ). bit_xor (fed_bits (m + 16) x 0) (fed_bits (m + 24) (w / 256 % 256) 0)) second in
    let e2 : fed_bits (m + 16) (w / 65536) 0 ≡ bit_xor (fed_bits (m + 8) (w / 16777216 % 256) 0) (fed_bits (m + 16) (w / 65536 % 256) 0) =
    byte_out (m + 16) (m + 8) (w / 65536) (omega arith) ∙ ap (λ (x : ℕ). bit_xor (fed_bits (m + 8) x 0) (fed_bits (m + 16) (w / 65536 % 256) 0)) third in
    sym (e0
    ∙ ap (λ (x : ℕ). bit_xor x (fed_bits (m + 32) (w % 256) 0)) (e1 ∙ ap (λ (x : ℕ). bit_xor x (fed_bits (m + 24) (w / 256 % 256) 0)) e2)
    ∙ turned (fed_bits (m + 8) (w / 16777216 % 256) 0) (fed_bits (m + 16) (w / 65536 % 256) 0) (fed_bits (m + 24) (w / 256 % 256) 0) (fed_bits (m + 32) (w % 256) 0))

byte_first : (xs : List ℕ) (at n m : ℕ) → Bytes xs → at + 1 + n ≡ length xs → m ≡ 8 * n + 8
    → fed 0 (drop at xs) ≡ bit_xor (fed 0 (drop (at + 1) xs)) (fed_bits m (slice_index xs at) 0)
byte_first xs at n m fits long e =
    let b = slice_index xs at in
    let h : b < 256 = fits at in
    let whole : b % 256 ≡ b = omega arith in
    let none : bit_xor 0 b ≡ b = xor_comm 0 b ∙ xor_zero_r b in
    let times : 8 + length (drop (at + 1) xs) * 8 ≡ m = omega (arith, length-drop (at + 1) xs) in
    ap (fed 0) (drop_more xs at 0 (omega arith))
    ∙ first_byte 0 b (drop (at + 1) xs) h
    ∙ ap (bit_xor (fed 0 (drop (at + 1) xs))) (ap₂ (λ (j x : ℕ). fed_bits j (x % 256) 0) times none ∙ ap (λ (x : ℕ). fed_bits m x 0) whole)

word_small : (a b c d : ℕ) → a < 256 → b < 256 → c < 256 → d < 256 → a + 256 * b + 65536 * c + 16777216 * d < 4294967296
word_small a b c d ha hb hc hd = omega arith

word_bytes : (a b c d : ℕ) → a < 256 → b < 256 → c < 256 → d < 256 → (w : ℕ) → w ≡ a + 256 * b + 65536 * c + 16777216 * d
    → (w % 256 ≡ a) × (w / 256 % 256 ≡ b) × (w / 65536 % 256 ≡ c) × (w / 16777216 % 256 ≡ d)
word_bytes a b c d ha hb hc hd w e = (omega arith, omega arith, omega arith, omega arith)

-- the first word of a text, fed to a register of 0, and what is behind it
pub word_first : (xs : List ℕ) (at n : ℕ) → Bytes xs → at + 4 + n ≡ length xs
    → fed 0 (drop at xs) ≡ bit_xor (fed_bits (8 * n + 32) (word_at xs at) 0) (fed 0 (drop (at + 4) xs))
word_first xs at n fits long =
    let b0 = slice_index xs at in
    let b1 = slice_index xs (at + 1) in
    let b2 = slice_index xs (at + 2) in
    let b3 = slice_index xs (at + 3) in
    let w = word_at xs at in
    let s1 : at + 1 + 1 ≡ at + 2 = omega arith in
    let s2 : at + 2 + 1 ≡ at + 3 = omega arith in
    let s3 : at + 3 + 1 ≡ at + 4 = omega arith in
    let f0 : fed 0 (drop at xs) ≡ bit_xor (fed 0 (drop (at + 1) xs)) (fed_bits (8 * n + 32) b0 0) =
    byte_first xs at (n + 3) (8 * n + 32) fits (omega arith) (omega arith) in
    let f1 : fed 0 (drop (at + 1) xs) ≡ bit_xor (fed 0 (drop (at + 2) xs)) (fed_bits (8 * n + 24) b1 0) =
    byte_first xs (at + 1) (n + 2) (8 * n + 24) fits (omega arith) (omega arith) ∙ ap (λ (k : ℕ). bit_xor (fed 0 (drop k xs)) (fed_bits (8 * n + 24) b1 0)) s1 in
    let f2 : fed 0 (drop (at + 2) xs) ≡ bit_xor (fed 0 (drop (at + 3) xs)) (fed_bits (8 * n + 16) b2 0) =
    byte_first xs (at + 2) (n + 1) (8 * n + 16) fits (omega arith) (omega arith) ∙ ap (λ (k : ℕ). bit_xor (fed 0 (drop k xs)) (fed_bits (8 * n + 16) b2 0)) s2 in
    let f3 : fed 0 (drop (at + 3) xs) ≡ bit_xor (fed 0 (drop (at + 4) xs)) (fed_bits (8 * n + 8) b3 0) =
    byte_first xs (at + 3) n (8 * n + 8) fits (omega arith) (omega arith) ∙ ap (λ (k : ℕ). bit_xor (fed 0 (drop k xs)) (fed_bits (8 * n + 8) b3 0)) s3 in
    let parts = word_bytes b0 b1 b2 b3 (fits at) (fits (at + 1)) (fits (at + 2)) (fits (at + 3)) w refl in
    let whole : bit_xor (bit_xor (fed_bits (8 * n + 32) b0 0) (fed_bits (8 * n + 24) b1 0)) (bit_xor (fed_bits (8 * n + 16) b2 0) (fed_bits (8 * n + 8) b3 0)) ≡ fed_bits (8 * n + 32) w 0 =
    ap₂ bit_xor
    (ap₂ (λ (x y : ℕ). bit_xor (fed_bits (8 * n + 32) x 0) (fed_bits (8 * n + 24) y 0)) (sym parts.0) (sym parts.1))
    (ap₂ (λ (x y : ℕ). bit_xor (fed_bits (8 * n + 16) x 0) (fed_bits (8 * n + 8) y 0)) (sym parts.2) (sym parts.3))
    ∙ word_parts (8 * n) w (word_small b0 b1 b2 b3 (fits at) (fits (at + 1)) (fits (at + 2)) (fits (at + 3))) in
    f0 ∙ ap (λ (x : ℕ). bit_xor x (fed_bits (8 * n + 32) b0 0)) (f1 ∙ ap (λ (x : ℕ). bit_xor x (fed_bits (8 * n + 24) b1 0)) (f2 ∙ ap (λ (x : ℕ). bit_xor x (fed_bits (8 * n + 16) b2 0)) f3))
    ∙ turned_on (fed 0 (drop (at + 4) xs)) (fed_bits (8 * n + 8) b3 0) (fed_bits (8 * n + 16) b2 0) (fed_bits (8 * n + 24) b1 0) (fed_bits (8 * n + 32) b0 0)
    ∙ ap (λ (x : ℕ). bit_xor x (fed 0 (drop (at + 4) xs))) whole

-- ---- a register in front of a text

-- a register is what it becomes after the text, added to what the text makes of a register of 0
pub register_out : (r : ℕ) (xs : List ℕ) (n : ℕ) → length xs ≡ n → fed r xs ≡ bit_xor (fed 0 xs) (fed_bits (8 * n) r 0)
register_out r xs n h =
    let none : bit_xor 0 r ≡ r = xor_comm 0 r ∙ xor_zero_r r in
    let times : length xs * 8 ≡ 8 * n = omega arith in
    sym (ap (λ (x : ℕ). fed x xs) none) ∙ fed-xor xs 0 r ∙ ap (λ (j : ℕ). bit_xor (fed 0 xs) (fed_bits j r 0)) times

sum_fed : (k a b : ℕ) → fed_bits k (bit_xor a b) 0 ≡ bit_xor (fed_bits k a 0) (fed_bits k b 0)
sum_fed k a b = fed_bits-xor k a b 0 0

-- two numbers, of which each is fed on
fed_on : (k m a b : ℕ) → k ≡ m + 32 → fed_bits m (fed_bits 32 (bit_xor a b) 0) 0 ≡ bit_xor (fed_bits k a 0) (fed_bits k b 0)
fed_on k m a b e =
    let swapped : 32 + m ≡ k = omega arith in
    zeros_in_turn m 32 (bit_xor a b) ∙ ap (λ (j : ℕ). fed_bits j (bit_xor a b) 0) swapped ∙ sum_fed k a b

-- the register and the first word of a text together
pub word_fed : (r : ℕ) (xs : List ℕ) (at n : ℕ) → Bytes xs → at + 4 + n ≡ length xs
    → fed r (drop at xs) ≡ fed (fed_bits 32 (bit_xor r (word_at xs at)) 0) (drop (at + 4) xs)
word_fed r xs at n fits long =
    let w = word_at xs at in
    let rest = fed 0 (drop (at + 4) xs) in
    let k : ℕ = 8 * n + 32 in
    let all : length (drop at xs) ≡ n + 4 = omega (arith, length-drop at xs) in
    let behind : length (drop (at + 4) xs) ≡ n = omega (arith, length-drop (at + 4) xs) in
    let times : 8 * (n + 4) ≡ 8 * n + 32 = omega arith in
    let front : fed r (drop at xs) ≡ bit_xor (bit_xor (fed_bits (8 * n + 32) w 0) rest) (fed_bits (8 * n + 32) r 0) =
    register_out r (drop at xs) (n + 4) all
    ∙ ap₂ (λ (x j : ℕ). bit_xor x (fed_bits j r 0)) (word_first xs at n fits long) times in
    let back : fed (fed_bits 32 (bit_xor r w) 0) (drop (at + 4) xs) ≡ bit_xor rest (bit_xor (fed_bits (8 * n + 32) r 0) (fed_bits (8 * n + 32) w 0)) =
    register_out (fed_bits 32 (bit_xor r w) 0) (drop (at + 4) xs) n behind
    ∙ ap (bit_xor rest) (fed_on (8 * n + 32) (8 * n) r w refl) in
    front
    ∙ ap (λ (x : ℕ). bit_xor x (fed_bits (8 * n + 32) r 0)) (xor_comm (fed_bits (8 * n + 32) w 0) rest)
    ∙ xor_assoc rest (fed_bits (8 * n + 32) w 0) (fed_bits (8 * n + 32) r 0)
    ∙ ap (bit_xor rest) (xor_comm (fed_bits (8 * n + 32) w 0) (fed_bits (8 * n + 32) r 0))
    ∙ sym back

-- ---- four registers in front of a text, one for each of its first words

-- the register after a text that has n bytes behind its first block; what a register of 0 becomes after it is `rest`
abbrev pub beside : (n a b c d rest : ℕ) → ℕ
beside n a b c d rest =
    bit_xor (bit_xor (bit_xor (fed_bits (8 * n + 128) a 0) (fed_bits (8 * n + 96) b 0)) (bit_xor (fed_bits (8 * n + 64) c 0) (fed_bits (8 * n + 32) d 0))) rest

zero_fed : (n : ℕ) → fed_bits n 0 0 ≡ 0
unfolding fed_bits fed_bit
zero_fed zero = refl
zero_fed (suc n) = zero_fed n

-- at the start: the register, and three of 0
pub beside_start : (r n : ℕ) (xs : List ℕ) → 16 + n ≡ length xs → beside n r 0 0 0 (fed 0 xs) ≡ fed r xs
beside_start r n xs long =
    let times : 8 * (n + 16) ≡ 8 * n + 128 = omega arith in
    let whole : fed r xs ≡ bit_xor (fed 0 xs) (fed_bits (8 * n + 128) r 0) =
    register_out r xs (n + 16) (omega arith) ∙ ap (λ (j : ℕ). bit_xor (fed 0 xs) (fed_bits j r 0)) times in
    ap₂ (λ (x y : ℕ). bit_xor (bit_xor (bit_xor (fed_bits (8 * n + 128) r 0) x) (bit_xor y (fed_bits (8 * n + 32) 0 0))) (fed 0 xs)) (zero_fed (8 * n + 96)) (zero_fed (8 * n + 64))
    ∙ ap (λ (x : ℕ). bit_xor (bit_xor (bit_xor (fed_bits (8 * n + 128) r 0) 0) (bit_xor 0 x)) (fed 0 xs)) (zero_fed (8 * n + 32))
    ∙ ap (λ (x : ℕ). bit_xor (bit_xor x 0) (fed 0 xs)) (xor_zero_r (fed_bits (8 * n + 128) r 0))
    ∙ ap (λ (x : ℕ). bit_xor x (fed 0 xs)) (xor_zero_r (fed_bits (8 * n + 128) r 0))
    ∙ xor_comm (fed_bits (8 * n + 128) r 0) (fed 0 xs) ∙ sym whole

grouped : (a b c d e : ℕ) → bit_xor a (bit_xor b (bit_xor c (bit_xor d e))) ≡ bit_xor (bit_xor (bit_xor a b) (bit_xor c d)) e
grouped a b c d e =
    sym (xor_assoc a b (bit_xor c (bit_xor d e)))
    ∙ ap (bit_xor (bit_xor a b)) (sym (xor_assoc c d e))
    ∙ sym (xor_assoc (bit_xor a b) (bit_xor c d) e)

-- the first block of a text
pub block_first : (xs : List ℕ) (at n : ℕ) → Bytes xs → at + 16 + n ≡ length xs
    → fed 0 (drop at xs) ≡ beside n (word_at xs at) (word_at xs (at + 4)) (word_at xs (at + 8)) (word_at xs (at + 12)) (fed 0 (drop (at + 16) xs))
block_first xs at n fits long =
    let w0 = word_at xs at in
    let w1 = word_at xs (at + 4) in
    let w2 = word_at xs (at + 8) in
    let w3 = word_at xs (at + 12) in
    let f0 : fed 0 (drop at xs) ≡ bit_xor (fed_bits (8 * n + 128) w0 0) (fed 0 (drop (at + 4) xs)) =
    word_first xs at (n + 12) fits (omega arith)
    ∙ ap (λ (j : ℕ). bit_xor (fed_bits j w0 0) (fed 0 (drop (at + 4) xs))) (let e : 8 * (n + 12) + 32 ≡ 8 * n + 128 = omega arith in e) in
    let f1 : fed 0 (drop (at + 4) xs) ≡ bit_xor (fed_bits (8 * n + 96) w1 0) (fed 0 (drop (at + 8) xs)) =
    word_first xs (at + 4) (n + 8) fits (omega arith)
    ∙ ap₂ (λ (j k : ℕ). bit_xor (fed_bits j w1 0) (fed 0 (drop k xs))) (let e : 8 * (n + 8) + 32 ≡ 8 * n + 96 = omega arith in e) (let e : at + 4 + 4 ≡ at + 8 = omega arith in e) in
    let f2 : fed 0 (drop (at + 8) xs) ≡ bit_xor (fed_bits (8 * n + 64) w2 0) (fed 0 (drop (at + 12) xs)) =
    word_first xs (at + 8) (n + 4) fits (omega arith)
    ∙ ap₂ (λ (j k : ℕ). bit_xor (fed_bits j w2 0) (fed 0 (drop k xs))) (let e : 8 * (n + 4) + 32 ≡ 8 * n + 64 = omega arith in e) (let e : at + 8 + 4 ≡ at + 12 = omega arith in e) in
    let f3 : fed 0 (drop (at + 12) xs) ≡ bit_xor (fed_bits (8 * n + 32) w3 0) (fed 0 (drop (at + 16) xs)) =
    word_first xs (at + 12) n fits (omega arith)
    ∙ ap (λ (k : ℕ). bit_xor (fed_bits (8 * n + 32) w3 0) (fed 0 (drop k xs))) (let e : at + 12 + 4 ≡ at + 16 = omega arith in e) in
    f0 ∙ ap (bit_xor (fed_bits (8 * n + 128) w0 0)) (f1 ∙ ap (bit_xor (fed_bits (8 * n + 96) w1 0)) (f2 ∙ ap (bit_xor (fed_bits (8 * n + 64) w2 0)) f3))
    ∙ grouped (fed_bits (8 * n + 128) w0 0) (fed_bits (8 * n + 96) w1 0) (fed_bits (8 * n + 64) w2 0) (fed_bits (8 * n + 32) w3 0) (fed 0 (drop (at + 16) xs))

-- registers in front of registers
beside_beside : (n a b c d p q r s rest : ℕ) → beside n a b c d (beside n p q r s rest) ≡ beside n (bit_xor a p) (bit_xor b q) (bit_xor c r) (bit_xor d s) rest
beside_beside n a b c d p q r s rest =
    let A = fed_bits (8 * n + 128) a 0 in
    let B = fed_bits (8 * n + 96) b 0 in
    let C = fed_bits (8 * n + 64) c 0 in
    let D = fed_bits (8 * n + 32) d 0 in
    let P = fed_bits (8 * n + 128) p 0 in
    let Q = fed_bits (8 * n + 96) q 0 in
    let R = fed_bits (8 * n + 64) r 0 in
    let S = fed_bits (8 * n + 32) s 0 in
    sym (xor_assoc (bit_xor (bit_xor A B) (bit_xor C D)) (bit_xor (bit_xor P Q) (bit_xor R S)) rest)
    ∙ ap (λ (x : ℕ). bit_xor x rest) (xor_swap (bit_xor A B) (bit_xor C D) (bit_xor P Q) (bit_xor R S)
    ∙ ap₂ bit_xor
    (xor_swap A B P Q ∙ ap₂ bit_xor (sym (sum_fed (8 * n + 128) a p)) (sym (sum_fed (8 * n + 96) b q)))
    (xor_swap C D R S ∙ ap₂ bit_xor (sym (sum_fed (8 * n + 64) c r)) (sym (sum_fed (8 * n + 32) d s))))

in_turn : (j k m x : ℕ) → j ≡ 128 + m → k ≡ m → fed_bits j x 0 ≡ fed_bits k (fed_bits 128 x 0) 0
in_turn j k m x e f =
    ap (λ (i : ℕ). fed_bits i x 0) e ∙ sym (zeros_in_turn m 128 x) ∙ ap (λ (i : ℕ). fed_bits i (fed_bits 128 x 0) 0) (sym f)

-- a block further on
pub beside_step : (n m a b c d : ℕ) (xs : List ℕ) (at : ℕ) → Bytes xs → at + 16 + n ≡ length xs → n ≡ m + 16
    → beside m (fed_bits 128 (bit_xor a (word_at xs at)) 0) (fed_bits 128 (bit_xor b (word_at xs (at + 4))) 0)
    (fed_bits 128 (bit_xor c (word_at xs (at + 8))) 0) (fed_bits 128 (bit_xor d (word_at xs (at + 12))) 0) (fed 0 (drop (at + 16) xs))
    ≡ beside n a b c d (fed 0 (drop at xs))
beside_step n m a b c d xs at fits long e =
    let w0 = word_at xs at in
    let w1 = word_at xs (at + 4) in
    let w2 = word_at xs (at + 8) in
    let w3 = word_at xs (at + 12) in
    let rest = fed 0 (drop (at + 16) xs) in
    sym (ap (beside n a b c d) (block_first xs at n fits long)
    ∙ beside_beside n a b c d w0 w1 w2 w3 rest
    ∙ ap (λ (x : ℕ). bit_xor x rest) (ap₂ bit_xor
    (ap₂ bit_xor (in_turn (8 * n + 128) (8 * m + 128) (8 * m + 128) (bit_xor a w0) (omega arith) refl) (in_turn (8 * n + 96) (8 * m + 96) (8 * m + 96) (bit_xor b w1) (omega arith) refl))
    (ap₂ bit_xor (in_turn (8 * n + 64) (8 * m + 64) (8 * m + 64) (bit_xor c w2) (omega arith) refl) (in_turn (8 * n + 32) (8 * m + 32) (8 * m + 32) (bit_xor d w3) (omega arith) refl))))

-- over the last block they become one
pub beside_end : (a b c d : ℕ) (xs : List ℕ) (at : ℕ) → Bytes xs → at + 16 ≡ length xs
    → fed_bits 32 (bit_xor (fed_bits 32 (bit_xor (fed_bits 32 (bit_xor (fed_bits 32 (bit_xor a (word_at xs at)) 0)
    (bit_xor b (word_at xs (at + 4)))) 0) (bit_xor c (word_at xs (at + 8)))) 0) (bit_xor d (word_at xs (at + 12)))) 0
    ≡ beside 0 a b c d (fed 0 (drop at xs))
unfolding fed
beside_end a b c d xs at fits long =
    let x = bit_xor a (word_at xs at) in
    let y = bit_xor b (word_at xs (at + 4)) in
    let z = bit_xor c (word_at xs (at + 8)) in
    let u = bit_xor d (word_at xs (at + 12)) in
    let one = fed_bits 32 x 0 in
    let two = fed_bits 32 (bit_xor one y) 0 in
    let three = fed_bits 32 (bit_xor two z) 0 in
    let e1 : fed_bits 96 one 0 ≡ fed_bits 128 x 0 = zeros_in_turn 96 32 x in
    let e2 : fed_bits 64 two 0 ≡ bit_xor (fed_bits 96 one 0) (fed_bits 96 y 0) = fed_on 96 64 one y refl in
    let e3 : fed_bits 32 three 0 ≡ bit_xor (fed_bits 64 two 0) (fed_bits 64 z 0) = fed_on 64 32 two z refl in
    let e4 : fed_bits 32 (bit_xor three u) 0 ≡ bit_xor (fed_bits 32 three 0) (fed_bits 32 u 0) = sum_fed 32 three u in
    let nothing : fed 0 (drop (at + 16) xs) ≡ 0 = ap (fed 0) (drop_all (at + 16) xs (omega arith)) in
    e4
    ∙ ap (λ (v : ℕ). bit_xor v (fed_bits 32 u 0)) (e3 ∙ ap (λ (v : ℕ). bit_xor v (fed_bits 64 z 0)) (e2 ∙ ap (λ (v : ℕ). bit_xor v (fed_bits 96 y 0)) e1))
    ∙ xor_assoc (bit_xor (fed_bits 128 x 0) (fed_bits 96 y 0)) (fed_bits 64 z 0) (fed_bits 32 u 0)
    ∙ sym (xor_zero_r (bit_xor (bit_xor (fed_bits 128 x 0) (fed_bits 96 y 0)) (bit_xor (fed_bits 64 z 0) (fed_bits 32 u 0))))
    ∙ ap (bit_xor (bit_xor (bit_xor (fed_bits 128 x 0) (fed_bits 96 y 0)) (bit_xor (fed_bits 64 z 0) (fed_bits 32 u 0)))) (sym nothing)
    ∙ sym (beside_beside 0 a b c d (word_at xs at) (word_at xs (at + 4)) (word_at xs (at + 8)) (word_at xs (at + 12)) (fed 0 (drop (at + 16) xs)))
    ∙ sym (ap (beside 0 a b c d) (block_first xs at 0 fits (omega arith)))

-- what is behind the last whole word
pub rest_fed : (register : ℕ) (xs : List ℕ) (i : ℕ) → i ≡ length xs / 4
    → fed register (take (length xs - length xs / 4 * 4) (drop (length xs / 4 * 4) xs)) ≡ fed register (drop (4 * i) xs)
rest_fed register xs i h =
    let n = length xs / 4 * 4 in
    let long : length (drop n xs) ≤ length xs - n = omega (arith, length-drop n xs) in
    let e : length xs / 4 * 4 ≡ 4 * i = omega arith in
    ap (fed register) (take_all (length xs - n) (drop n xs) long ∙ ap (λ (k : ℕ). drop k xs) e)

-- a text in two pieces, as the code cuts it
pub whole_fed : (register : ℕ) (xs : List ℕ) (n middle : ℕ) → n ≤ length xs → middle ≡ fed register (take n xs)
    → fed middle (take (length xs - n) (drop n xs)) ≡ fed register xs
whole_fed register xs n middle h e =
    let long : length (drop n xs) ≤ length xs - n = omega (arith, length-drop n xs) in
    ap₂ fed e (take_all (length xs - n) (drop n xs) long)
    ∙ fed-append register (take n xs) (drop n xs)
    ∙ ap (fed register) (take-append-drop n xs)

-- equal registers in front of equal texts
pub beside_same : (m a b c d p q r s j k : ℕ) (xs : List ℕ) → a ≡ p → b ≡ q → c ≡ r → d ≡ s → j ≡ k
    → beside m a b c d (fed 0 (drop j xs)) ≡ beside m p q r s (fed 0 (drop k xs))
beside_same m a b c d p q r s j k xs ea eb ec ed ej = cc
