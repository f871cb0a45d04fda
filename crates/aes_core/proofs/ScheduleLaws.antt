-- The key schedule: its words one by one, and that it is a list of bytes.
use Rattle.std.proofs.Common.{◌≡◌, ℕ, zero, suc, ◌<◌, ◌≤◌, ◌+◌, ◌-◌, ◌*◌, ◌/◌, ◌%◌, Bool, true, false, List, [], ◌∷◌, ◌++◌, take, drop, set, length, slice_index, refl, sym, ap, ap₂, ◌∙◌, arith, lit<}
use Rattle.std.specs.Prelude.{◌==◌, if◌then◌else◌, bit_xor}
use Rattle.std.proofs.lemmas.Bool.{eqb-true}
use Rattle.std.specs.Int.{w32, to_le_bytes}
use Rattle.std.proofs.lemmas.List.{take_all, take-append-le, take-append-drop, length-take-le, take-take, length-drop, drop-take, get_or-take, take_more_set}
use Rattle.octets.specs.Bytes.{HasBytes, xor_bytes}
use Rattle.aes_core.specs.Field.{xtime, product_bits, power_bits, power}
use Rattle.aes_core.specs.SubstitutionBox.{sub_byte}
use Rattle.aes_core.specs.KeySchedule.{word, rot_word, sub_word, round_constant, change, next_word, expanded, key_schedule, IsExpansion, round_key}
use Rattle.aes_core.specs.Words.{bytes_of}
use Rattle.aes_core.specs.declared.schedule.TheConstants.{ROUND_CONSTANTS}
use Rattle.aes_core.proofs.TableTests.{passes_below, passes_at}
use Rattle.aes_core.proofs.FieldLaws.{power_bits-lt}
use Rattle.aes_core.proofs.SubstitutionLaws.{sub_byte-lt}
use Rattle.aes_core.proofs.WordLaws.{same_four, word_xor, bytes_of-append, word_words}
use Rattle.aes_core.proofs.ByteLists.{in_range-drop, HasBytes-nil, HasBytes-cons, HasBytes-append, HasBytes-part, HasBytes-map, HasBytes-xor_bytes}

-- ---- the code's constants

constants_test : passes_below (λ j. slice_index ROUND_CONSTANTS j == power 2 j) 7 ≡ true
unfolding xtime product_bits power_bits passes_below
constants_test = refl

-- a byte as the lowest of a word
low_byte : (b : ℕ) → b < 256 → to_le_bytes w32 b ≡ b ∷ 0 ∷ 0 ∷ 0 ∷ []
low_byte b h =
    let e0 : b % 256 ≡ b = omega arith in
    let e1 : b / 256 % 256 ≡ 0 = omega arith in
    let e2 : b / 65536 % 256 ≡ 0 = omega arith in
    let e3 : b / 16777216 % 256 ≡ 0 = omega arith in
    same_four e0 e1 e2 e3

constant_word : (j : ℕ) → 1 ≤ j → j < 8 → to_le_bytes w32 (slice_index ROUND_CONSTANTS (j - 1)) ≡ round_constant j
constant_word j some below =
    let same = eqb-true (slice_index ROUND_CONSTANTS (j - 1)) (power 2 (j - 1)) (passes_at _ 7 constants_test (j - 1) (omega arith)) in
    ap (to_le_bytes w32) same ∙ low_byte (power 2 (j - 1)) (power_bits-lt 8 2 (j - 1))

pub change_with_constant : (i before r : ℕ) → 8 ≤ i → i < 60 → i % 8 ≡ 0
    → to_le_bytes w32 r ≡ sub_word (rot_word (to_le_bytes w32 before))
    → to_le_bytes w32 (bit_xor r (slice_index ROUND_CONSTANTS (i / 8 - 1))) ≡ change i (to_le_bytes w32 before)
change_with_constant i before r after in_schedule even is =
    word_xor r (slice_index ROUND_CONSTANTS (i / 8 - 1))
    ∙ ap₂ xor_bytes is (constant_word (i / 8) (omega arith) (omega arith))
    ∙ rw even refl

-- ---- word by word

-- a word is the same in a beginning that holds it
word_before : (s : List ℕ) (i j : ℕ) → j < i → i ≤ length s → word (bytes_of (take i s)) j ≡ to_le_bytes w32 (slice_index s j)
word_before s i j h fits =
    word_words (take i s) j (omega (arith, length-take-le i s fits))
    ∙ ap (to_le_bytes w32) (get_or-take i s j 0 h)

-- after word i was written, the schedule has one more word of the expanded key
pub one_more_word : (key s : List ℕ) (i v : ℕ) → 8 ≤ i → i < length s
    → bytes_of (take i s) ≡ expanded key (i - 8)
    → to_le_bytes w32 v ≡ change i (to_le_bytes w32 (slice_index s (i - 1)))
    → bytes_of (take (i + 1) (set s i (bit_xor (slice_index s (i - 8)) v))) ≡ expanded key (i + 1 - 8)
unfolding expanded next_word
one_more_word key s i v after within held is =
    let added : ℕ = bit_xor (slice_index s (i - 8)) v in
    let made : to_le_bytes w32 added ≡ next_word (bytes_of (take i s)) i =
    word_xor (slice_index s (i - 8)) v
    ∙ ap₂ xor_bytes (sym (word_before s i (i - 8) (omega arith) (omega arith)))
    (is ∙ ap (change i) (sym (word_before s i (i - 1) (omega arith) (omega arith)))) in
    let count : i + 1 - 8 ≡ suc (i - 8) = omega arith in
    let place : i - 8 + 8 ≡ i = omega arith in
    ap bytes_of (take_more_set s i added within)
    ∙ bytes_of-append (take i s) (added ∷ [])
    ∙ ap₂ (λ (x : List ℕ) (y : List ℕ). x ++ y) held (made ∙ ap (λ (x : List ℕ). next_word x i) held ∙ ap (next_word (expanded key (i - 8))) (sym place))
    ∙ ap (expanded key) (sym count)

pub whole_schedule : (key s : List ℕ) (i : ℕ) → i ≡ 60 → length s ≡ 60
    → bytes_of (take i s) ≡ expanded key (i - 8) → bytes_of s ≡ key_schedule key
whole_schedule key s i last long held =
    let all = take_all i s (omega arith) in
    let count : i - 8 ≡ 52 = omega arith in
    ap bytes_of (sym all) ∙ held ∙ ap (expanded key) count

-- ---- the words of the key

take-plus : (n m : ℕ) (xs : List ℕ) → take (n + m) xs ≡ take n xs ++ take m (drop n xs)
take-plus n m xs =
    sym (take-append-drop n (take (n + m) xs))
    ∙ ap₂ (λ (x : List ℕ) (y : List ℕ). x ++ y) (take-take n (n + m) xs (omega arith)) (drop-take n m xs)

pub one_more_key_word : (key ws : List ℕ) (i v : ℕ) → i < length ws
    → bytes_of (take i ws) ≡ take (4 * i) key → to_le_bytes w32 v ≡ take 4 (drop (4 * i) key)
    → bytes_of (take (i + 1) (set ws i v)) ≡ take (4 * (i + 1)) key
one_more_key_word key ws i v within held is =
    let place : 4 * (i + 1) ≡ 4 * i + 4 = omega arith in
    ap bytes_of (take_more_set ws i v within)
    ∙ bytes_of-append (take i ws) (v ∷ [])
    ∙ ap₂ (λ (x : List ℕ) (y : List ℕ). x ++ y) held is
    ∙ sym (take-plus (4 * i) 4 key)
    ∙ ap (λ (n : ℕ). take n key) (sym place)

-- ---- the schedule is a list of bytes, and begins with the key

HasBytes-word : (s : List ℕ) (i : ℕ) → 4 * i + 4 ≤ length s → ((k : ℕ) → slice_index s k < 256) → HasBytes 4 (word s i)
HasBytes-word s i fits h = HasBytes-part (4 * i) 4 s fits h

HasBytes-rot_word : (w : List ℕ) → HasBytes 4 w → HasBytes 4 (rot_word w)
HasBytes-rot_word w h =
    HasBytes-append 3 1 (drop 1 w) (take 1 w)
    (record { count = length-drop 1 w ∙ ap (λ (n : ℕ). n - 1) h.count; in_range = in_range-drop 1 w h.in_range })
    (HasBytes-part 0 1 w (omega (arith, h.count)) h.in_range)

HasBytes-sub_word : (w : List ℕ) → HasBytes 4 w → HasBytes 4 (sub_word w)
HasBytes-sub_word w h = HasBytes-map 4 sub_byte sub_byte-lt w h

HasBytes-round_constant : (j : ℕ) → HasBytes 4 (round_constant j)
HasBytes-round_constant j = HasBytes-cons (power_bits-lt 8 2 (j - 1)) (HasBytes-cons (lit< tt) (HasBytes-cons (lit< tt) (HasBytes-cons (lit< tt) HasBytes-nil)))

HasBytes-either : (t : Bool) (x y : List ℕ) → HasBytes 4 x → HasBytes 4 y → HasBytes 4 (if t then x else y)
HasBytes-either true x y h k = h
HasBytes-either false x y h k = k

HasBytes-change : (i : ℕ) (w : List ℕ) → HasBytes 4 w → HasBytes 4 (change i w)
HasBytes-change i w h =
    HasBytes-either (i % 8 == 0) _ _
    (HasBytes-xor_bytes 4 _ _ (HasBytes-sub_word (rot_word w) (HasBytes-rot_word w h)) (HasBytes-round_constant (i / 8)))
    (HasBytes-either (i % 8 == 4) _ _ (HasBytes-sub_word w h) h)

HasBytes-next_word : (s : List ℕ) (i : ℕ) → 8 ≤ i → 4 * i ≤ length s → ((k : ℕ) → slice_index s k < 256) → HasBytes 4 (next_word s i)
unfolding next_word
HasBytes-next_word s i after fits h =
    HasBytes-xor_bytes 4 (word s (i - 8)) (change i (word s (i - 1)))
    (HasBytes-word s (i - 8) (omega arith) h)
    (HasBytes-change i (word s (i - 1)) (HasBytes-word s (i - 1) (omega arith) h))

pub HasBytes-expanded : (key : List ℕ) → HasBytes 32 key → (n : ℕ) → HasBytes (32 + 4 * n) (expanded key n)
unfolding expanded
HasBytes-expanded key h zero = h
HasBytes-expanded key h (suc n) =
    let before = HasBytes-expanded key h n in
    let next = HasBytes-next_word (expanded key n) (n + 8) (omega arith) (omega (arith, before.count)) before.in_range in
    let total : 32 + 4 * suc n ≡ 32 + 4 * n + 4 = omega arith in
    rw total (HasBytes-append (32 + 4 * n) 4 (expanded key n) (next_word (expanded key n) (n + 8)) before next)

pub take-expanded : (key : List ℕ) → HasBytes 32 key → (n : ℕ) → take 32 (expanded key n) ≡ key
unfolding expanded
take-expanded key h zero = take_all 32 key (omega (arith, h.count))
take-expanded key h (suc n) =
    take-append-le 32 (expanded key n) (next_word (expanded key n) (n + 8)) (omega (arith, (HasBytes-expanded key h n).count))
    ∙ take-expanded key h n

pub HasBytes-round_key : (key : List ℕ) → HasBytes 32 key → (r : ℕ) → r ≤ 14 → HasBytes 16 (round_key (key_schedule key) r)
HasBytes-round_key key h r le =
    let whole = HasBytes-expanded key h 52 in
    HasBytes-part (16 * r) 16 (key_schedule key) (omega (arith, whole.count)) whole.in_range

-- what a key of the code keeps
pub IsExpansion-new : (key s : List ℕ) → HasBytes 32 key → s ≡ key_schedule key → IsExpansion s × (take 32 s ≡ key)
IsExpansion-new key s h made =
    let begins : take 32 s ≡ key = ap (take 32) made ∙ take-expanded key h 52 in
    (record { key_bytes = rw begins h; schedule = rw begins made }, begins)

pub IsExpansion-round_keys : (s : List ℕ) → IsExpansion s → (r : ℕ) → r ≤ 14 → HasBytes 16 (round_key s r)
IsExpansion-round_keys s e r le =
    rw e.schedule (HasBytes-round_key (take 32 s) e.key_bytes r le)
