-- Words of four bytes: their exclusive or, lists of them, and the round keys of such a list.
use Rattle.std.proofs.Common.{◌≡◌, ℕ, zero, suc, ◌<◌, ◌+◌, ◌*◌, ◌/◌, ◌%◌, ◌^◌, List, [], ◌∷◌, ◌++◌, take, drop, length, slice_index, refl, sym, ap, ap₂, ◌∙◌, arith}
use Rattle.std.specs.Prelude.{bit_xor}
use Rattle.std.specs.Int.{w32, to_le_bytes, from_le_bytes}
use Rattle.std.proofs.lemmas.List.{drop_more, take_all}
use Rattle.std.proofs.lemmas.Nat.{xor_shr, xor_mod, le_bytes_4}
use Rattle.octets.specs.Bytes.{HasBytes, xor_bytes}
use Rattle.aes_core.specs.KeySchedule.{word, round_key}
use Rattle.aes_core.specs.Words.{bytes_of, products}
use Rattle.aes_core.proofs.FieldLaws.{product_bits-lt}
use Rattle.aes_core.proofs.ByteLists.{HasBytes-nil, HasBytes-cons}

pub same_four : {a b c d e f g h : ℕ} → a ≡ e → b ≡ f → c ≡ g → d ≡ h → a ∷ b ∷ c ∷ d ∷ [] ≡ e ∷ f ∷ g ∷ h ∷ []
same_four p q r s = cc

pub four_parts : {a b c d e f g h : List ℕ} → a ≡ e → b ≡ f → c ≡ g → d ≡ h → a ++ b ++ c ++ d ≡ e ++ f ++ g ++ h
four_parts p q r s = cc

-- ---- one word

pub word_xor : (a b : ℕ) → to_le_bytes w32 (bit_xor a b) ≡ xor_bytes (to_le_bytes w32 a) (to_le_bytes w32 b)
word_xor a b =
    let byte = λ (k : ℕ). ap (λ (x : ℕ). x % 2 ^ 8) (xor_shr a b k) ∙ xor_mod (a / 2 ^ k) (b / 2 ^ k) 8 in
    same_four (xor_mod a b 8) (byte 8) (byte 16) (byte 24)

pub word_of_products : (t a0 a1 a2 a3 s : ℕ) → s < 256 → t ≡ from_le_bytes w32 (products a0 a1 a2 a3 s)
    → to_le_bytes w32 t ≡ products a0 a1 a2 a3 s
word_of_products t a0 a1 a2 a3 s below is =
    let bytes : HasBytes 4 (products a0 a1 a2 a3 s) =
    HasBytes-cons (product_bits-lt 8 a0 s below) (HasBytes-cons (product_bits-lt 8 a1 s below)
    (HasBytes-cons (product_bits-lt 8 a2 s below) (HasBytes-cons (product_bits-lt 8 a3 s below) HasBytes-nil))) in
    le_bytes_4 (products a0 a1 a2 a3 s) t bytes.count bytes.in_range is

-- ---- lists of words

pub bytes_of-append : (xs ys : List ℕ) → bytes_of (xs ++ ys) ≡ bytes_of xs ++ bytes_of ys
bytes_of-append [] ys = refl
bytes_of-append (x ∷ xs) ys = ap (λ (t : List ℕ). to_le_bytes w32 x ++ t) (bytes_of-append xs ys)

pub length-bytes_of : (ws : List ℕ) → length (bytes_of ws) ≡ 4 * length ws
length-bytes_of [] = refl
length-bytes_of (w ∷ ws) =
    let more : 4 * suc (length ws) ≡ suc (suc (suc (suc (4 * length ws)))) = omega arith in
    ap (λ (n : ℕ). suc (suc (suc (suc n)))) (length-bytes_of ws) ∙ sym more

pub drop_words : (n : ℕ) (ws : List ℕ) → drop (4 * n) (bytes_of ws) ≡ bytes_of (drop n ws)
drop_words zero ws = refl
drop_words (suc n) [] =
    let more : 4 * suc n ≡ suc (suc (suc (suc (4 * n)))) = omega arith in
    rw more refl
drop_words (suc n) (w ∷ ws) =
    let more : 4 * suc n ≡ suc (suc (suc (suc (4 * n)))) = omega arith in
    rw more (drop_words n ws)

pub take_words : (n : ℕ) (ws : List ℕ) → take (4 * n) (bytes_of ws) ≡ bytes_of (take n ws)
take_words zero ws = refl
take_words (suc n) [] =
    let more : 4 * suc n ≡ suc (suc (suc (suc (4 * n)))) = omega arith in
    rw more refl
take_words (suc n) (w ∷ ws) =
    let more : 4 * suc n ≡ suc (suc (suc (suc (4 * n)))) = omega arith in
    rw more (ap (λ (t : List ℕ). to_le_bytes w32 w ++ t) (take_words n ws))

pub word_words : (ws : List ℕ) (i : ℕ) → i < length ws → word (bytes_of ws) i ≡ to_le_bytes w32 (slice_index ws i)
word_words ws i h =
    ap (take 4) (drop_words i ws ∙ ap bytes_of (drop_more ws i 0 h))

four_from : (ws : List ℕ) (n : ℕ) → n + 3 < length ws
    → take 4 (drop n ws) ≡ slice_index ws n ∷ slice_index ws (n + 1) ∷ slice_index ws (n + 2) ∷ slice_index ws (n + 3) ∷ []
four_from ws n h =
    let e0 = drop_more ws n 0 (omega arith) in
    let e1 = drop_more ws (n + 1) 0 (omega arith) in
    let e2 = drop_more ws (n + 2) 0 (omega arith) in
    let e3 = drop_more ws (n + 3) 0 (omega arith) in
    let j2 : n + 1 + 1 ≡ n + 2 = omega arith in
    let j3 : n + 2 + 1 ≡ n + 3 = omega arith in
    rw (e0, e1, j2, e2, j3, e3) refl

by_places_4 : (xs : List ℕ) → length xs ≡ 4
    → slice_index xs 0 ∷ slice_index xs 1 ∷ slice_index xs 2 ∷ slice_index xs 3 ∷ [] ≡ xs
by_places_4 xs h = sym (four_from xs 0 (omega arith)) ∙ take_all 4 xs (omega arith)

-- the bytes of a state of four words, word by word
pub state_bytes : (x : List ℕ) → length x ≡ 4
    → to_le_bytes w32 (slice_index x 0) ++ to_le_bytes w32 (slice_index x 1) ++ to_le_bytes w32 (slice_index x 2) ++ to_le_bytes w32 (slice_index x 3) ≡ bytes_of x
state_bytes x h = ap bytes_of (by_places_4 x h)

-- two states added word by word
pub state_xor : (x y : List ℕ) → length x ≡ 4 → length y ≡ 4
    → bytes_of (bit_xor (slice_index x 0) (slice_index y 0) ∷ bit_xor (slice_index x 1) (slice_index y 1)
    ∷ bit_xor (slice_index x 2) (slice_index y 2) ∷ bit_xor (slice_index x 3) (slice_index y 3) ∷ [])
    ≡ xor_bytes (bytes_of x) (bytes_of y)
state_xor x y h t =
    four_parts (word_xor (slice_index x 0) (slice_index y 0)) (word_xor (slice_index x 1) (slice_index y 1))
    (word_xor (slice_index x 2) (slice_index y 2)) (word_xor (slice_index x 3) (slice_index y 3))
    ∙ ap₂ xor_bytes (state_bytes x h) (state_bytes y t)

pub round_key_words : (ws : List ℕ) (r : ℕ) → 4 * r + 3 < length ws
    → round_key (bytes_of ws) r
    ≡ bytes_of (slice_index ws (4 * r) ∷ slice_index ws (4 * r + 1) ∷ slice_index ws (4 * r + 2) ∷ slice_index ws (4 * r + 3) ∷ [])
round_key_words ws r h =
    let place : 16 * r ≡ 4 * (4 * r) = omega arith in
    ap (λ (n : ℕ). take 16 (drop n (bytes_of ws))) place
    ∙ ap (take 16) (drop_words (4 * r) ws)
    ∙ take_words 4 (drop (4 * r) ws)
    ∙ ap bytes_of (four_from ws (4 * r) h)
