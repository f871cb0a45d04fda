-- Columns made of the products of their bytes, and states of four columns.
use Rattle.std.proofs.Common.{◌≡◌, ℕ, List, [], ◌∷◌, ◌++◌, length, slice_index, refl, sym, ap, ap₂, subst, ◌∙◌, arith}
use Rattle.std.specs.Prelude.{bit_xor}
use Rattle.std.specs.Int.{w32, to_le_bytes, byte_at}
use Rattle.octets.specs.Bytes.{xor_bytes}
use Rattle.aes_core.specs.Field.{product}
use Rattle.aes_core.specs.SubstitutionBox.{sub_byte, inverse_sub_byte}
use Rattle.aes_core.specs.Cipher.{from_cells, sub_bytes, inverse_sub_bytes, shift_rows, inverse_shift_rows, combination, column, mix_columns, inverse_mix_columns}
use Rattle.aes_core.specs.Words.{bytes_of, products, inverse_mixed_word}
use Rattle.aes_core.proofs.FieldLaws.{product_bits-xor}
use Rattle.aes_core.proofs.SubstitutionLaws.{inverse_sub_byte-sub_byte}
use Rattle.aes_core.proofs.XorLaws.{sum4_rotated, sum4_pair}
use Rattle.aes_core.proofs.ByteLists.{by_places_16}
use Rattle.aes_core.proofs.WordLaws.{same_four, four_parts, word_xor}

-- ---- a column from the products of each byte

column_of_products : (a0 a1 a2 a3 s0 s1 s2 s3 : ℕ)
    → xor_bytes (xor_bytes (xor_bytes (products a0 a3 a2 a1 s0) (products a1 a0 a3 a2 s1)) (products a2 a1 a0 a3 s2)) (products a3 a2 a1 a0 s3)
    ≡ column a0 a1 a2 a3 s0 s1 s2 s3
unfolding combination
column_of_products a0 a1 a2 a3 s0 s1 s2 s3 =
    same_four refl
    (sym (sum4_rotated (product a0 s1) (product a1 s2) (product a2 s3) (product a3 s0)))
    (sym (sum4_rotated (product a0 s2) (product a1 s3) (product a2 s0) (product a3 s1)
    ∙ sum4_rotated (product a3 s1) (product a0 s2) (product a1 s3) (product a2 s0)))
    (sym (sum4_rotated (product a0 s3) (product a1 s0) (product a2 s1) (product a3 s2)
    ∙ sum4_rotated (product a3 s2) (product a0 s3) (product a1 s0) (product a2 s1)
    ∙ sum4_rotated (product a2 s1) (product a3 s2) (product a0 s3) (product a1 s0)))

-- what the code adds up from four tables
pub column_of_words : (a0 a1 a2 a3 s0 s1 s2 s3 x0 x1 x2 x3 : ℕ)
    → to_le_bytes w32 x0 ≡ products a0 a3 a2 a1 s0 → to_le_bytes w32 x1 ≡ products a1 a0 a3 a2 s1
    → to_le_bytes w32 x2 ≡ products a2 a1 a0 a3 s2 → to_le_bytes w32 x3 ≡ products a3 a2 a1 a0 s3
    → to_le_bytes w32 (bit_xor (bit_xor (bit_xor x0 x1) x2) x3) ≡ column a0 a1 a2 a3 s0 s1 s2 s3
column_of_words a0 a1 a2 a3 s0 s1 s2 s3 x0 x1 x2 x3 h0 h1 h2 h3 =
    word_xor (bit_xor (bit_xor x0 x1) x2) x3
    ∙ ap₂ xor_bytes (word_xor (bit_xor x0 x1) x2 ∙ ap₂ xor_bytes (word_xor x0 x1 ∙ ap₂ xor_bytes h0 h1) h2) h3
    ∙ column_of_products a0 a1 a2 a3 s0 s1 s2 s3

-- ---- the exclusive or of columns

combination-xor : (a0 a1 a2 a3 s0 s1 s2 s3 t0 t1 t2 t3 : ℕ)
    → combination a0 a1 a2 a3 (bit_xor s0 t0) (bit_xor s1 t1) (bit_xor s2 t2) (bit_xor s3 t3)
    ≡ bit_xor (combination a0 a1 a2 a3 s0 s1 s2 s3) (combination a0 a1 a2 a3 t0 t1 t2 t3)
unfolding combination
combination-xor a0 a1 a2 a3 s0 s1 s2 s3 t0 t1 t2 t3 =
    ap₂ bit_xor (ap₂ bit_xor (ap₂ bit_xor (product_bits-xor 8 a0 s0 t0) (product_bits-xor 8 a1 s1 t1)) (product_bits-xor 8 a2 s2 t2)) (product_bits-xor 8 a3 s3 t3)
    ∙ sym (sum4_pair (product a0 s0) (product a1 s1) (product a2 s2) (product a3 s3) (product a0 t0) (product a1 t1) (product a2 t2) (product a3 t3))

column-xor : (a0 a1 a2 a3 s0 s1 s2 s3 t0 t1 t2 t3 : ℕ)
    → column a0 a1 a2 a3 (bit_xor s0 t0) (bit_xor s1 t1) (bit_xor s2 t2) (bit_xor s3 t3)
    ≡ xor_bytes (column a0 a1 a2 a3 s0 s1 s2 s3) (column a0 a1 a2 a3 t0 t1 t2 t3)
column-xor a0 a1 a2 a3 s0 s1 s2 s3 t0 t1 t2 t3 =
    same_four
    (combination-xor a0 a1 a2 a3 s0 s1 s2 s3 t0 t1 t2 t3) (combination-xor a0 a1 a2 a3 s1 s2 s3 s0 t1 t2 t3 t0)
    (combination-xor a0 a1 a2 a3 s2 s3 s0 s1 t2 t3 t0 t1) (combination-xor a0 a1 a2 a3 s3 s0 s1 s2 t3 t0 t1 t2)

inverse_mix-xor_places : (s t : ℕ → ℕ)
    → inverse_mix_columns (xor_bytes
    (s 0 ∷ s 1 ∷ s 2 ∷ s 3 ∷ s 4 ∷ s 5 ∷ s 6 ∷ s 7 ∷ s 8 ∷ s 9 ∷ s 10 ∷ s 11 ∷ s 12 ∷ s 13 ∷ s 14 ∷ s 15 ∷ [])
    (t 0 ∷ t 1 ∷ t 2 ∷ t 3 ∷ t 4 ∷ t 5 ∷ t 6 ∷ t 7 ∷ t 8 ∷ t 9 ∷ t 10 ∷ t 11 ∷ t 12 ∷ t 13 ∷ t 14 ∷ t 15 ∷ []))
    ≡ xor_bytes
    (inverse_mix_columns (s 0 ∷ s 1 ∷ s 2 ∷ s 3 ∷ s 4 ∷ s 5 ∷ s 6 ∷ s 7 ∷ s 8 ∷ s 9 ∷ s 10 ∷ s 11 ∷ s 12 ∷ s 13 ∷ s 14 ∷ s 15 ∷ []))
    (inverse_mix_columns (t 0 ∷ t 1 ∷ t 2 ∷ t 3 ∷ t 4 ∷ t 5 ∷ t 6 ∷ t 7 ∷ t 8 ∷ t 9 ∷ t 10 ∷ t 11 ∷ t 12 ∷ t 13 ∷ t 14 ∷ t 15 ∷ []))
unfolding inverse_mix_columns
inverse_mix-xor_places s t =
    let at = λ (i : ℕ) (j : ℕ) (k : ℕ) (l : ℕ). column-xor 14 11 13 9 (s i) (s j) (s k) (s l) (t i) (t j) (t k) (t l) in
    four_parts (at 0 1 2 3) (at 4 5 6 7) (at 8 9 10 11) (at 12 13 14 15)

pub inverse_mix-xor : (s t : List ℕ) → length s ≡ 16 → length t ≡ 16
    → inverse_mix_columns (xor_bytes s t) ≡ xor_bytes (inverse_mix_columns s) (inverse_mix_columns t)
inverse_mix-xor s t hs ht =
    let P : List ℕ → Type 0 = λ x. inverse_mix_columns (xor_bytes x t) ≡ xor_bytes (inverse_mix_columns x) (inverse_mix_columns t) in
    let Q : List ℕ → Type 0 = λ y. inverse_mix_columns (xor_bytes
    (slice_index s 0 ∷ slice_index s 1 ∷ slice_index s 2 ∷ slice_index s 3 ∷ slice_index s 4 ∷ slice_index s 5 ∷ slice_index s 6 ∷ slice_index s 7 ∷ slice_index s 8 ∷ slice_index s 9 ∷ slice_index s 10 ∷ slice_index s 11 ∷ slice_index s 12 ∷ slice_index s 13 ∷ slice_index s 14 ∷ slice_index s 15 ∷ []) y)
    ≡ xor_bytes (inverse_mix_columns
    (slice_index s 0 ∷ slice_index s 1 ∷ slice_index s 2 ∷ slice_index s 3 ∷ slice_index s 4 ∷ slice_index s 5 ∷ slice_index s 6 ∷ slice_index s 7 ∷ slice_index s 8 ∷ slice_index s 9 ∷ slice_index s 10 ∷ slice_index s 11 ∷ slice_index s 12 ∷ slice_index s 13 ∷ slice_index s 14 ∷ slice_index s 15 ∷ [])) (inverse_mix_columns y) in
    subst P (by_places_16 s hs) (subst Q (by_places_16 t ht) (inverse_mix-xor_places (slice_index s) (slice_index t)))

-- ---- a column of InvMixColumns, by the tables that undo the substitution

column_undone : (r w s0 s1 s2 s3 : ℕ)
    → to_le_bytes w32 r ≡ column 14 11 13 9 (inverse_sub_byte s0) (inverse_sub_byte s1) (inverse_sub_byte s2) (inverse_sub_byte s3)
    → inverse_sub_byte s0 ≡ byte_at 0 w → inverse_sub_byte s1 ≡ byte_at 1 w → inverse_sub_byte s2 ≡ byte_at 2 w → inverse_sub_byte s3 ≡ byte_at 3 w
    → to_le_bytes w32 r ≡ inverse_mixed_word w
column_undone r w s0 s1 s2 s3 h e0 e1 e2 e3 = rw (e0, e1, e2, e3) at h

pub substituted_and_undone : (r w s0 s1 s2 s3 : ℕ)
    → to_le_bytes w32 r ≡ column 14 11 13 9 (inverse_sub_byte s0) (inverse_sub_byte s1) (inverse_sub_byte s2) (inverse_sub_byte s3)
    → s0 ≡ sub_byte (byte_at 0 w) → s1 ≡ sub_byte (byte_at 1 w) → s2 ≡ sub_byte (byte_at 2 w) → s3 ≡ sub_byte (byte_at 3 w)
    → to_le_bytes w32 r ≡ inverse_mixed_word w
substituted_and_undone r w s0 s1 s2 s3 h e0 e1 e2 e3 =
    column_undone r w s0 s1 s2 s3 h
    (ap inverse_sub_byte e0 ∙ inverse_sub_byte-sub_byte (byte_at 0 w) (omega arith))
    (ap inverse_sub_byte e1 ∙ inverse_sub_byte-sub_byte (byte_at 1 w) (omega arith))
    (ap inverse_sub_byte e2 ∙ inverse_sub_byte-sub_byte (byte_at 2 w) (omega arith))
    (ap inverse_sub_byte e3 ∙ inverse_sub_byte-sub_byte (byte_at 3 w) (omega arith))

-- ---- a state of four columns

same_state : (w0 w1 w2 w3 : ℕ) {c0 c1 c2 c3 : List ℕ} → to_le_bytes w32 w0 ≡ c0 → to_le_bytes w32 w1 ≡ c1 → to_le_bytes w32 w2 ≡ c2 → to_le_bytes w32 w3 ≡ c3
    → bytes_of (w0 ∷ w1 ∷ w2 ∷ w3 ∷ []) ≡ c0 ++ c1 ++ c2 ++ c3
same_state w0 w1 w2 w3 p q r s = four_parts p q r s

pub mixed_rows : (s : List ℕ) (w0 w1 w2 w3 : ℕ) → length s ≡ 16
    → to_le_bytes w32 w0 ≡ column 2 3 1 1 (sub_byte (slice_index s 0)) (sub_byte (slice_index s 5)) (sub_byte (slice_index s 10)) (sub_byte (slice_index s 15))
    → to_le_bytes w32 w1 ≡ column 2 3 1 1 (sub_byte (slice_index s 4)) (sub_byte (slice_index s 9)) (sub_byte (slice_index s 14)) (sub_byte (slice_index s 3))
    → to_le_bytes w32 w2 ≡ column 2 3 1 1 (sub_byte (slice_index s 8)) (sub_byte (slice_index s 13)) (sub_byte (slice_index s 2)) (sub_byte (slice_index s 7))
    → to_le_bytes w32 w3 ≡ column 2 3 1 1 (sub_byte (slice_index s 12)) (sub_byte (slice_index s 1)) (sub_byte (slice_index s 6)) (sub_byte (slice_index s 11))
    → bytes_of (w0 ∷ w1 ∷ w2 ∷ w3 ∷ []) ≡ mix_columns (shift_rows (sub_bytes s))
unfolding from_cells sub_bytes shift_rows mix_columns
mixed_rows s w0 w1 w2 w3 long h0 h1 h2 h3 =
    let P : List ℕ → Type 0 = λ x. bytes_of (w0 ∷ w1 ∷ w2 ∷ w3 ∷ []) ≡ mix_columns (shift_rows (sub_bytes x)) in
    subst P (by_places_16 s long) (same_state w0 w1 w2 w3 h0 h1 h2 h3)

pub inverse_mixed_rows : (s : List ℕ) (w0 w1 w2 w3 : ℕ) → length s ≡ 16
    → to_le_bytes w32 w0 ≡ column 14 11 13 9 (inverse_sub_byte (slice_index s 0)) (inverse_sub_byte (slice_index s 13)) (inverse_sub_byte (slice_index s 10)) (inverse_sub_byte (slice_index s 7))
    → to_le_bytes w32 w1 ≡ column 14 11 13 9 (inverse_sub_byte (slice_index s 4)) (inverse_sub_byte (slice_index s 1)) (inverse_sub_byte (slice_index s 14)) (inverse_sub_byte (slice_index s 11))
    → to_le_bytes w32 w2 ≡ column 14 11 13 9 (inverse_sub_byte (slice_index s 8)) (inverse_sub_byte (slice_index s 5)) (inverse_sub_byte (slice_index s 2)) (inverse_sub_byte (slice_index s 15))
    → to_le_bytes w32 w3 ≡ column 14 11 13 9 (inverse_sub_byte (slice_index s 12)) (inverse_sub_byte (slice_index s 9)) (inverse_sub_byte (slice_index s 6)) (inverse_sub_byte (slice_index s 3))
    → bytes_of (w0 ∷ w1 ∷ w2 ∷ w3 ∷ []) ≡ inverse_mix_columns (inverse_sub_bytes (inverse_shift_rows s))
unfolding from_cells inverse_sub_bytes inverse_shift_rows inverse_mix_columns
inverse_mixed_rows s w0 w1 w2 w3 long h0 h1 h2 h3 =
    let P : List ℕ → Type 0 = λ x. bytes_of (w0 ∷ w1 ∷ w2 ∷ w3 ∷ []) ≡ inverse_mix_columns (inverse_sub_bytes (inverse_shift_rows x)) in
    subst P (by_places_16 s long) (same_state w0 w1 w2 w3 h0 h1 h2 h3)

pub last_rows : (s : List ℕ) (w0 w1 w2 w3 : ℕ) → length s ≡ 16
    → to_le_bytes w32 w0 ≡ sub_byte (slice_index s 0) ∷ sub_byte (slice_index s 5) ∷ sub_byte (slice_index s 10) ∷ sub_byte (slice_index s 15) ∷ []
    → to_le_bytes w32 w1 ≡ sub_byte (slice_index s 4) ∷ sub_byte (slice_index s 9) ∷ sub_byte (slice_index s 14) ∷ sub_byte (slice_index s 3) ∷ []
    → to_le_bytes w32 w2 ≡ sub_byte (slice_index s 8) ∷ sub_byte (slice_index s 13) ∷ sub_byte (slice_index s 2) ∷ sub_byte (slice_index s 7) ∷ []
    → to_le_bytes w32 w3 ≡ sub_byte (slice_index s 12) ∷ sub_byte (slice_index s 1) ∷ sub_byte (slice_index s 6) ∷ sub_byte (slice_index s 11) ∷ []
    → bytes_of (w0 ∷ w1 ∷ w2 ∷ w3 ∷ []) ≡ shift_rows (sub_bytes s)
unfolding from_cells sub_bytes shift_rows
last_rows s w0 w1 w2 w3 long h0 h1 h2 h3 =
    let P : List ℕ → Type 0 = λ x. bytes_of (w0 ∷ w1 ∷ w2 ∷ w3 ∷ []) ≡ shift_rows (sub_bytes x) in
    subst P (by_places_16 s long) (same_state w0 w1 w2 w3 h0 h1 h2 h3)

pub inverse_last_rows : (s : List ℕ) (w0 w1 w2 w3 : ℕ) → length s ≡ 16
    → to_le_bytes w32 w0 ≡ inverse_sub_byte (slice_index s 0) ∷ inverse_sub_byte (slice_index s 13) ∷ inverse_sub_byte (slice_index s 10) ∷ inverse_sub_byte (slice_index s 7) ∷ []
    → to_le_bytes w32 w1 ≡ inverse_sub_byte (slice_index s 4) ∷ inverse_sub_byte (slice_index s 1) ∷ inverse_sub_byte (slice_index s 14) ∷ inverse_sub_byte (slice_index s 11) ∷ []
    → to_le_bytes w32 w2 ≡ inverse_sub_byte (slice_index s 8) ∷ inverse_sub_byte (slice_index s 5) ∷ inverse_sub_byte (slice_index s 2) ∷ inverse_sub_byte (slice_index s 15) ∷ []
    → to_le_bytes w32 w3 ≡ inverse_sub_byte (slice_index s 12) ∷ inverse_sub_byte (slice_index s 9) ∷ inverse_sub_byte (slice_index s 6) ∷ inverse_sub_byte (slice_index s 3) ∷ []
    → bytes_of (w0 ∷ w1 ∷ w2 ∷ w3 ∷ []) ≡ inverse_sub_bytes (inverse_shift_rows s)
unfolding from_cells inverse_sub_bytes inverse_shift_rows
inverse_last_rows s w0 w1 w2 w3 long h0 h1 h2 h3 =
    let P : List ℕ → Type 0 = λ x. bytes_of (w0 ∷ w1 ∷ w2 ∷ w3 ∷ []) ≡ inverse_sub_bytes (inverse_shift_rows x) in
    subst P (by_places_16 s long) (same_state w0 w1 w2 w3 h0 h1 h2 h3)

-- a state whose columns are those of InvMixColumns
pub inverse_mixed_words : (v0 v1 v2 v3 w0 w1 w2 w3 : ℕ)
    → to_le_bytes w32 v0 ≡ inverse_mixed_word w0 → to_le_bytes w32 v1 ≡ inverse_mixed_word w1
    → to_le_bytes w32 v2 ≡ inverse_mixed_word w2 → to_le_bytes w32 v3 ≡ inverse_mixed_word w3
    → bytes_of (v0 ∷ v1 ∷ v2 ∷ v3 ∷ []) ≡ inverse_mix_columns (bytes_of (w0 ∷ w1 ∷ w2 ∷ w3 ∷ []))
unfolding inverse_mix_columns
inverse_mixed_words v0 v1 v2 v3 w0 w1 w2 w3 h0 h1 h2 h3 = same_state v0 v1 v2 v3 h0 h1 h2 h3
