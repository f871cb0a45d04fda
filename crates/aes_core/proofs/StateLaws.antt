-- The steps of a round on states, and that the inverse steps undo them.
use Rattle.std.proofs.Common.{◌≡◌, ℕ, ◌<◌, List, slice_index, ◌∙◌, arith}
use Rattle.std.proofs.lemmas.Nat.{xor_lt}
use Rattle.octets.specs.Bytes.{HasBytes}
use Rattle.aes_core.specs.SubstitutionBox.{sub_byte, inverse_sub_byte}
use Rattle.aes_core.specs.KeySchedule.{round_key}
use Rattle.aes_core.specs.Cipher.{from_cells, sub_bytes, inverse_sub_bytes, shift_rows, inverse_shift_rows, combination, mixed, mix_columns, inverse_mix_columns, add_round_key}
use Rattle.aes_core.proofs.SubstitutionLaws.{sub_byte-lt, inverse_sub_byte-lt, inverse_sub_byte-sub_byte, sub_byte-inverse_sub_byte}
use Rattle.aes_core.proofs.FieldLaws.{product_bits-lt}
use Rattle.aes_core.proofs.MixingLaws.{inverse_column-column, column-inverse_column}
use Rattle.aes_core.proofs.WordLaws.{four_parts}
use Rattle.aes_core.proofs.ByteLists.{HasBytes-nil, HasBytes-cons, HasBytes-map, map_undone, HasBytes-xor_bytes, xor_bytes_twice, by_places_16}

-- ---- SubBytes

pub HasBytes-sub_bytes : (s : List ℕ) → HasBytes 16 s → HasBytes 16 (sub_bytes s)
unfolding sub_bytes
HasBytes-sub_bytes s h = HasBytes-map 16 sub_byte sub_byte-lt s h

pub HasBytes-inverse_sub_bytes : (s : List ℕ) → HasBytes 16 s → HasBytes 16 (inverse_sub_bytes s)
unfolding inverse_sub_bytes
HasBytes-inverse_sub_bytes s h = HasBytes-map 16 inverse_sub_byte inverse_sub_byte-lt s h

pub inverse_sub_bytes-sub_bytes : (s : List ℕ) → HasBytes 16 s → inverse_sub_bytes (sub_bytes s) ≡ s
unfolding sub_bytes inverse_sub_bytes
inverse_sub_bytes-sub_bytes s h = map_undone sub_byte inverse_sub_byte inverse_sub_byte-sub_byte s h.in_range

pub sub_bytes-inverse_sub_bytes : (s : List ℕ) → HasBytes 16 s → sub_bytes (inverse_sub_bytes s) ≡ s
unfolding sub_bytes inverse_sub_bytes
sub_bytes-inverse_sub_bytes s h = map_undone inverse_sub_byte sub_byte sub_byte-inverse_sub_byte s h.in_range

-- ---- ShiftRows

HasBytes-from_cells : (f : ℕ → ℕ → ℕ) → ((r c : ℕ) → f r c < 256) → HasBytes 16 (from_cells f)
unfolding from_cells
HasBytes-from_cells f h =
    HasBytes-cons (h 0 0) (HasBytes-cons (h 1 0) (HasBytes-cons (h 2 0) (HasBytes-cons (h 3 0)
    (HasBytes-cons (h 0 1) (HasBytes-cons (h 1 1) (HasBytes-cons (h 2 1) (HasBytes-cons (h 3 1)
    (HasBytes-cons (h 0 2) (HasBytes-cons (h 1 2) (HasBytes-cons (h 2 2) (HasBytes-cons (h 3 2)
    (HasBytes-cons (h 0 3) (HasBytes-cons (h 1 3) (HasBytes-cons (h 2 3) (HasBytes-cons (h 3 3) HasBytes-nil)))))))))))))))

pub HasBytes-shift_rows : (s : List ℕ) → HasBytes 16 s → HasBytes 16 (shift_rows s)
unfolding shift_rows
HasBytes-shift_rows s h = HasBytes-from_cells _ (λ r c. h.in_range _)

pub HasBytes-inverse_shift_rows : (s : List ℕ) → HasBytes 16 s → HasBytes 16 (inverse_shift_rows s)
unfolding inverse_shift_rows
HasBytes-inverse_shift_rows s h = HasBytes-from_cells _ (λ r c. h.in_range _)

pub inverse_shift_rows-shift_rows : (s : List ℕ) → HasBytes 16 s → inverse_shift_rows (shift_rows s) ≡ s
unfolding from_cells shift_rows inverse_shift_rows
inverse_shift_rows-shift_rows s h = by_places_16 s h.count

pub shift_rows-inverse_shift_rows : (s : List ℕ) → HasBytes 16 s → shift_rows (inverse_shift_rows s) ≡ s
unfolding from_cells shift_rows inverse_shift_rows
shift_rows-inverse_shift_rows s h = by_places_16 s h.count

-- ---- MixColumns

combination-lt : (a0 a1 a2 a3 s0 s1 s2 s3 : ℕ) → s0 < 256 → s1 < 256 → s2 < 256 → s3 < 256
    → combination a0 a1 a2 a3 s0 s1 s2 s3 < 256
unfolding combination
combination-lt a0 a1 a2 a3 s0 s1 s2 s3 h0 h1 h2 h3 =
    xor_lt 8 _ _ (xor_lt 8 _ _ (xor_lt 8 _ _ (product_bits-lt 8 a0 s0 h0) (product_bits-lt 8 a1 s1 h1))
    (product_bits-lt 8 a2 s2 h2)) (product_bits-lt 8 a3 s3 h3)

HasBytes-mixed : (a0 a1 a2 a3 : ℕ) (s : List ℕ) → HasBytes 16 s → HasBytes 16 (mixed a0 a1 a2 a3 s)
HasBytes-mixed a0 a1 a2 a3 s h =
    let p : (i j k l : ℕ) → combination a0 a1 a2 a3 (slice_index s i) (slice_index s j) (slice_index s k) (slice_index s l) < 256 =
    λ i j k l. combination-lt a0 a1 a2 a3 _ _ _ _ (h.in_range i) (h.in_range j) (h.in_range k) (h.in_range l) in
    HasBytes-cons (p 0 1 2 3) (HasBytes-cons (p 1 2 3 0) (HasBytes-cons (p 2 3 0 1) (HasBytes-cons (p 3 0 1 2)
    (HasBytes-cons (p 4 5 6 7) (HasBytes-cons (p 5 6 7 4) (HasBytes-cons (p 6 7 4 5) (HasBytes-cons (p 7 4 5 6)
    (HasBytes-cons (p 8 9 10 11) (HasBytes-cons (p 9 10 11 8) (HasBytes-cons (p 10 11 8 9) (HasBytes-cons (p 11 8 9 10)
    (HasBytes-cons (p 12 13 14 15) (HasBytes-cons (p 13 14 15 12) (HasBytes-cons (p 14 15 12 13) (HasBytes-cons (p 15 12 13 14) HasBytes-nil)))))))))))))))

pub HasBytes-mix_columns : (s : List ℕ) → HasBytes 16 s → HasBytes 16 (mix_columns s)
unfolding mix_columns
HasBytes-mix_columns s h = HasBytes-mixed 2 3 1 1 s h

pub HasBytes-inverse_mix_columns : (s : List ℕ) → HasBytes 16 s → HasBytes 16 (inverse_mix_columns s)
unfolding inverse_mix_columns
HasBytes-inverse_mix_columns s h = HasBytes-mixed 14 11 13 9 s h

pub inverse_mix_columns-mix_columns : (s : List ℕ) → HasBytes 16 s → inverse_mix_columns (mix_columns s) ≡ s
unfolding mix_columns inverse_mix_columns
inverse_mix_columns-mix_columns s h =
    let column_back = λ (i : ℕ) (j : ℕ) (k : ℕ) (l : ℕ). inverse_column-column (slice_index s i) (slice_index s j) (slice_index s k) (slice_index s l)
    (h.in_range i) (h.in_range j) (h.in_range k) (h.in_range l) in
    four_parts (column_back 0 1 2 3) (column_back 4 5 6 7) (column_back 8 9 10 11) (column_back 12 13 14 15)
    ∙ by_places_16 s h.count

pub mix_columns-inverse_mix_columns : (s : List ℕ) → HasBytes 16 s → mix_columns (inverse_mix_columns s) ≡ s
unfolding mix_columns inverse_mix_columns
mix_columns-inverse_mix_columns s h =
    let column_back = λ (i : ℕ) (j : ℕ) (k : ℕ) (l : ℕ). column-inverse_column (slice_index s i) (slice_index s j) (slice_index s k) (slice_index s l)
    (h.in_range i) (h.in_range j) (h.in_range k) (h.in_range l) in
    four_parts (column_back 0 1 2 3) (column_back 4 5 6 7) (column_back 8 9 10 11) (column_back 12 13 14 15)
    ∙ by_places_16 s h.count

-- ---- AddRoundKey

pub HasBytes-add_round_key : (w : List ℕ) (r : ℕ) (s : List ℕ) → HasBytes 16 (round_key w r) → HasBytes 16 s → HasBytes 16 (add_round_key w r s)
unfolding add_round_key
HasBytes-add_round_key w r s k h = HasBytes-xor_bytes 16 s (round_key w r) h k

pub add_round_key_twice : (w : List ℕ) (r : ℕ) (s : List ℕ) → HasBytes 16 (round_key w r) → HasBytes 16 s → add_round_key w r (add_round_key w r s) ≡ s
unfolding add_round_key
add_round_key_twice w r s k h = xor_bytes_twice s (round_key w r) (omega (arith, h.count, k.count))
