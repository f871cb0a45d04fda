-- The schedule of the equivalent inverse cipher, word by word, and that a round with it is a round of
-- the inverse cipher.
use Rattle.std.proofs.Common.{◌≡◌, ℕ, ◌<◌, ◌≤◌, ◌+◌, ◌*◌, List, [], ◌∷◌, drop, set, length, slice_index, refl, sym, ap, ◌∙◌, inl, inr, arith}
use Rattle.std.specs.Int.{w32, to_le_bytes}
use Rattle.std.proofs.lemmas.List.{length-drop, length-take-le, get_or-set_same, get_or-set_other, length-set}
use Rattle.std.proofs.lemmas.Bool.{cases_lt}
use Rattle.octets.specs.Bytes.{xor_bytes}
use Rattle.aes_core.specs.KeySchedule.{round_key}
use Rattle.aes_core.specs.Cipher.{from_cells, inverse_sub_bytes, inverse_shift_rows, inverse_mix_columns, add_round_key, inverse_round}
use Rattle.aes_core.specs.Words.{bytes_of, inverse_mixed_word, IsInverseSchedule}
use Rattle.aes_core.proofs.WordLaws.{length-bytes_of, round_key_words}
use Rattle.aes_core.proofs.ColumnLaws.{inverse_mix-xor, inverse_mixed_words}

-- the words below i are those of the inverse schedule, and the others those of the schedule
pub record MixedBelow (inverse schedule : List ℕ) (i : ℕ) : Type 0 where
  pub length_is : length inverse ≡ 60
  pub first : (k : ℕ) → k < 4 → slice_index inverse k ≡ slice_index schedule k
  pub mixed : (k : ℕ) → 4 ≤ k → k < i → to_le_bytes w32 (slice_index inverse k) ≡ inverse_mixed_word (slice_index schedule k)
  pub others : (k : ℕ) → i ≤ k → slice_index inverse k ≡ slice_index schedule k

pub mixed_more : (d s : List ℕ) (i v : ℕ) → 4 ≤ i → i < 60 → MixedBelow d s i
    → to_le_bytes w32 v ≡ inverse_mixed_word (slice_index s i) → MixedBelow (set d i v) s (i + 1)
mixed_more d s i v after within m is = record {
  length_is = length-set d i v ∙ m.length_is;
  first = λ k h. get_or-set_other d i k v 0 (omega arith) ∙ m.first k h;
  mixed = λ k h lt. elim (cases_lt k i) [
    | inl below ↦ ap (to_le_bytes w32) (get_or-set_other d i k v 0 (omega arith)) ∙ m.mixed k h below
    | inr above ↦
        let last : k ≡ i = omega arith in
        rw last (ap (to_le_bytes w32) (get_or-set_same d i v 0 (omega (arith, m.length_is))) ∙ is)
  ];
  others = λ k h. get_or-set_other d i k v 0 (omega arith) ∙ m.others k (omega arith);
}

same_words : {a b c d e f g h : ℕ} → a ≡ e → b ≡ f → c ≡ g → d ≡ h → bytes_of (a ∷ b ∷ c ∷ d ∷ []) ≡ bytes_of (e ∷ f ∷ g ∷ h ∷ [])
same_words p q r s = cc

pub IsInverseSchedule-mixed : (d s : List ℕ) (i : ℕ) → i ≡ 56 → length s ≡ 60 → MixedBelow d s i → IsInverseSchedule d s
IsInverseSchedule-mixed d s i done long m =
    let dl = m.length_is in
    record {
      schedule_words = long;
      first = round_key_words d 0 (omega arith)
          ∙ same_words (m.first 0 (omega arith)) (m.first 1 (omega arith)) (m.first 2 (omega arith)) (m.first 3 (omega arith))
          ∙ sym (round_key_words s 0 (omega arith));
      between = λ r some below.
          round_key_words d r (omega arith)
          ∙ inverse_mixed_words _ _ _ _ _ _ _ _ (m.mixed (4 * r) (omega arith) (omega arith)) (m.mixed (4 * r + 1) (omega arith) (omega arith))
          (m.mixed (4 * r + 2) (omega arith) (omega arith)) (m.mixed (4 * r + 3) (omega arith) (omega arith))
          ∙ ap inverse_mix_columns (sym (round_key_words s r (omega arith)));
      last = round_key_words d 14 (omega arith)
          ∙ same_words (m.others 56 (omega arith)) (m.others 57 (omega arith)) (m.others 58 (omega arith)) (m.others 59 (omega arith))
          ∙ sym (round_key_words s 14 (omega arith));
    }

-- ---- a round of the equivalent inverse cipher

length-inverse_rows : (s : List ℕ) → length (inverse_sub_bytes (inverse_shift_rows s)) ≡ 16
unfolding from_cells inverse_sub_bytes inverse_shift_rows
length-inverse_rows s = refl

length-round_key : (s : List ℕ) (r : ℕ) → length s ≡ 60 → r ≤ 14 → length (round_key (bytes_of s) r) ≡ 16
length-round_key s r long le =
    let total : length (bytes_of s) ≡ 240 = omega (arith, length-bytes_of s) in
    length-take-le 16 (drop (16 * r) (bytes_of s)) (omega (arith, length-drop (16 * r) (bytes_of s)))

pub equivalent_round : (d s x : List ℕ) (r : ℕ) → IsInverseSchedule d s → 1 ≤ r → r < 14
    → xor_bytes (inverse_mix_columns (inverse_sub_bytes (inverse_shift_rows x))) (round_key (bytes_of d) r)
    ≡ inverse_round (bytes_of s) r x
unfolding add_round_key
equivalent_round d s x r is some below =
    ap (xor_bytes (inverse_mix_columns (inverse_sub_bytes (inverse_shift_rows x)))) (is.between r some below)
    ∙ sym (inverse_mix-xor (inverse_sub_bytes (inverse_shift_rows x)) (round_key (bytes_of s) r) (length-inverse_rows x) (length-round_key s r is.schedule_words (omega arith)))
