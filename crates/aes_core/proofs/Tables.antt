-- The code's tables: one computed test over the 256 entries of a table, and the rule at each of them.
use Rattle.std.proofs.Common.{◌≡◌, ℕ, ◌<◌, List, true, slice_index, refl, ap, ◌∙◌}
use Rattle.std.specs.Prelude.{◌==◌}
use Rattle.std.specs.Int.{w32, to_le_bytes, from_le_bytes}
use Rattle.std.proofs.lemmas.Bool.{eqb-true}
use Rattle.aes_core.specs.Field.{xtime, product_bits, power_bits, inverse}
use Rattle.aes_core.specs.SubstitutionBox.{affine, inverse_affine, sub_byte, inverse_sub_byte}
use Rattle.aes_core.specs.Words.{products}
use Rattle.aes_core.specs.declared.table.TheConstants.{SUBSTITUTION, INVERSE_SUBSTITUTION}
use Rattle.aes_core.proofs.TableTests.{passes_below, passes_at}
use Rattle.aes_core.proofs.SubstitutionLaws.{sub_byte-lt, inverse_sub_byte-lt}
use Rattle.aes_core.proofs.WordLaws.{word_of_products}

-- ---- the S-box and its inverse

substitution_test : passes_below (λ b. slice_index SUBSTITUTION b == sub_byte b) 256 ≡ true
unfolding xtime product_bits power_bits inverse affine sub_byte passes_below
substitution_test = refl

pub substitution_at : (b : ℕ) → b < 256 → slice_index SUBSTITUTION b ≡ sub_byte b
substitution_at b h = eqb-true _ _ (passes_at _ 256 substitution_test b h)

inverse_substitution_test : passes_below (λ b. slice_index INVERSE_SUBSTITUTION b == inverse_sub_byte b) 256 ≡ true
unfolding xtime product_bits power_bits inverse inverse_affine inverse_sub_byte passes_below
inverse_substitution_test = refl

pub inverse_substitution_at : (b : ℕ) → b < 256 → slice_index INVERSE_SUBSTITUTION b ≡ inverse_sub_byte b
inverse_substitution_at b h = eqb-true _ _ (passes_at _ 256 inverse_substitution_test b h)

-- ---- tables of words, tested against the tables of bytes

pub row_at : (row : List ℕ) (a0 a1 a2 a3 : ℕ)
    → passes_below (λ b. slice_index row b == from_le_bytes w32 (products a0 a1 a2 a3 (slice_index SUBSTITUTION b))) 256 ≡ true
    → (b : ℕ) → b < 256 → to_le_bytes w32 (slice_index row b) ≡ products a0 a1 a2 a3 (sub_byte b)
row_at row a0 a1 a2 a3 test b h =
    word_of_products (slice_index row b) a0 a1 a2 a3 (sub_byte b) (sub_byte-lt b h)
    (eqb-true _ _ (passes_at _ 256 test b h) ∙ ap (λ (s : ℕ). from_le_bytes w32 (products a0 a1 a2 a3 s)) (substitution_at b h))

pub inverse_row_at : (row : List ℕ) (a0 a1 a2 a3 : ℕ)
    → passes_below (λ b. slice_index row b == from_le_bytes w32 (products a0 a1 a2 a3 (slice_index INVERSE_SUBSTITUTION b))) 256 ≡ true
    → (b : ℕ) → b < 256 → to_le_bytes w32 (slice_index row b) ≡ products a0 a1 a2 a3 (inverse_sub_byte b)
inverse_row_at row a0 a1 a2 a3 test b h =
    word_of_products (slice_index row b) a0 a1 a2 a3 (inverse_sub_byte b) (inverse_sub_byte-lt b h)
    (eqb-true _ _ (passes_at _ 256 test b h) ∙ ap (λ (s : ℕ). from_le_bytes w32 (products a0 a1 a2 a3 s)) (inverse_substitution_at b h))
