-- The S-box and its inverse undo each other, by their definitions.
use Rattle.std.proofs.Common.{◌≡◌, ℕ, ◌<◌, true, refl, ap, ◌∙◌, arith}
use Rattle.std.specs.Prelude.{◌==◌}
use Rattle.std.proofs.lemmas.Bool.{eqb-true}
use Rattle.aes_core.specs.Field.{xtime, product_bits, power_bits, inverse}
use Rattle.aes_core.specs.SubstitutionBox.{affine, inverse_affine, sub_byte, inverse_sub_byte}
use Rattle.aes_core.proofs.TableTests.{passes_below, passes_at}
use Rattle.aes_core.proofs.FieldLaws.{power_bits-lt}

inverse-lt : (b : ℕ) → inverse b < 256
unfolding inverse
inverse-lt b = power_bits-lt 8 b 254

affine-lt : (b : ℕ) → affine b < 256
unfolding affine
affine-lt b = omega arith

inverse_affine-lt : (b : ℕ) → inverse_affine b < 256
unfolding inverse_affine
inverse_affine-lt b = omega arith

inverse_test : passes_below (λ b. inverse (inverse b) == b) 256 ≡ true
unfolding xtime product_bits power_bits inverse passes_below
inverse_test = refl

inverse-inverse : (b : ℕ) → b < 256 → inverse (inverse b) ≡ b
inverse-inverse b h = eqb-true _ _ (passes_at _ 256 inverse_test b h)

affine_test : passes_below (λ b. inverse_affine (affine b) == b) 256 ≡ true
unfolding affine inverse_affine passes_below
affine_test = refl

inverse_affine_test : passes_below (λ b. affine (inverse_affine b) == b) 256 ≡ true
unfolding affine inverse_affine passes_below
inverse_affine_test = refl

pub sub_byte-lt : (b : ℕ) → b < 256 → sub_byte b < 256
unfolding sub_byte
sub_byte-lt b h = affine-lt (inverse b)

pub inverse_sub_byte-lt : (b : ℕ) → b < 256 → inverse_sub_byte b < 256
unfolding inverse_sub_byte
inverse_sub_byte-lt b h = inverse-lt (inverse_affine b)

pub inverse_sub_byte-sub_byte : (b : ℕ) → b < 256 → inverse_sub_byte (sub_byte b) ≡ b
unfolding sub_byte inverse_sub_byte
inverse_sub_byte-sub_byte b h =
    ap inverse (eqb-true _ _ (passes_at _ 256 affine_test (inverse b) (inverse-lt b)))
    ∙ inverse-inverse b h

pub sub_byte-inverse_sub_byte : (b : ℕ) → b < 256 → sub_byte (inverse_sub_byte b) ≡ b
unfolding sub_byte inverse_sub_byte
sub_byte-inverse_sub_byte b h =
    ap affine (inverse-inverse (inverse_affine b) (inverse_affine-lt b))
    ∙ eqb-true _ _ (passes_at _ 256 inverse_affine_test b h)
