-- The cipher under the schedule of a key.
use Rattle.std.proofs.Common.{◌≡◌, ℕ, ◌<◌, ◌+◌, ◌-◌, List, true, refl, arith}
use Rattle.std.specs.Prelude.{◌==◌}
use Rattle.std.proofs.lemmas.Bool.{eqb-true}
use Rattle.octets.specs.Bytes.{HasBytes}
use Rattle.aes_core.specs.Field.{xtime, product_bits, product, power_bits, inverse}
use Rattle.aes_core.specs.KeySchedule.{key_schedule}
use Rattle.aes_core.specs.Cipher.{aes, inverse_aes}
use Rattle.aes_core.proofs.TableTests.{passes_below, passes_at}
use Rattle.aes_core.proofs.ScheduleLaws.{HasBytes-round_key}
use Rattle.aes_core.proofs.CipherLaws.{HasBytes-cipher, HasBytes-inverse_cipher, inverse_cipher-cipher, cipher-inverse_cipher}

pub inverse_aes-aes : (key block : List ℕ) → HasBytes 32 key → HasBytes 16 block → inverse_aes key (aes key block) ≡ block
inverse_aes-aes key block k h = inverse_cipher-cipher (key_schedule key) (HasBytes-round_key key k) block h

pub aes-inverse_aes : (key block : List ℕ) → HasBytes 32 key → HasBytes 16 block → aes key (inverse_aes key block) ≡ block
aes-inverse_aes key block k h = cipher-inverse_cipher (key_schedule key) (HasBytes-round_key key k) block h

pub HasBytes-aes : (key block : List ℕ) → HasBytes 32 key → HasBytes 16 block → HasBytes 16 (aes key block)
HasBytes-aes key block k h = HasBytes-cipher (key_schedule key) (HasBytes-round_key key k) block h

pub HasBytes-inverse_aes : (key block : List ℕ) → HasBytes 32 key → HasBytes 16 block → HasBytes 16 (inverse_aes key block)
HasBytes-inverse_aes key block k h = HasBytes-inverse_cipher (key_schedule key) (HasBytes-round_key key k) block h

inverse_test : passes_below (λ j. product (j + 1) (inverse (j + 1)) == 1) 255 ≡ true
unfolding xtime product_bits power_bits inverse passes_below
inverse_test = refl

pub product-inverse : (b : ℕ) → 0 < b → b < 256 → product b (inverse b) ≡ 1
product-inverse b some below =
    let place : b - 1 + 1 ≡ b = omega arith in
    let found = eqb-true _ _ (passes_at _ 255 inverse_test (b - 1) (omega arith)) in
    rw place at found

pub inverse_zero : inverse 0 ≡ 0
unfolding xtime product_bits power_bits inverse
inverse_zero = refl
