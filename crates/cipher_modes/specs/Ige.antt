-- Infinite garble extension (core.telegram.org/mtproto/description, which enciphers with AES-256 in
-- this mode). The text is cut into blocks of 16 bytes, plain p_1, p_2 .. and enciphered c_1, c_2 ..:
--   c_i = aes(p_i xor c_(i-1)) xor p_(i-1)
-- where c_0 is the first and p_0 the last half of the initialisation vector of 32 bytes.
use Rattle.std.specs.Prelude.{ℕ, zero, suc, ◌≡◌, ◌≤◌, ◌+◌, ◌*◌, ◌/◌, List, [], ◌++◌, length, take, drop}
use Rattle.octets.specs.Bytes.{xor_bytes}
use Rattle.aes_core.specs.Cipher.{aes, inverse_aes}

-- block i of a text, counted from 0
abbrev pub block : List ℕ → ℕ → List ℕ
block text i = take 16 (drop (16 * i) text)

-- c_i, from c_(i-1), p_(i-1) and p_i
abbrev pub ige_block : List ℕ → List ℕ → List ℕ → List ℕ → List ℕ
ige_block key cipher_before plain_before plain =
    xor_bytes (aes key (xor_bytes plain cipher_before)) plain_before

-- p_i, from c_(i-1), p_(i-1) and c_i
abbrev pub inverse_ige_block : List ℕ → List ℕ → List ℕ → List ℕ → List ℕ
inverse_ige_block key cipher_before plain_before cipher =
    xor_bytes (inverse_aes key (xor_bytes cipher plain_before)) cipher_before

-- the first n blocks of a text enciphered, after one enciphered and one plain block
unfoldable pub ige_after : List ℕ → ℕ → List ℕ → List ℕ → List ℕ → List ℕ
ige_after key zero cipher_before plain_before text = []
ige_after key (suc n) cipher_before plain_before text =
    let cipher = ige_block key cipher_before plain_before (take 16 text) in
    cipher ++ ige_after key n cipher (take 16 text) (drop 16 text)

-- the same of deciphering
unfoldable pub inverse_ige_after : List ℕ → ℕ → List ℕ → List ℕ → List ℕ → List ℕ
inverse_ige_after key zero cipher_before plain_before text = []
inverse_ige_after key (suc n) cipher_before plain_before text =
    let plain = inverse_ige_block key cipher_before plain_before (take 16 text) in
    plain ++ inverse_ige_after key n (take 16 text) plain (drop 16 text)

-- a text of whole blocks enciphered, and deciphered
abbrev pub ige : List ℕ → List ℕ → List ℕ → List ℕ
ige key iv text = ige_after key (length text / 16) (take 16 iv) (drop 16 iv) text

abbrev pub inverse_ige : List ℕ → List ℕ → List ℕ → List ℕ
inverse_ige key iv text = inverse_ige_after key (length text / 16) (take 16 iv) (drop 16 iv) text

-- The equations: cipher is the plain text's, block by block. Block i of `take 16 iv ++ cipher` is
-- the enciphered block before block i, and so for the plain ones.
pub record MeetsIgeEquations (key iv plain cipher : List ℕ) : Type 0 where
  pub same_length : length cipher ≡ length plain
  pub each_block : (i : ℕ) → 16 * i + 16 ≤ length plain
      → block cipher i
      ≡ ige_block key (block (take 16 iv ++ cipher) i) (block (drop 16 iv ++ plain) i) (block plain i)
