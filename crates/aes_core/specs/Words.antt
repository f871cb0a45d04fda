-- How the code keeps bytes: in words of 32 bits, the lowest byte first. This is scaffolding of the
-- proofs, and no promise.
use Rattle.std.specs.Prelude.{ℕ, ◌≡◌, ◌≤◌, ◌<◌, List, [], ◌∷◌, ◌++◌, length}
use Rattle.std.specs.Int.{w32, to_le_bytes, byte_at}
use Rattle.aes_core.specs.Field.{product}
use Rattle.aes_core.specs.KeySchedule.{round_key}
use Rattle.aes_core.specs.Cipher.{column, inverse_mix_columns}

-- the bytes of words in turn
abbrev pub bytes_of : List ℕ → List ℕ
bytes_of [] = []
bytes_of (w ∷ ws) = to_le_bytes w32 w ++ bytes_of ws

-- the products of a byte with four coefficients
abbrev pub products : ℕ → ℕ → ℕ → ℕ → ℕ → List ℕ
products a0 a1 a2 a3 s = product a0 s ∷ product a1 s ∷ product a2 s ∷ product a3 s ∷ []

-- a word as a column of InvMixColumns
abbrev pub inverse_mixed_word : ℕ → List ℕ
inverse_mixed_word w = column 0x0e 0x0b 0x0d 0x09 (byte_at 0 w) (byte_at 1 w) (byte_at 2 w) (byte_at 3 w)

-- The schedule of the equivalent inverse cipher (FIPS 197, 5.3.5): the round keys of the rounds from 1
-- to 13 go through InvMixColumns. The schedule is a list of 60 words.
pub record IsInverseSchedule (inverse schedule : List ℕ) : Type 0 where
  pub schedule_words : length schedule ≡ 60
  pub first : round_key (bytes_of inverse) 0 ≡ round_key (bytes_of schedule) 0
  pub between : (r : ℕ) → 1 ≤ r → r < 14 → round_key (bytes_of inverse) r ≡ inverse_mix_columns (round_key (bytes_of schedule) r)
  pub last : round_key (bytes_of inverse) 14 ≡ round_key (bytes_of schedule) 14
