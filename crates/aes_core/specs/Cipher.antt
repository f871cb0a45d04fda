-- The cipher and its inverse (FIPS 197, 5.1 and 5.3), with 14 rounds. A state is a list of 16 bytes,
-- column after column: the byte of row r and column c stands at place r + 4 c (3.4).
use Rattle.std.specs.Prelude.{ℕ, zero, suc, ◌+◌, ◌-◌, ◌*◌, ◌%◌, List, [], ◌∷◌, ◌++◌, map, bit_xor, slice_index}
use Rattle.octets.specs.Bytes.{xor_bytes}
use Rattle.aes_core.specs.Field.{product}
use Rattle.aes_core.specs.SubstitutionBox.{sub_byte, inverse_sub_byte}
use Rattle.aes_core.specs.KeySchedule.{key_schedule, round_key}

-- the byte of row r and column c
abbrev pub cell : List ℕ → ℕ → ℕ → ℕ
cell state r c = slice_index state (r + 4 * c)

-- the state with these bytes by row and column
unfoldable pub from_cells : (ℕ → ℕ → ℕ) → List ℕ
from_cells f =
    f 0 0 ∷ f 1 0 ∷ f 2 0 ∷ f 3 0
    ∷ f 0 1 ∷ f 1 1 ∷ f 2 1 ∷ f 3 1
    ∷ f 0 2 ∷ f 1 2 ∷ f 2 2 ∷ f 3 2
    ∷ f 0 3 ∷ f 1 3 ∷ f 2 3 ∷ f 3 3 ∷ []

-- SubBytes (5.1.1) and InvSubBytes (5.3.2)
unfoldable pub sub_bytes : List ℕ → List ℕ
sub_bytes state = map sub_byte state

unfoldable pub inverse_sub_bytes : List ℕ → List ℕ
inverse_sub_bytes state = map inverse_sub_byte state

-- ShiftRows (5.1.2): row r moves r places to the left, round its end
unfoldable pub shift_rows : List ℕ → List ℕ
shift_rows state = from_cells (λ r c. cell state r ((c + r) % 4))

-- InvShiftRows (5.3.1): row r moves r places to the right
unfoldable pub inverse_shift_rows : List ℕ → List ℕ
inverse_shift_rows state = from_cells (λ r c. cell state r ((c + (4 - r)) % 4))

-- the sum of the products of four bytes with four coefficients
unfoldable pub combination : ℕ → ℕ → ℕ → ℕ → ℕ → ℕ → ℕ → ℕ → ℕ
combination a0 a1 a2 a3 s0 s1 s2 s3 =
    bit_xor (bit_xor (bit_xor (product a0 s0) (product a1 s1)) (product a2 s2)) (product a3 s3)

-- each byte of a column becomes the combination of the bytes from its own on, round the end
abbrev pub column : ℕ → ℕ → ℕ → ℕ → ℕ → ℕ → ℕ → ℕ → List ℕ
column a0 a1 a2 a3 s0 s1 s2 s3 =
    combination a0 a1 a2 a3 s0 s1 s2 s3 ∷ combination a0 a1 a2 a3 s1 s2 s3 s0
    ∷ combination a0 a1 a2 a3 s2 s3 s0 s1 ∷ combination a0 a1 a2 a3 s3 s0 s1 s2 ∷ []

-- column c of a state so mixed
abbrev pub mixed_column : ℕ → ℕ → ℕ → ℕ → List ℕ → ℕ → List ℕ
mixed_column a0 a1 a2 a3 state c =
    column a0 a1 a2 a3 (cell state 0 c) (cell state 1 c) (cell state 2 c) (cell state 3 c)

-- the state so mixed, column after column
abbrev pub mixed : ℕ → ℕ → ℕ → ℕ → List ℕ → List ℕ
mixed a0 a1 a2 a3 state =
    mixed_column a0 a1 a2 a3 state 0 ++ mixed_column a0 a1 a2 a3 state 1
    ++ mixed_column a0 a1 a2 a3 state 2 ++ mixed_column a0 a1 a2 a3 state 3

-- MixColumns (5.1.3) and InvMixColumns (5.3.3)
unfoldable pub mix_columns : List ℕ → List ℕ
mix_columns state = mixed 0x02 0x03 0x01 0x01 state

unfoldable pub inverse_mix_columns : List ℕ → List ℕ
inverse_mix_columns state = mixed 0x0e 0x0b 0x0d 0x09 state

-- AddRoundKey (5.1.4), by the round's place in the schedule
unfoldable pub add_round_key : List ℕ → ℕ → List ℕ → List ℕ
add_round_key schedule r state = xor_bytes state (round_key schedule r)

-- one of the rounds from 1 to 13
abbrev pub round : List ℕ → ℕ → List ℕ → List ℕ
round schedule r state = add_round_key schedule r (mix_columns (shift_rows (sub_bytes state)))

-- the rounds from 1 to n, in turn
unfoldable pub rounds : List ℕ → ℕ → List ℕ → List ℕ
rounds schedule zero state = state
rounds schedule (suc n) state = round schedule (n + 1) (rounds schedule n state)

-- CIPHER (5.1): the first round key, the rounds from 1 to 13, and the last, which mixes no columns
unfoldable pub cipher : List ℕ → List ℕ → List ℕ
cipher schedule block =
    add_round_key schedule 14 (shift_rows (sub_bytes
    (rounds schedule 13 (add_round_key schedule 0 block))))

-- one of the rounds of the inverse cipher
abbrev pub inverse_round : List ℕ → ℕ → List ℕ → List ℕ
inverse_round schedule r state =
    inverse_mix_columns (add_round_key schedule r (inverse_sub_bytes (inverse_shift_rows state)))

-- the rounds from n down to 1, in turn
unfoldable pub inverse_rounds : List ℕ → ℕ → List ℕ → List ℕ
inverse_rounds schedule zero state = state
inverse_rounds schedule (suc n) state =
    inverse_rounds schedule n (inverse_round schedule (n + 1) state)

-- INVCIPHER (5.3)
unfoldable pub inverse_cipher : List ℕ → List ℕ → List ℕ
inverse_cipher schedule block =
    add_round_key schedule 0 (inverse_sub_bytes (inverse_shift_rows
    (inverse_rounds schedule 13 (add_round_key schedule 14 block))))

-- the block that a key of 32 bytes makes of a block of 16, and back
abbrev pub aes : List ℕ → List ℕ → List ℕ
aes key block = cipher (key_schedule key) block

abbrev pub inverse_aes : List ℕ → List ℕ → List ℕ
inverse_aes key block = inverse_cipher (key_schedule key) block
