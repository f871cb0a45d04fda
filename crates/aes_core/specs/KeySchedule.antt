-- The key expansion for keys of 256 bits (FIPS 197, 5.2): the key has Nk = 8 words, there are Nr = 14
-- rounds, and the schedule has 60 words. A word is a list of 4 bytes, and the schedule the list of
-- the bytes of its words in turn.
use Rattle.std.specs.Prelude.{ℕ, ◌≡◌, zero, suc, ◌+◌, ◌-◌, ◌*◌, ◌/◌, ◌%◌, ◌==◌, List, [], ◌∷◌, ◌++◌, map, take, drop, if◌then◌else◌}
use Rattle.octets.specs.Bytes.{HasBytes, xor_bytes}
use Rattle.aes_core.specs.Field.{power}
use Rattle.aes_core.specs.SubstitutionBox.{sub_byte}

-- word i of a schedule
abbrev pub word : List ℕ → ℕ → List ℕ
word schedule i = take 4 (drop (4 * i) schedule)

-- RotWord: a word's first byte goes to its end
abbrev pub rot_word : List ℕ → List ℕ
rot_word w = drop 1 w ++ take 1 w

-- SubWord: the S-box on each byte
abbrev pub sub_word : List ℕ → List ℕ
sub_word w = map sub_byte w

-- Rcon[j]: the byte x^(j - 1), and three zeros
abbrev pub round_constant : ℕ → List ℕ
round_constant j = power 2 (j - 1) ∷ 0 ∷ 0 ∷ 0 ∷ []

-- what is added to word i - 8 to give word i, made from word i - 1, here w
abbrev pub change : ℕ → List ℕ → List ℕ
change i w =
    if i % 8 == 0 then xor_bytes (sub_word (rot_word w)) (round_constant (i / 8))
    else if i % 8 == 4 then sub_word w
    else w

-- word i, from the words before it
unfoldable pub next_word : List ℕ → ℕ → List ℕ
next_word schedule i = xor_bytes (word schedule (i - 8)) (change i (word schedule (i - 1)))

-- a schedule's first i words, and one more
abbrev pub with_next_word : ℕ → List ℕ → List ℕ
with_next_word i schedule = schedule ++ next_word schedule i

-- the first 8 + n words
unfoldable pub expanded : List ℕ → ℕ → List ℕ
expanded key zero = key
expanded key (suc n) = with_next_word (n + 8) (expanded key n)

-- the whole schedule
abbrev pub key_schedule : List ℕ → List ℕ
key_schedule key = expanded key 52

-- the round key of round r: the words from 4 r to 4 r + 3
abbrev pub round_key : List ℕ → ℕ → List ℕ
round_key schedule r = take 16 (drop (16 * r) schedule)

-- a list that is the schedule of its own first 32 bytes, which are a key
pub record IsExpansion (bytes : List ℕ) : Type 0 where
  pub key_bytes : HasBytes 32 (take 32 bytes)
  pub schedule : bytes ≡ key_schedule (take 32 bytes)
