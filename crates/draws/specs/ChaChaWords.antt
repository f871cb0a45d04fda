-- The words of a `ChaChaDraw`: the key stream of ChaCha with 20 rounds (RFC 8439, 2.3 and 2.4, with a block counter of 64 bits
-- and a nonce of zeros), 64 bits at a time.
use Rattle.std.specs.Prelude.{ℕ, ◌+◌, ◌*◌, ◌^◌, List}
use Rattle.rand_chacha.specs.ChaCha.{word_at}

-- what a contract sees of a `ChaChaDraw`: its key, and how many words it gave
pub record ChaChaPlace : Type 0 where
  pub key : List ℕ
  pub place : ℕ

-- 32 bits of the stream, from place 0
abbrev pub half_word : List ℕ → ℕ → ℕ
half_word key i = word_at 10 key 0 i

-- the word at a place, from 0: the next 64 bits of the stream, the first 32 of them low
abbrev pub chacha_word : List ℕ → ℕ → ℕ
chacha_word key place = half_word key (2 * place) + half_word key (2 * place + 1) * 2 ^ 32
