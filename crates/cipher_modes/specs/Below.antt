-- What the crates below promise of lists of bytes and of blocks, gathered for the proofs here. This is
-- scaffolding, and no promise.
use Rattle.std.specs.Prelude.{ℕ, ◌≡◌, ◌≤◌, ◌+◌, List, [], ◌++◌, length, take, drop}
use Rattle.octets.specs.Bytes.{IsBytes, HasBytes, xor_bytes}
use Rattle.aes_core.specs.Cipher.{aes, inverse_aes}

pub record BlockLaws : Type 0 where
  -- of lists of bytes
  pub nil : HasBytes 0 []
  pub append : (m n : ℕ) (xs ys : List ℕ) → HasBytes m xs → HasBytes n ys → HasBytes (m + n) (xs ++ ys)
  pub first_part : (n : ℕ) (xs : List ℕ) → n ≤ length xs → IsBytes xs → HasBytes n (take n xs)
  pub last_part : (i n : ℕ) (xs : List ℕ) → length xs ≡ i + n → IsBytes xs → HasBytes n (drop i xs)
  pub xor : (n : ℕ) (xs ys : List ℕ) → HasBytes n xs → HasBytes n ys → HasBytes n (xor_bytes xs ys)
  pub xor_undone : (xs ys : List ℕ) → length xs ≤ length ys → xor_bytes (xor_bytes xs ys) ys ≡ xs
  -- of blocks
  pub enciphered : (key block : List ℕ) → HasBytes 32 key → HasBytes 16 block → HasBytes 16 (aes key block)
  pub deciphered : (key block : List ℕ) → HasBytes 32 key → HasBytes 16 block → HasBytes 16 (inverse_aes key block)
  pub enciphered_undone : (key block : List ℕ) → HasBytes 32 key → HasBytes 16 block → inverse_aes key (aes key block) ≡ block
  pub deciphered_undone : (key block : List ℕ) → HasBytes 32 key → HasBytes 16 block → aes key (inverse_aes key block) ≡ block
