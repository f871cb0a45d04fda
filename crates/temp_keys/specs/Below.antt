-- What the crates below promise of digests and of enciphered texts, gathered for the proofs here. This is scaffolding,
-- and no promise.
use Rattle.std.specs.Prelude.{◌≡◌, ℕ, ◌≤◌, ◌+◌, ◌*◌, List, ◌++◌, length, take, drop}
use Rattle.octets.specs.Bytes.{HasBytes, IsBytes}
use Rattle.sha1.specs.Sha1.{sha1}
use Rattle.cipher_modes.specs.Ige.{ige, inverse_ige, MeetsIgeEquations}

pub record SealLaws : Type 0 where
  -- of lists of bytes
  pub append : (m n : ℕ) (xs ys : List ℕ) → HasBytes m xs → HasBytes n ys → HasBytes (m + n) (xs ++ ys)
  pub part : (i n : ℕ) (xs : List ℕ) → i + n ≤ length xs → IsBytes xs → HasBytes n (take n (drop i xs))
  pub last_part : (i n : ℕ) (xs : List ℕ) → length xs ≡ i + n → IsBytes xs → HasBytes n (drop i xs)
  -- of digests
  pub digest : (message : List ℕ) → HasBytes 20 (sha1 message)
  -- of enciphered texts
  pub equations : (key iv text : List ℕ) (n : ℕ) → HasBytes 32 key → HasBytes 32 iv → HasBytes (16 * n) text
      → MeetsIgeEquations key iv text (ige key iv text)
  pub undone : (key iv text : List ℕ) (n : ℕ) → HasBytes 32 key → HasBytes 32 iv → HasBytes (16 * n) text
      → inverse_ige key iv (ige key iv text) ≡ text
