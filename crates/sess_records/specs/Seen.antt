-- What contracts see of a journal and of an opening.
use Rattle.std.specs.Prelude.{ℕ, List}

-- a journal that records are added to
pub record File (K : Type 0) : Type 0 where
  -- its disk
  pub disk : K
  -- the seed, 32 bytes
  pub seed : List ℕ
  -- how many bytes the file has, up to the closed gate behind the last record
  pub len : ℕ

-- a journal that is read
pub record Reading (K : Type 0) : Type 0 where
  -- its disk
  pub disk : K
  -- the seed, 32 bytes
  pub seed : List ℕ
  -- the place behind the next gate
  pub at : ℕ
  -- the next gate
  pub gate : ℕ
  -- how many bytes the file has
  pub len : ℕ
