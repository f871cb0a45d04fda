-- What clocks give.
use Rattle.std.specs.Prelude.{◌≡◌, ℕ, zero, suc, ◌<◌, ◌+◌, ◌-◌, min, List, [], ◌∷◌, ◌++◌, length, slice_index, Option, IfSome, IsSome, IsSomeAnd}

-- a clock that tells goes on telling while it gave fewer moments than 2^64 - 1
abbrev pub told_max : ℕ
told_max = 18446744073709551615

-- It gave these moments: where it tells, they stand behind what it told before; and where it told, it tells, while they are few.
pub record Gave (moments : List ℕ) (before after : Option (List ℕ)) : Type 0 where
  pub told : IfSome after (λ last. IsSomeAnd before (λ first. last ≡ first ++ moments))
  pub goes_on : IfSome before (λ first. length first + length moments < told_max → IsSome after)

-- ---- a clock with a list of moments

-- the first n moments that it gives: those of the list, and then its last over and over
abbrev pub first_given : List ℕ → ℕ → List ℕ
first_given moments zero = []
first_given moments (suc n) = first_given moments n ++ slice_index moments (min n (length moments - 1)) ∷ []
