-- The numbers that a job waits for: words of private contracts, which are no promise of this crate.
use Rattle.std.specs.Prelude.{ℕ, max, Bool, nat_lt, List, fold}
use Rattle.std.specs.List.{list_all}

-- none of these numbers is above it
abbrev pub greatest_of : List ℕ → ℕ
greatest_of numbers = fold max 0 numbers

-- each of these numbers is above it
abbrev pub are_above : ℕ → List ℕ → Bool
are_above floor numbers = list_all (λ number. nat_lt floor number) numbers
