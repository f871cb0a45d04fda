-- Which packets were given, as they are kept.
use Rattle.std.specs.Prelude.{◌≡◌, ◌==◌, ◌<◌, ◌≤◌, ℕ, Bool, true, false, List, get_or}
use Rattle.std.specs.List.{list_any}

-- The flags, counted from 0, say which numbers are among those that were given; behind the last flag none is.
abbrev pub Notes : List Bool → List ℕ → Type 0
Notes flags given = (number : ℕ) → list_any (λ other. other == number) given ≡ get_or flags number false

-- Scaffolding, and no promise: all packets below this one were given, counted from 1.
pub record AreGivenBelow (flags : List Bool) (first : ℕ) : Type 0 where
  pub least : 1 ≤ first
  pub below : (number : ℕ) → 1 ≤ number → number < first → get_or flags number false ≡ true
