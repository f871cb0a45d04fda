-- What a client keeps sound, so that each of its calls can be sent.
use Rattle.std.specs.Prelude.{◌≡◌, ℕ, ◌≤◌, ◌%◌, IfSome, List, length}
use Rattle.std.specs.List.{AllByRecursion}
use Rattle.call_table.specs.declared.row.Row.{Row}
use Rattle.call_table.specs.Kept.{number_in}
use Rattle.client_rules.specs.Asking.{body_bytes_max}

-- the call of a row can be sent: its body is one that is taken, and the number under which it is outstanding was given
pub record IsSound (last : ℕ) (row : Row) : Type 0 where
  pub words : length row.body % 4 ≡ 0
  pub short : length row.body ≤ body_bytes_max
  pub given : IfSome (number_in row.progress) (λ number. number ≤ last)

-- all calls can be sent, where this is the last number that was given
abbrev pub AreSound : ℕ → List Row → Type 0
AreSound last rows = AllByRecursion (IsSound last) rows
