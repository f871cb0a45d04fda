-- Places in ascending lists. Scaffolding for proofs: no public contract stands on it.
use Rattle.std.specs.Prelude.{ℕ, nat_lt, if◌then◌else◌, Bool, false, Option, Some, None, List, [], ◌∷◌, ◌+◌}
use Rattle.id_window.specs.declared.rows.Accepted.{Accepted}
use Rattle.id_window.specs.Crossing.{is_past, is_short}

-- how many numbers stand before the first one that is at least this one
abbrev pub place : ℕ → List ℕ → ℕ
place number [] = 0
place number (first ∷ others) = if nat_lt first number then place number others + 1 else 0

-- the last entry below a number, in an ascending list; the one before the list where there is none
abbrev pub last_below : ℕ → List Accepted → Option Accepted → Option Accepted
last_below number [] before = before
last_below number (one ∷ others) before = if nat_lt one.number number then last_below number others (Some one) else before

-- the first entry above a number
abbrev pub first_above : ℕ → List Accepted → Option Accepted
first_above number [] = None
first_above number (one ∷ others) = if nat_lt number one.number then Some one else first_above number others

-- there is such an entry, and its seq is past this one, or short of it
abbrev pub is_some_past : ℕ → Option Accepted → Bool
is_some_past seq None = false
is_some_past seq (Some one) = is_past seq one.seq

abbrev pub is_some_short : ℕ → Option Accepted → Bool
is_some_short seq None = false
is_some_short seq (Some one) = is_short seq one.seq
