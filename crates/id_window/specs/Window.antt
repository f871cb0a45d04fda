-- A window: what it has of a history and of the marks that were given.
use Rattle.std.specs.Prelude.{◌≡◌, ℕ, ◌<◌, ◌≤◌, ◌-◌, ◌^◌, nat_le, ◌==◌, if◌then◌else◌, Option, Some, None, List, [], ◌∷◌, length, map, filter_map}
use Rattle.std.specs.List.{AllZip}
use Rattle.id_window.specs.declared.mark.Mark.{Mark}
use Rattle.id_window.specs.declared.rows.Row.{Row}
use Rattle.id_window.specs.declared.rows.Accepted.{Accepted}
use Rattle.id_window.specs.Marks.{Marks, is_accepted, mark_of}
use Rattle.id_window.specs.History.{History, FirstJudgement, EachOnce, was_accepted, window_numbers, kept, floor, accepted_of}

-- what contracts see of a window: its numbers with their marks, those that were accepted with their seqs, the floor,
-- and for how many more notes room is reserved
pub record Contents : Type 0 where
  pub rows : List Row
  pub accepted : List Accepted
  pub floor : ℕ
  pub room : ℕ

-- the mark that a window has for a number
abbrev pub mark_in : ℕ → List Row → Option Mark
mark_in number [] = None
mark_in number (row ∷ rows) = if row.number == number then Some row.mark else mark_in number rows

-- the rows with another mark for a number
abbrev pub with_mark : ℕ → Mark → List Row → List Row
with_mark number mark [] = []
with_mark number mark (row ∷ rows) =
    if row.number == number then record { number = number; mark = mark } ∷ rows else row ∷ with_mark number mark rows

-- the greatest number of a window, its floor where it has none
abbrev pub greatest_in : ℕ → List Row → ℕ
greatest_in floor [] = floor
greatest_in floor (row ∷ rows) = greatest_in row.number rows

-- ---- what a window stands for

-- a row is that of a kept judgement: its number, the mark that it was given last, and the same acceptance
pub record IsRowOf (marks : Marks) (row : Row) (judgement : FirstJudgement) : Type 0 where
  pub number : row.number ≡ judgement.number
  pub mark : mark_of row.number marks ≡ Some row.mark
  pub accepted : is_accepted row.mark ≡ was_accepted judgement.outcome

-- what a window has is that of a history and of the marks given
pub record IsThatOf (window : Contents) (history : History) (marks : Marks) : Type 0 where
  -- its numbers are the kept ones in ascending order, with their marks
  pub rows : AllZip (IsRowOf marks) window.rows (kept history)
  -- the seqs of its accepted numbers are those of the history
  pub accepted : window.accepted ≡ accepted_of (kept history)
  -- its floor is the history's
  pub floor : window.floor ≡ floor history
  -- no number was judged twice
  pub once : EachOnce history

-- a window stands for a history and the marks given. Callers need not look into it: each call says what it stands for
-- afterwards, and the laws say what it tells.
unfoldable pub Stands : Contents → History → Marks → Type 0
Stands window history marks = IsThatOf window history marks

-- ---- what the code keeps true (for proofs alone)

-- each of these numbers is above this one
abbrev pub IsAbove : ℕ → List ℕ → Type 0
IsAbove floor [] = Unit {0}
IsAbove floor (number ∷ numbers) = (floor < number) × IsAbove floor numbers

-- each number is above those before it
abbrev pub Rises : List ℕ → Type 0
Rises [] = Unit {0}
Rises (number ∷ numbers) = IsAbove number numbers × Rises numbers

-- each of these seqs is at least this one
abbrev pub IsFrom : ℕ → List Accepted → Type 0
IsFrom seq [] = Unit {0}
IsFrom seq (one ∷ others) = (seq ≤ one.seq) × IsFrom seq others

-- the seqs never fall as the numbers rise
abbrev pub SeqsNeverFall : List Accepted → Type 0
SeqsNeverFall [] = Unit {0}
SeqsNeverFall (one ∷ others) = IsFrom one.seq others × SeqsNeverFall others

-- the number of a row whose message was accepted
abbrev pub accepted_number : Row → Option ℕ
accepted_number row = if is_accepted row.mark then Some row.number else None

-- the rows and the accepted numbers of a window are in order, fit each other and the window's size
pub record IsInOrder (floor : ℕ) (rows : List Row) (accepted : List Accepted) : Type 0 where
  pub rising : Rises (floor ∷ map (λ row. row.number) rows)
  pub same_accepted : map (λ one. one.number) accepted ≡ filter_map accepted_number rows
  pub seqs : SeqsNeverFall accepted
  pub size : length rows ≤ window_numbers

-- for how many more entries there is room: no end of them where all that a window can have find room
abbrev pub room_in : ℕ → ℕ → ℕ
room_in capacity count = if nat_le window_numbers capacity then 2 ^ 64 else capacity - count
