-- The history of a server session: each number that was judged, once (core.telegram.org/mtproto/service_messages_about_messages
-- and core.telegram.org/mtproto/description, "Message Identifier"; how many numbers are kept is this project's choice).
use Rattle.std.specs.Prelude.{◌≢◌, ℕ, ◌-◌, max, Bool, true, false, nat_lt, ◌==◌, if◌then◌else◌, Option, Some, None, option_map, List, [], ◌∷◌, ◌++◌, fold, length, take, drop, filter_map}
use Rattle.std.specs.List.{list_any, AllPairs}
use Rattle.id_window.specs.declared.mark.Mark.{Mark}
use Rattle.id_window.specs.declared.cross.Cross.{Cross}
use Rattle.id_window.specs.declared.rows.Accepted.{Accepted}
use Rattle.id_window.specs.Marks.{Marks, mark_of}
use Rattle.id_window.specs.Crossing.{crossing}

-- ---- what is recorded

-- what became of a message: it was refused with a notice of this code, or accepted as a container, as a call, or as
-- neither
pub data Outcome : Type 0 where
  Refused : ℕ → Outcome
  AcceptedContainer : Outcome
  AcceptedCall : Outcome
  AcceptedOther : Outcome

abbrev pub was_accepted : Outcome → Bool
was_accepted (Refused code) = false
was_accepted _ = true

-- the first judgement of a number: its sequence number, and what became of the message
pub record FirstJudgement : Type 0 where
  pub number : ℕ
  pub seq : ℕ
  pub outcome : Outcome

-- the first judgements, in order of judging
abbrev pub History : Type 0
History = List FirstJudgement

-- a further number is judged
abbrev pub noted : ℕ → ℕ → Outcome → History → History
noted number seq outcome history = history ++ record { number = number; seq = seq; outcome = outcome } ∷ []

-- no number is judged twice
abbrev pub EachOnce : History → Type 0
EachOnce history = AllPairs (λ earlier later. earlier.number ≢ later.number) history

-- ---- what is kept of it

-- put before the first one whose key isn't below its own
abbrev pub inserted : {X : Type 0} → (X → ℕ) → X → List X → List X
inserted key x [] = x ∷ []
inserted key x (y ∷ ys) = if nat_lt (key y) (key x) then y ∷ inserted key x ys else x ∷ (y ∷ ys)

-- in ascending order of the numbers
abbrev pub ascending : History → History
ascending history = fold (λ sorted judgement. inserted (λ judged. judged.number) judgement sorted) [] history

-- how many numbers are kept at most
abbrev pub window_numbers : ℕ
window_numbers = 16384

-- the kept numbers are the greatest: the last ones in ascending order
unfoldable pub kept : History → History
kept history = drop (length history - window_numbers) (ascending history)

-- the others
unfoldable pub forgotten : History → History
forgotten history = take (length history - window_numbers) (ascending history)

abbrev pub is_kept : ℕ → History → Bool
is_kept number history = list_any (λ judgement. judgement.number == number) (kept history)

-- the greatest of these numbers, 0 where there is none
abbrev pub greatest_among : History → ℕ
greatest_among [] = 0
greatest_among (judgement ∷ judgements) = max judgement.number (greatest_among judgements)

-- the greatest number that was recorded, or 0
abbrev pub greatest : History → ℕ
greatest history = greatest_among history

-- the greatest recorded number that isn't kept, or 0
abbrev pub floor : History → ℕ
floor history = greatest_among (forgotten history)

-- the mark of a number that is kept: the one that it was given last
abbrev pub found : ℕ → History → Marks → Option Mark
found number history marks = if is_kept number history then mark_of number marks else None

-- the number that the last judgement made forgotten, with its mark: the new floor, where more numbers are recorded
-- than are kept
abbrev pub newly_forgotten : History → Marks → Option (ℕ × Mark)
newly_forgotten history marks =
    if nat_lt window_numbers (length history) then option_map (λ mark. (floor history, mark)) (mark_of (floor history) marks) else None

-- ---- crossing

-- an accepted judgement as its number and sequence number
abbrev pub accepted_part : FirstJudgement → Option Accepted
accepted_part judgement = if was_accepted judgement.outcome then Some (record { number = judgement.number; seq = judgement.seq }) else None

abbrev pub accepted_of : History → List Accepted
accepted_of judgements = filter_map accepted_part judgements

-- how a message would cross the kept accepted ones
abbrev pub crosses : ℕ → ℕ → History → Cross
crosses number seq history = crossing number seq (accepted_of (kept history))
