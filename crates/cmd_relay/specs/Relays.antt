-- What a relay makes of a capture, line by line.
use Rattle.std.specs.Prelude.{◌≡◌, ◌<◌, ◌≤◌, ◌⊎◌, ⊤, ℕ, List, [], ◌∷◌, ◌++◌, length, codes}
use Rattle.statuses.specs.Lines.{IsTooLong, bad_line, input_bytes_max, refusal_line}
use Rattle.statuses.specs.declared.status.Status.{Status}
use Rattle.statuses.specs.declared.status.Status.TheVariants as status
use Rattle.transport.specs.declared.form.Form.{Form}
use Rattle.secret_relay.specs.Stories.{Story, GoesOn, Relayed, UpEnds, DownEnds, nothing, with_up, with_down}
use Rattle.secret_relay.specs.declared.fault.RelayFault.{RelayFault}
use Rattle.secret_relay.specs.declared.fault.RelayFault.TheVariants as faults
use Rattle.cmd_relay.specs.Captures.{HasBadLine, Spells, line_of}
use Rattle.cmd_relay.specs.declared.capture.Piece.{Piece}
use Rattle.cmd_relay.specs.declared.capture.Way.{Way}
use Rattle.cmd_relay.specs.declared.capture.Way.TheVariants.{Up, Down}

-- the connection once a piece has come, for which so much went out
abbrev pub then : Way → List ℕ → List ℕ → Story → Story
then Up bytes out story = with_up bytes out story
then Down bytes out story = with_down bytes out story

-- so much goes out for a piece: `Relayed` holds of all bytes so far, and the server hasn't spoken before the client's start
abbrev pub IsTaken : Form → List ℕ → Way → List ℕ → List ℕ → Story → Type 0
IsTaken form secret Up bytes out story = Relayed form secret (with_up bytes out story)
IsTaken form secret Down bytes out story = GoesOn form secret (with_down bytes out story)

-- so it is for each piece, in order, and what goes out for each
abbrev pub AreTaken : Form → List ℕ → List Piece → List (List ℕ) → Story → Type 0
AreTaken form secret [] [] story = ⊤
AreTaken form secret [] (out ∷ outs) story = ⊥
AreTaken form secret (piece ∷ pieces) [] story = ⊥
AreTaken form secret (piece ∷ pieces) (out ∷ outs) story =
    IsTaken form secret piece.way piece.bytes out story × AreTaken form secret pieces outs (then piece.way piece.bytes out story)

-- the connection then
abbrev pub after : List Piece → List (List ℕ) → Story → Story
after [] outs story = story
after (piece ∷ pieces) [] story = story
after (piece ∷ pieces) (out ∷ outs) story = after pieces outs (then piece.way piece.bytes out story)

-- a line for each piece, with what goes out for it
abbrev pub text_of : List Piece → List (List ℕ) → List ℕ
text_of [] outs = []
text_of (piece ∷ pieces) [] = []
text_of (piece ∷ pieces) (out ∷ outs) = line_of piece.way out ++ text_of pieces outs

-- ---- refusals

-- the cause of a fault
abbrev pub cause_of : RelayFault → List ℕ
cause_of faults.Early = codes "early"
cause_of (faults.Start found) = codes "start"
cause_of (faults.Frame fault) = codes "frame fault"
cause_of (faults.Length len) = codes "length"
cause_of faults.Memory = []

-- a piece is refused for this fault
abbrev pub IsRefusedFor : Form → List ℕ → Way → List ℕ → RelayFault → Story → Type 0
IsRefusedFor form secret Up bytes fault story = (out : List ℕ) × UpEnds form secret fault (with_up bytes out story)
IsRefusedFor form secret Down bytes fault story =
    ((fault ≡ faults.Early) × (length story.client < 64)) ⊎ ((out : List ℕ) × DownEnds form secret fault (with_down bytes out story))

-- the first piece that is refused
pub record IsRefusedAt (form : Form) (secret : List ℕ) (pieces : List Piece) (line : ℕ) (fault : RelayFault) : Type 0 where
  pub front : List Piece
  pub piece : Piece
  pub back : List Piece
  pub outs : List (List ℕ)
  pub parts : pieces ≡ front ++ piece ∷ back
  pub taken : AreTaken form secret front outs nothing
  pub refused : IsRefusedFor form secret piece.way piece.bytes fault (after front outs nothing)
  pub number : line ≡ piece.line

-- ---- the text that is due

-- the text spells pieces that are all taken, and these lines are due
pub record IsRelayed (form : Form) (secret text due : List ℕ) : Type 0 where
  pub short : length text ≤ input_bytes_max
  pub pieces : List Piece
  pub spelled : Spells text pieces
  pub outs : List (List ℕ)
  pub taken : AreTaken form secret pieces outs nothing
  pub told : due ≡ text_of pieces outs

-- the first line outside the grammar
pub record HasBadLineAt (text due : List ℕ) : Type 0 where
  pub short : length text ≤ input_bytes_max
  pub line : ℕ
  pub bad : HasBadLine text line
  pub told : due ≡ bad_line line

-- else the line of the first piece that is refused
pub record HasRefusedLine (form : Form) (secret text due : List ℕ) : Type 0 where
  pub short : length text ≤ input_bytes_max
  pub pieces : List Piece
  pub spelled : Spells text pieces
  pub line : ℕ
  pub fault : RelayFault
  pub refused : IsRefusedAt form secret pieces line fault
  pub told : due ≡ refusal_line line (cause_of fault)

abbrev pub IsRefused : Form → List ℕ → List ℕ → List ℕ → Type 0
IsRefused form secret text due = IsTooLong text due ⊎ HasBadLineAt text due ⊎ HasRefusedLine form secret text due

-- this status and this text are due to the input
abbrev pub Owes : Form → List ℕ → List ℕ → Status → List ℕ → Type 0
Owes form secret text one due =
    ((one ≡ status.Done) × IsRelayed form secret text due) ⊎ ((one ≡ status.InputRefused) × IsRefused form secret text due)

-- a status with which an answer comes
abbrev pub IsOfRelay : Status → Type 0
IsOfRelay one = (one ≡ status.Done) ⊎ (one ≡ status.InputRefused)
