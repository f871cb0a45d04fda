-- Words of private contracts, which are no promise of this crate.
use Rattle.std.specs.Prelude.{◌≡◌, ◌⊎◌, ⊤, ℕ, List, [], Option, Some, None}
use Rattle.std.specs.Borrow.{Bor}
use Rattle.sched_text.specs.Lines.{words_of}
use Rattle.statuses.specs.Lines.{refusal_line}
use Rattle.statuses.specs.declared.status.Status.{Status}
use Rattle.statuses.specs.declared.status.Status.TheVariants as status
use Rattle.transport.specs.declared.form.Form.{Form}
use Rattle.secret_relay.specs.Kept.{Kept}
use Rattle.secret_relay.specs.Standing.{Stands}
use Rattle.secret_relay.specs.Stories.{Story, nothing}
use Rattle.secret_relay.specs.declared.fault.RelayFault.{RelayFault}
use Rattle.cmd_relay.specs.Captures.{HasBadLine}
use Rattle.cmd_relay.specs.Relays.{AreTaken, IsRefusedAt, IsTaken, cause_of, text_of, then}
use Rattle.cmd_relay.specs.declared.capture.CaptureFault.{CaptureFault}
use Rattle.cmd_relay.specs.declared.capture.CaptureFault.TheVariants as captures
use Rattle.cmd_relay.specs.declared.capture.Piece.{Piece}
use Rattle.cmd_relay.specs.declared.capture.Way.{Way}

-- the words of what stands behind the last blank, or none where there was no further one
abbrev pub words_in : Option (Bor (List ℕ)) → List (List ℕ)
words_in None = []
words_in (Some rest) = words_of rest.now

-- the fault of the text, want of memory aside
abbrev pub IsFaultOf : List ℕ → CaptureFault → Type 0
IsFaultOf text (captures.BadLine line) = HasBadLine text line
IsFaultOf text captures.Memory = ⊤

-- all pieces are taken, and these lines are due
pub record PassesAll (form : Form) (secret : List ℕ) (pieces : List Piece) (one : Status) (due : List ℕ) : Type 0 where
  pub done : one ≡ status.Done
  pub outs : List (List ℕ)
  pub taken : AreTaken form secret pieces outs nothing
  pub told : due ≡ text_of pieces outs

-- one is refused, and this says so
pub record Refuses (form : Form) (secret : List ℕ) (pieces : List Piece) (one : Status) (due : List ℕ) : Type 0 where
  pub refusal : one ≡ status.InputRefused
  pub line : ℕ
  pub fault : RelayFault
  pub refused : IsRefusedAt form secret pieces line fault
  pub told : due ≡ refusal_line line (cause_of fault)

-- the status and the text that are due to the pieces of a capture
abbrev pub Passes : Form → List ℕ → List Piece → Status → List ℕ → Type 0
Passes form secret pieces one due = PassesAll form secret pieces one due ⊎ Refuses form secret pieces one due

-- a piece is taken: so much goes out for it, and the relay stands for the connection with it
pub record TakesOne (old new : Kept) (way : Way) (bytes out : List ℕ) (story : Story) : Type 0 where
  pub taken : IsTaken old.form old.secret way bytes out story
  pub stands : Stands new (then way bytes out story)
