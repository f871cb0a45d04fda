-- From what becomes of pieces to what is owed to a text.
use Rattle.std.proofs.Common.{◌≡◌, ◌≢◌, ℕ, ◌+◌, ◌<◌, ◌≤◌, List, length, get_or, take, drop, Result, Ok, Err, IfOk}
use Rattle.statuses.specs.Lines.{input_bytes_max, refusal_line}
use Rattle.statuses.specs.declared.answer.Answer.{Answer}
use Rattle.statuses.specs.declared.status.Status.TheVariants as status
use Rattle.transport.specs.declared.form.Form.{Form}
use Rattle.secret_relay.specs.Kept.{Kept}
use Rattle.secret_relay.specs.Standing.{Stands}
use Rattle.secret_relay.specs.Stories.{Story}
use Rattle.secret_relay.specs.declared.fault.RelayFault.{RelayFault}
use Rattle.secret_relay.specs.declared.fault.RelayFault.TheVariants as faults
use Rattle.cmd_relay.specs.Captures.{Spells}
use Rattle.cmd_relay.specs.Inner.{Passes}
use Rattle.cmd_relay.specs.Relays.{IsRefusedFor, cause_of}
use Rattle.cmd_relay.specs.declared.capture.Piece.{Piece}
use Rattle.cmd_relay.proofs.Pieces.{SoFar, one_refused, pieces_at}

-- ---- pieces

-- the piece at a place is refused, and those before it were taken
pub refused-passes : {E : Type 0} (form : Form) (secret : List ℕ) (pieces : List Piece) (i : ℕ) (piece : Piece) (relay : Kept) (text : List ℕ)
    (fault : RelayFault) (r : Result Answer E)
    → i < length pieces → piece ≡ get_or pieces i piece → SoFar form secret (take i pieces) relay text
    → (fault ≢ faults.Memory → (story : Story) → Stands relay story → IsRefusedFor relay.form relay.secret piece.way piece.bytes fault story)
    → IfOk r (λ a. a.status ≡ status.InputRefused) → IfOk r (λ a. a.text ≡ refusal_line piece.line (cause_of fault))
    → IfOk r (λ a. fault ≢ faults.Memory) → IfOk r (λ a. Passes form secret pieces a.status a.text)
refused-passes form secret pieces i piece relay text fault (Ok a) within is so_far refused one told known =
    one_refused form secret pieces (take i pieces) (drop (i + 1) pieces) piece relay text fault a.status a.text (pieces_at pieces i piece within is)
    so_far (refused known) one told
refused-passes form secret pieces i piece relay text fault (Err e) within is so_far refused one told known = tt
