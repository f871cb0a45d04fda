-- What the command promises.
use Rattle.std.specs.Prelude.{◌≡◌, ◌⊎◌, ℕ, List}
use Rattle.statuses.specs.Outside.{HadFault, IfTold, IsReadToTheEnd, IsUntouched, Outside, Writes, WritesFront}
use Rattle.statuses.specs.Statuses.{UnlessFault}
use Rattle.statuses.specs.declared.status.Status.{Status}
use Rattle.statuses.specs.declared.status.Status.TheVariants as status
use Rattle.transport.specs.declared.form.Form.{Form}
use Rattle.secret_relay.specs.Stories.{Relayed, nothing}
use Rattle.cmd_relay.specs.Relays.{IsOfRelay, IsRefused, IsRelayed, Owes, after}

pub record RelayRun {S O : Type 0} (form : Form) (secret : List ℕ) (input : Outside S) (out : Outside O) (one : Status) : Type 0 where
  -- it ends by one of these
  pub ends : IsOfRelay one ⊎ (one ≡ status.ReadFault) ⊎ (one ≡ status.WriteFault) ⊎ (one ≡ status.Memory)
  -- Done: the input was read to its end and spells a capture no line of which is refused, and a line for each is written. Of all
  -- bytes that came in and went out by these lines `Relayed` holds: nothing went out where the client's first 64 bytes aren't
  -- there, else upwards the start of the form and the frames of the client's packets, and downwards the frames of the server's.
  pub read : one ≡ status.Done → IsReadToTheEnd input
  pub relayed : one ≡ status.Done → IfTold input (λ text. (due : List ℕ) × (made : IsRelayed form secret text due) × Writes out due
      × Relayed form secret (after made.pieces made.outs nothing))
  -- nothing but a fault, or want of memory, keeps such a capture from that
  pub completeness : IfTold input (λ text. (due : List ℕ) → IsRelayed form secret text due → UnlessFault one status.Done)
  -- The input is refused exactly where it is too long, or has a line outside the grammar, or one that is refused, and what is
  -- written says why.
  pub refused : one ≡ status.InputRefused → IfTold input (λ text. (due : List ℕ) × IsRefused form secret text due × Writes out due)
  pub refusals : IfTold input (λ text. (due : List ℕ) → IsRefused form secret text due → UnlessFault one status.InputRefused)
  -- Faults of the outside come only where they were counted. Where a write failed, a front of what was due is written, and
  -- nothing where a read failed or memory ran out.
  pub read_fault : one ≡ status.ReadFault → HadFault input
  pub write_fault : one ≡ status.WriteFault → HadFault out
  pub front : one ≡ status.WriteFault → (due : List ℕ) × IfTold input (λ text. (said : Status) × Owes form secret text said due) × WritesFront out due
  pub nothing : (one ≡ status.ReadFault) ⊎ (one ≡ status.Memory) → IsUntouched out
