-- A client in its seat: scaffolding of private functions, and no promise.
use Rattle.std.specs.Prelude.{ℕ, max, if◌then◌else◌, Option, Some, None, List, [], Result, Ok, Err}
use Rattle.envelope.specs.declared.parts.Dir.{Dir}
use Rattle.envelope.specs.declared.parts.Dir.TheVariants.{Down}
use Rattle.envelope.specs.declared.parts.Envelope.{Envelope}
use Rattle.client_rules.specs.Client.{Client, fresh_client}
use Rattle.client_rules.specs.Events.{takes}
use Rattle.client_core.specs.Holding.{kept_of}
use Rattle.client_core.specs.Kept.{Stands}
use Rattle.client_core.specs.declared.fault.SubmitFault.{SubmitFault}
use Rattle.client_core.specs.declared.fault.SubmitFault.TheVariants as submit
use Rattle.client_core.specs.declared.holder.Holder.{Holder}
use Rattle.client_core.specs.declared.holder.Holder.TheVariants as holder
use Rattle.sim_clients.specs.declared.fault.SeatFault.{SeatFault}
use Rattle.sim_clients.specs.declared.fault.SeatFault.TheVariants as told

-- a seat is without its client only inside a call that moves it
abbrev pub nobody : Holder
nobody =
    holder.Ended (record {
      rest = fresh_client 0 None 0;
      calls = record { rows = []; acks = []; packets = []; room = 0 };
      room = record { sessions = 0; learnt = 0; resent = 0 };
    })

abbrev pub held : Option Holder → Holder
held None = nobody
held (Some holder) = holder

-- a refusal of a call by what it is
abbrev pub fault_of : SubmitFault → SeatFault
fault_of submit.Memory = told.Memory
fault_of fault = told.Submit fault

-- bytes come to it at a moment; an ended client takes none
abbrev pub taken_in : (ℕ → Dir → List ℕ → Option Envelope) → ℕ → List ℕ → Client → Client
taken_in opens now bytes client =
    if client.has_ended then client else takes now (opens (max client.now now) Down bytes) client

-- it took them, or memory ran out and it stands for what it stood for
abbrev pub TakenSo : Client → Client → Holder → Result Unit SeatFault → Type 0
TakenSo before after kept (Ok done) = Stands (kept_of kept) after
TakenSo before after kept (Err fault) = Stands (kept_of kept) before
