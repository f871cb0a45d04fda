-- What is answered to an event of a client.
use Rattle.std.specs.Prelude.{◌≡◌, ℕ, Option, Some, None, option_map, List, Result, Ok, Err, ⊤}
use Rattle.auth_keys.specs.declared.ring.RingKey.{RingKey}
use Rattle.call_table.specs.declared.call.CallNo.{CallNo}
use Rattle.envelope.specs.declared.parts.Dir.TheVariants.{Up}
use Rattle.envelope.specs.Packet.{Lock, Sealed}
use Rattle.client_rules.specs.Asking.{submit_fault}
use Rattle.client_rules.specs.Asking as fault
use Rattle.client_rules.specs.Flush.{Answer, Nothing, Sends}
use Rattle.client_core.specs.Holding.{kept_of}
use Rattle.client_core.specs.Kept.{Stands}
use Rattle.client_core.specs.declared.fault.SubmitFault.TheVariants as submit
use Rattle.client_core.specs.declared.holder.Holder.{Holder}
use Rattle.world_rules.specs.Refusals.{Refusal, NoClient, WrongState, Submit, NumbersSpent, NotSent}
use Rattle.world_rules.specs.World.{Seat}
use Rattle.sim_clients.specs.declared.fault.SeatFault.{SeatFault}
use Rattle.sim_clients.specs.declared.fault.SeatFault.TheVariants as told
use Rattle.sim_clients.specs.declared.sent.Sent.{Sent}

-- ---- refusals

-- the answer is the refusal where there is one; else it is done, unless memory ran out
abbrev pub TellsRefusal : {X : Type 0} → Option Refusal → Result X SeatFault → Type 0
TellsRefusal due (Ok done) = due ≡ None
TellsRefusal due (Err told.NoClient) = due ≡ Some NoClient
TellsRefusal due (Err told.WrongState) = due ≡ Some WrongState
TellsRefusal due (Err (told.Submit (submit.TooLong len))) = due ≡ Some (Submit (fault.TooLong len))
TellsRefusal due (Err (told.Submit (submit.NotWords len))) = due ≡ Some (Submit (fault.NotWords len))
TellsRefusal due (Err (told.Submit (submit.ServiceTag tag))) = due ≡ Some (Submit (fault.ServiceTag tag))
TellsRefusal due (Err (told.Submit submit.NoSuchCall)) = due ≡ Some (Submit fault.NoSuchCall)
TellsRefusal due (Err (told.Submit submit.TooMany)) = due ≡ Some (Submit fault.TooMany)
TellsRefusal due (Err (told.Submit submit.Memory)) = ⊥
TellsRefusal due (Err told.Spent) = due ≡ Some NumbersSpent
TellsRefusal due (Err told.NotSent) = due ≡ Some NotSent
TellsRefusal due (Err told.Memory) = due ≡ None

-- The same of a flush, by whether the client sends at all and what it then comes to: memory may run out before it is seen
-- that numbers are spent.
abbrev pub TellsUnsent : {X : Type 0} → Option Refusal → Option Refusal → Result X SeatFault → Type 0
TellsUnsent state due (Err told.Memory) = state ≡ None
TellsUnsent state due answer = TellsRefusal due answer

-- why a call isn't taken; it is to execute after this one, if one is given
abbrev pub not_taken : List ℕ → Option CallNo → Seat → Option Refusal
not_taken body after seat = option_map Submit (submit_fault body after seat.client)

-- ---- what a flush gives

-- a packet as it is sent: sealed upwards, under the key that its envelope names, with the session number in it
abbrev pub TellsSent : Lock → List RingKey → Answer → Option Sent → Type 0
TellsSent lock keys Nothing None = ⊤
TellsSent lock keys (Sends packet) (Some sent) =
    (sent.session ≡ packet.envelope.session) × Sealed lock keys Up packet.envelope packet.padding sent.bytes
TellsSent lock keys answer other = ⊥

-- ---- which client

-- this is the client of a seat that is there
abbrev pub IsClientOf : Holder → Option Seat → Type 0
IsClientOf holder None = ⊥
IsClientOf holder (Some seat) = Stands (kept_of holder) seat.client
