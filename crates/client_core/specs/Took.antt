-- What is told of a packet.
use Rattle.std.specs.Prelude.{◌≡◌, ℕ, Bool, true, false, List, Option, Some, None, Result, Ok, Err, ⊤}
use Rattle.auth_keys.specs.declared.ring.RingKey.{RingKey}
use Rattle.envelope.specs.declared.parts.Dir.TheVariants.{Down}
use Rattle.envelope.specs.declared.parts.Envelope.{Envelope}
use Rattle.envelope.specs.declared.refusal.Refusal.{Refusal}
use Rattle.envelope.specs.Opening.{IsRefused, Opens}
use Rattle.envelope.specs.Packet.{Lock}
use Rattle.octets.specs.declared.memory.Memory.{Memory}
use Rattle.client_rules.specs.Client.{Client, is_open}
use Rattle.client_core.specs.Kept.{Contents, Stands, at_end}
use Rattle.client_core.specs.declared.step.OpenStep.{OpenStep}
use Rattle.client_core.specs.declared.step.OpenStep.TheVariants as open_step
use Rattle.client_core.specs.declared.step.OpeningStep.{OpeningStep}
use Rattle.client_core.specs.declared.step.OpeningStep.TheVariants as opening_step

-- what is kept stands for the client, which has ended where the flag says so
abbrev pub Took : Bool → Contents → Client → Type 0
Took false contents client = Stands contents client
Took true contents client = Stands (at_end contents) client

-- What is kept after a packet that was received, which tells whether the client ended; where memory ran out it stands for
-- the client before.
abbrev pub TookBy : Result Bool Memory → Contents → Client → Client → Type 0
TookBy (Ok false) now before after = (after.has_ended ≡ false) × Stands now after
TookBy (Ok true) now before after = (after.has_ended ≡ true) × Stands (at_end now) after
TookBy (Err memory) now before after = Stands now before

-- An opening client became this one, or memory ran out and it is the one before. It opened exactly where it has learnt a
-- unique number.
abbrev pub TookOpening : OpeningStep → Client → Client → Type 0
TookOpening (opening_step.Still now) before after = (is_open after ≡ false) × Stands now after
TookOpening (opening_step.Opened now) before after = (is_open after ≡ true) × Stands now after
TookOpening (opening_step.Memory now) before after = Stands now before

-- The same of an open client, which ended exactly where the flag of what it became says so.
abbrev pub TookOpen : OpenStep → Client → Client → Type 0
TookOpen (open_step.Still now) before after = (after.has_ended ≡ false) × Stands now after
TookOpen (open_step.Ended now) before after = (after.has_ended ≡ true) × Stands now after
TookOpen (open_step.Memory now) before after = Stands now before

-- the client that a packet leaves

abbrev pub opening_left : OpeningStep → Contents
opening_left (opening_step.Still now) = now
opening_left (opening_step.Opened now) = now
opening_left (opening_step.Memory now) = now

abbrev pub open_left : OpenStep → Contents
open_left (open_step.Still now) = now
open_left (open_step.Ended now) = now
open_left (open_step.Memory now) = now

-- ---- why a packet doesn't open

-- a packet that comes down at a moment doesn't open for this cause; none is told of one that opens
abbrev pub IsWhy : Lock → List RingKey → ℕ → List ℕ → Option Refusal → Type 0
IsWhy lock ring at packet None = (envelope : Envelope) × Opens lock ring at Down packet envelope
IsWhy lock ring at packet (Some why) = IsRefused lock ring at Down packet why

-- it is told unless memory ran out, of a packet that was received

abbrev pub TellsWhy : Lock → List RingKey → ℕ → List ℕ → Result Bool Memory → Option Refusal → Type 0
TellsWhy lock ring at packet (Ok ended) why = IsWhy lock ring at packet why
TellsWhy lock ring at packet (Err memory) why = why ≡ None

abbrev pub TellsWhyOpening : Lock → List RingKey → ℕ → List ℕ → OpeningStep → Option Refusal → Type 0
TellsWhyOpening lock ring at packet (opening_step.Memory now) why = why ≡ None
TellsWhyOpening lock ring at packet other why = IsWhy lock ring at packet why

abbrev pub TellsWhyOpen : Lock → List RingKey → ℕ → List ℕ → OpenStep → Option Refusal → Type 0
TellsWhyOpen lock ring at packet (open_step.Memory now) why = why ≡ None
TellsWhyOpen lock ring at packet other why = IsWhy lock ring at packet why

-- where memory ran out it is the client that it was

abbrev pub StaysOpening : Client → OpeningStep → Type 0
StaysOpening client (opening_step.Memory now) = Stands now client
StaysOpening client other = ⊤

abbrev pub StaysOpen : Client → OpenStep → Type 0
StaysOpen client (open_step.Memory now) = Stands now client
StaysOpen client other = ⊤

-- memory didn't run out

abbrev pub IsDoneOpening : OpeningStep → Type 0
IsDoneOpening (opening_step.Memory now) = ⊥
IsDoneOpening other = ⊤

abbrev pub IsDoneOpen : OpenStep → Type 0
IsDoneOpen (open_step.Memory now) = ⊥
IsDoneOpen other = ⊤
