-- A client with its ring and its draw, and the client of the rules that it is.
use Rattle.std.specs.Prelude.{◌≡◌, ◌<◌, ◌⊎◌, ℕ, if◌then◌else◌, Bool, true, false, Option, Some, None, IfSome, List, [], length, Result, Ok, Err, ⊤}
use Rattle.std.specs.Option.{option_or}
use Rattle.auth_keys.specs.declared.key.KeyKind.{KeyKind}
use Rattle.auth_keys.specs.declared.key.KeyKind.TheVariants.{Perm, Temp}
use Rattle.auth_keys.specs.declared.ring.RingKey.{RingKey}
use Rattle.auth_keys.specs.KeyFile.{IsRingOf}
use Rattle.auth_keys.specs.Rings.{entry_of, kind_in}
use Rattle.call_table.specs.declared.call.CallNo.{CallNo}
use Rattle.call_table.specs.Table.{Call, State, Done, call_no, is_open, state_at}
use Rattle.client_rules.specs.Asking.{Fault, has_call}
use Rattle.client_rules.specs.Client.{Client, calls_of, fresh_client}
use Rattle.client_rules.specs.Flush.{Answer, Flushed, Nothing, Spent, flush}
use Rattle.client_rules.specs.Sending.{Setting}
use Rattle.client_core.specs.Flushed.{TellsFlush}
use Rattle.client_core.specs.Holding.{kept_of}
use Rattle.client_core.specs.Kept.{Contents, Stands}
use Rattle.client_core.specs.Told.{TellsFault}
use Rattle.client_core.specs.declared.fault.SubmitFault.TheVariants as submit
use Rattle.client_core.specs.declared.flush.Flush.TheVariants as told
use Rattle.client_core.specs.declared.holder.Holder.{Holder}
use Rattle.client_core.specs.declared.holder.Holder.TheVariants as holder
use Rattle.draws.specs.ChaChaWords.{ChaChaPlace}
use Rattle.envelope.specs.Opening.{IsRefused, Opens}
use Rattle.envelope.specs.Packet.{Lock}
use Rattle.envelope.specs.declared.parts.Dir.TheVariants.{Down}
use Rattle.envelope.specs.declared.parts.Envelope.{Envelope}
use Rattle.kifzaro.specs.Errors.{IsKeysError}
use Rattle.kifzaro.specs.Rooms.{TellsRoom}
use Rattle.kifzaro.specs.declared.error.Error.{Error}
use Rattle.kifzaro.specs.declared.error.Error.TheVariants as errors

-- ---- what contracts see of a client

-- the client in its state, the keys of its ring, what it draws from, and a packet that wasn't handed out yet
pub record Kept : Type 0 where
  pub holder : Holder
  pub ring : List RingKey
  pub draw : ChaChaPlace
  pub waiting : Option (List ℕ)

-- it is this client of the rules
abbrev pub Is : Kept → Client → Type 0
Is kept client = Stands (kept_of kept.holder) client

-- a client is away only inside a call that moves it
abbrev pub nobody : Holder
nobody =
    holder.Ended (record {
      rest = fresh_client 0 None 0;
      calls = record { rows = []; acks = []; packets = []; room = 0 };
      room = record { sessions = 0; learnt = 0; resent = 0 };
    })

abbrev pub held : Option Holder → Holder
held None = nobody
held (Some holder) = holder

-- ---- what is answered

-- what is wrong with a key of this kind where a permanent one is due

abbrev pub fault_as_perm : ℕ → Option KeyKind → Option Error
fault_as_perm key None = Some (errors.NoKey key)
fault_as_perm key (Some Perm) = None
fault_as_perm key (Some (Temp expires)) = Some (errors.NotPermanent key)

-- and where a temporary one is
abbrev pub fault_as_temp : ℕ → Option KeyKind → Option Error
fault_as_temp key None = Some (errors.NoKey key)
fault_as_temp key (Some Perm) = Some (errors.NotTemporary key)
fault_as_temp key (Some (Temp expires)) = None

-- what is wrong with the keys of a client in this ring: its permanent key, or else its temporary one and then the one to
-- which that is to be bound

abbrev pub perm_fault : ℕ → List RingKey → Option Error
perm_fault key ring = fault_as_perm key (kind_in (entry_of key ring))

abbrev pub temp_fault : ℕ → ℕ → List RingKey → Option Error
temp_fault temp perm ring = option_or (fault_as_temp temp (kind_in (entry_of temp ring))) (perm_fault perm ring)

-- why there is no client: the text is no key file, or this is wrong with the keys in its ring
abbrev pub IsNoClient : List ℕ → (List RingKey → Option Error) → Error → Type 0
IsNoClient text fault error = IsKeysError text error ⊎ ((ring : List RingKey) × IsRingOf text ring × (fault ring ≡ Some error))

-- a call is taken by a client that hasn't ended, where nothing refuses it; or the refusal is told
abbrev pub TellsSubmit : {X : Type 0} → Bool → Option Fault → Result X Error → Type 0
TellsSubmit ended due (Ok taken) = (ended ≡ false) × (due ≡ None)
TellsSubmit ended due (Err (errors.Submit submit.Memory)) = ⊥
TellsSubmit {X} ended due (Err (errors.Submit fault)) = (ended ≡ false) × TellsFault {X = X} due (Err fault)
TellsSubmit ended due (Err errors.Ended) = ended ≡ true
TellsSubmit ended due (Err errors.Memory) = (ended ≡ false) × (due ≡ None)
TellsSubmit ended due (Err other) = ⊥

-- it is done by a client that hasn't ended
abbrev pub TellsEnded : {X : Type 0} → Bool → Result X Error → Type 0
TellsEnded ended (Ok done) = ended ≡ false
TellsEnded ended (Err errors.Ended) = ended ≡ true
TellsEnded ended (Err other) = ⊥

-- it is done by an open client
abbrev pub TellsOpen : {X : Type 0} → Bool → Result X Error → Type 0
TellsOpen is_open (Ok done) = is_open ≡ true
TellsOpen is_open (Err errors.NotOpen) = is_open ≡ false
TellsOpen is_open (Err other) = ⊥

-- it is done by an open client that has sent the call
abbrev pub TellsDropped : {X : Type 0} → Bool → Bool → Result X Error → Type 0
TellsDropped is_open sent (Ok done) = (is_open ≡ true) × (sent ≡ true)
TellsDropped is_open sent (Err errors.NotOpen) = is_open ≡ false
TellsDropped is_open sent (Err errors.NotSent) = (is_open ≡ true) × (sent ≡ false)
TellsDropped is_open sent (Err other) = ⊥

-- ---- what is sent

-- what a client sends next where no packet waits: one that has ended sends nothing
abbrev pub next_flush : {S : Type 0} → Setting S → ℕ → Client → S → Flushed S
next_flush setting now client draw =
    if client.has_ended then record { answer = Nothing; client = client; draw = draw } else flush setting now client draw

-- the answer of the rules is told, unless memory ran out
abbrev pub TellsPoll : Lock → List RingKey → Answer → Result (Option (List ℕ)) Error → Type 0
TellsPoll lock ring answer (Ok None) = answer ≡ Nothing
TellsPoll lock ring answer (Ok (Some bytes)) = TellsFlush lock ring answer (told.Packet bytes)
TellsPoll lock ring answer (Err errors.Spent) = answer ≡ Spent
TellsPoll lock ring answer (Err errors.Memory) = ⊤
TellsPoll lock ring answer (Err other) = ⊥

-- where memory ran out the client and the draw are as they were, else the rules' own
abbrev pub LeavesPoll : {S : Type 0} → Result (Option (List ℕ)) Error → Contents → S → Client → S → Flushed S → Type 0
LeavesPoll (Err errors.Memory) kept draw client before due = Stands kept client × (draw ≡ before)
LeavesPoll other kept draw client before due = Stands kept due.client × (draw ≡ due.draw)

-- a client is asked what it sends next, and no packet waits
pub record Polls {S : Type 0} (setting : Setting S) (lock : Lock) (ring : List RingKey) (now : ℕ) (client : Client) (before : S) (answer : Result (Option (List ℕ)) Error) (kept : Contents) (draw : S) : Type 0 where
  pub told : TellsPoll lock ring (next_flush setting now client before).answer answer
  pub leaves : LeavesPoll answer kept draw client before (next_flush setting now client before)

-- what was made, or why nothing was
abbrev pub outcome : Result Unit Error → Option (List ℕ) → Result (Option (List ℕ)) Error
outcome (Ok done) waiting = Ok waiting
outcome (Err error) waiting = Err error

-- the packet is handed out whole into the room
abbrev pub TellsTaken : List ℕ → List ℕ → List ℕ → Result (Option ℕ) Error → Type 0
TellsTaken packet before after (Ok (Some len)) = TellsRoom packet before after (Ok len)
TellsTaken packet before after (Ok None) = ⊥
TellsTaken packet before after (Err error) = TellsRoom packet before after (Err error)

-- ---- what became of a call

-- what became of the call of a number, where there is one
abbrev pub state_of : CallNo → Client → Option State
state_of call client = if has_call (length (calls_of client)) call then state_at call (calls_of client) else None

-- there is no such call
abbrev pub TellsNoCall : CallNo → Client → Error → Type 0
TellsNoCall call client error = (error ≡ errors.NoCall) × (has_call (length (calls_of client)) call ≡ false)

-- the reply to a call in this state, whole in the room; of no other call
abbrev pub TellsReply : Option State → List ℕ → List ℕ → Result ℕ Error → Type 0
TellsReply (Some (Done reply)) before after result = TellsRoom reply before after result
TellsReply (Some other) before after result = (result ≡ Err errors.NoReply) × (after ≡ before)
TellsReply None before after result = (result ≡ Err errors.NoCall) × (after ≡ before)

-- the call at a place, from 0, is decided: it is known what became of it, or known that it isn't
abbrev pub IsDecidedAt : List Call → ℕ → Type 0
IsDecidedAt calls place = IfSome (state_at (call_no place) calls) (λ state. is_open state ≡ false)

-- each call is
abbrev pub AreDecided : List Call → Type 0
AreDecided calls = (place : ℕ) → place < length calls → IsDecidedAt calls place

-- ---- what comes

-- a client takes each packet that opens, and tells of each other why it doesn't; only memory may run out
abbrev pub TellsHeard : Lock → List RingKey → ℕ → List ℕ → Result Unit Error → Type 0
TellsHeard lock ring now packet (Ok done) = (envelope : Envelope) × Opens lock ring now Down packet envelope
TellsHeard lock ring now packet (Err (errors.Refused why)) = IsRefused lock ring now Down packet why
TellsHeard lock ring now packet (Err errors.Memory) = ⊤
TellsHeard lock ring now packet (Err other) = ⊥

-- it became this client, or memory ran out and it is the client that it was
abbrev pub Comes : Client → Client → Holder → Result Unit Error → Type 0
Comes before after kept (Err errors.Memory) = Stands (kept_of kept) before
Comes before after kept other = Stands (kept_of kept) after

abbrev pub Becomes : Client → Client → Kept → Result Unit Error → Type 0
Becomes before after kept result = Comes before after kept.holder result
