-- What a connection makes of a server: its events, and the packets that go out on it.
use Rattle.std.specs.Prelude.{◌≡◌, ℕ, zero, suc, max, if◌then◌else◌, List, [], ◌∷◌, ◌++◌, fold, map, Result, Ok, Err}
use Rattle.std.specs.List.{filter}
use Rattle.auth_keys.specs.declared.ring.RingKey.{RingKey}
use Rattle.envelope.specs.declared.parts.Dir.TheVariants.{Up, Down}
use Rattle.envelope.specs.declared.parts.Envelope.{Envelope}
use Rattle.envelope.specs.declared.refusal.Refusal.{Refusal}
use Rattle.envelope.specs.declared.refusal.Refusal.TheVariants as refusals
use Rattle.envelope.specs.Opening.{IsRefused, Opens}
use Rattle.envelope.specs.Packet.{Lock, Sealed}
use Rattle.octets.specs.Bytes.{IsBytes}
use Rattle.server_output.specs.Outs.{sealed_envelope}
use Rattle.regs_service.specs.Served.{Step}
use Rattle.server_dispatch.specs.Rings.{AreOf}
use Rattle.server_session.specs.Says.{Keys, setting_of}
use Rattle.server_rules.specs.Answer.{Answer, after_attach, after_packet, after_tick, after_work}
use Rattle.server_rules.specs.Event.{Sent, Setting}
use Rattle.server_rules.specs.Server.{Server}
use Rattle.server_core.specs.Packets.{brought_in}
use Rattle.server_node.specs.Names.{was_heard, with_name}
use Rattle.server_node.specs.Writes.{unknown_key}
use Rattle.server_core.specs.declared.session_name.SessionName.{SessionName}

-- ---- what the events stand on

-- What the keys say: which are temporary and what a binding call binds, what a packet that comes at a moment opens to, or
-- why it doesn't open, and the packet that is sealed of what a session sends.
pub record Outside : Type 0 where
  pub keys : Keys
  pub reading : ℕ → List ℕ → Result Envelope Refusal
  pub sealing : Sent → List ℕ

abbrev pub IsRead : Lock → List RingKey → ℕ → List ℕ → Result Envelope Refusal → Type 0
IsRead lock ring now packet (Ok envelope) = Opens lock ring now Up packet envelope
IsRead lock ring now packet (Err refusal) = IsRefused lock ring now Up packet refusal

-- it is what this ring says under a lock, of each packet that is a list of bytes
pub record IsOutside (lock : Lock) (ring : List RingKey) (outside : Outside) : Type 0 where
  pub keys : AreOf ring outside.keys
  pub reads : (now : ℕ) (packet : List ℕ) → IsBytes packet → IsRead lock ring now packet (outside.reading now packet)
  pub seals : (sent : Sent) (packet : List ℕ) → Sealed lock ring Down (sealed_envelope sent.envelope) sent.padding packet → outside.sealing sent ≡ packet

-- and how words are drawn and calls are served
pub record Rules (S V : Type 0) : Type 0 where
  pub step : S → ℕ × S
  pub serve : Step V
  pub outside : Outside

abbrev pub rules_of : {S V : Type 0} → (S → ℕ × S) → Step V → Outside → Rules S V
rules_of step serve outside = record { step = step; serve = serve; outside = outside }

-- ---- a connection between events

-- a server with its service and its draw, the sessions that were heard on the connection, in order of their first packets,
-- and the packets that went out on it, in order
pub record Talk (S V : Type 0) : Type 0 where
  pub server : Server
  pub service : V
  pub draw : S
  pub heard : List SessionName
  pub sent : List (List ℕ)

-- the session that an envelope is of, and the one that a packet goes to
abbrev pub name_in : Envelope → SessionName
name_in envelope = record { key = envelope.key; session = envelope.session }

abbrev pub name_to : Sent → SessionName
name_to sent = record { key = sent.envelope.key; session = sent.envelope.session }

-- ---- events

-- A packet comes, a connection is opened for a session, a tick, and the first ready job runs, each at a moment.
pub data Act : Type 0 where
  Hear : (now : ℕ) (packet : List ℕ) → Act
  Attach : (now : ℕ) (name : SessionName) → Act
  Tick : (now : ℕ) → Act
  Run : (now : ℕ) → Act

-- of what an event gives, the packets go out whose sessions were heard on the connection
abbrev pub going : Outside → List SessionName → List Sent → List (List ℕ)
going outside heard packets = map outside.sealing (filter (λ sent. was_heard heard (name_to sent)) packets)

abbrev pub gives : {S V : Type 0} → Rules S V → Answer S → Talk S V → Talk S V
gives rules answer talk =
    record talk { server = answer.server; draw = answer.draw; sent = talk.sent ++ going rules.outside talk.heard answer.packets }

abbrev pub setting_at : {S V : Type 0} → Rules S V → ℕ → Setting S
setting_at rules now = setting_of now rules.step rules.outside.keys

-- the greatest moment that the server was given, with this one
abbrev pub moment_at : {S V : Type 0} → Talk S V → ℕ → ℕ
moment_at talk now = max talk.server.now now

-- An unknown key brings the transport error. Of any other packet that doesn't open, the moment alone counts.
abbrev pub hears_as : {S V : Type 0} → Rules S V → ℕ → Result Envelope Refusal → Talk S V → Talk S V
hears_as rules now (Ok envelope) talk =
    gives rules (after_packet (setting_at rules now) (brought_in envelope) talk.server talk.draw) (record talk { heard = with_name talk.heard (name_in envelope) })
hears_as rules now (Err (refusals.NoKey id)) talk =
    record talk { server = record talk.server { now = now }; sent = talk.sent ++ unknown_key ∷ [] }
hears_as rules now (Err refusal) talk = record talk { server = record talk.server { now = now } }

abbrev pub runs_as : {S V : Type 0} → Rules S V → Answer S × V → Talk S V → Talk S V
runs_as rules worked talk = gives rules worked.0 (record talk { service = worked.1 })

abbrev pub after_act : {S V : Type 0} → Rules S V → Talk S V → Act → Talk S V
after_act rules talk (Hear now packet) = hears_as rules (moment_at talk now) (rules.outside.reading (moment_at talk now) packet) talk
after_act rules talk (Attach now name) =
    gives rules (after_attach (setting_at rules (moment_at talk now)) (record { key = name.key; session = name.session }) talk.server talk.draw) talk
after_act rules talk (Tick now) = gives rules (after_tick (setting_at rules (moment_at talk now)) talk.server talk.draw) talk
after_act rules talk (Run now) =
    runs_as rules (after_work (setting_at rules (moment_at talk now)) 0 rules.serve talk.service talk.server talk.draw) talk

abbrev pub after_acts : {S V : Type 0} → Rules S V → Talk S V → List Act → Talk S V
after_acts rules talk acts = fold (after_act rules) talk acts

-- ---- the events of a piece

-- directly after a session's first packet on the connection comes its attach
abbrev pub first_acts : {S V : Type 0} → ℕ → Talk S V → Result Envelope Refusal → List Act
first_acts now talk (Ok envelope) = if was_heard talk.heard (name_in envelope) then [] else Attach now (name_in envelope) ∷ []
first_acts now talk (Err refusal) = []

abbrev pub packet_acts : {S V : Type 0} → Rules S V → ℕ → List ℕ → Talk S V → List Act
packet_acts rules now packet talk = Hear now packet ∷ first_acts now talk (rules.outside.reading (moment_at talk now) packet)

-- the packets come one after the other
abbrev pub packets_acts : {S V : Type 0} → Rules S V → ℕ → List (List ℕ) → Talk S V → List Act
packets_acts rules now [] talk = []
packets_acts rules now (packet ∷ packets) talk =
    packet_acts rules now packet talk ++ packets_acts rules now packets (after_acts rules talk (packet_acts rules now packet talk))

-- so many runs
abbrev pub runs : ℕ → ℕ → List Act
runs now zero = []
runs now (suc count) = Run now ∷ runs now count

-- When no whole packet is left there is a tick, and then the first ready job runs, so many times.
abbrev pub work_acts : ℕ → ℕ → List Act
work_acts now count = Tick now ∷ runs now count
