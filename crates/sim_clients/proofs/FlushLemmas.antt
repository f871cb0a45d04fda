-- What a client that was asked to send answers.
use Rattle.std.proofs.Common.{◌≡◌, ℕ, Bool, true, false, if◌then◌else◌, Some, List, [], ◌∷◌, refl, ap, sym, ◌∙◌}
use Rattle.std.specs.Prelude.{nat_lt}
use Rattle.std.proofs.lemmas.Bool.{true≢false}
use Rattle.auth_keys.specs.declared.ring.RingKey.{RingKey}
use Rattle.msg_ids.specs.Counters.{room}
use Rattle.envelope.specs.Packet.{Lock}
use Rattle.service_tl.specs.declared.lists.Message.{Message}
use Rattle.client_rules.specs.Client.{Client, at_moment}
use Rattle.client_rules.specs.Filling.{Filling}
use Rattle.client_rules.specs.Flush.{Answer, Nothing, Spent, Sends, filled, flush, has_any, room_min, sends}
use Rattle.client_rules.specs.Sending.{Packet, Setting}
use Rattle.client_core.specs.Flushed.{Flushes, TellsFlush}
use Rattle.client_core.specs.Kept.{Contents, Stands}
use Rattle.client_core.specs.declared.flush.Flush.TheVariants as flushed
use Rattle.sim_clients.specs.Told.{TellsSent}

-- ---- the session number of a packet

abbrev session_in : Answer → ℕ
session_in Nothing = 0
session_in Spent = 0
session_in (Sends packet) = packet.envelope.session

abbrev is_sent : Answer → Bool
is_sent Nothing = false
is_sent Spent = false
is_sent (Sends packet) = true

no_packet : (answer : Answer) (packet : Packet) → is_sent answer ≡ false → answer ≡ Sends packet → ⊥
no_packet answer packet none is = absurd (true≢false (sym (ap is_sent is) ∙ none))

sends_session : {S : Type 0} (setting : Setting S) (messages : List Message) (filling : Filling S) (packet : Packet)
    → (sends setting messages filling).answer ≡ Sends packet → packet.envelope.session ≡ (sends setting messages filling).client.session
sends_session setting [] filling packet is = absurd (no_packet Nothing packet refl is)
sends_session setting (one ∷ []) filling packet is = sym (ap session_in is)
sends_session setting (one ∷ other ∷ more) filling packet is = sym (ap session_in is)

tested_session : {S : Type 0} (setting : Setting S) (due few : Bool) (messages : List Message) (filling : Filling S) (client : Client) (draw : S) (packet : Packet)
    → (if due then (if few then record { answer = Spent; client = client; draw = draw } else sends setting messages filling) else sends setting [] filling).answer ≡ Sends packet
    → packet.envelope.session ≡ (if due then (if few then record { answer = Spent; client = client; draw = draw } else sends setting messages filling) else sends setting [] filling).client.session
tested_session setting true true messages filling client draw packet is = absurd (no_packet Spent packet refl is)
tested_session setting true false messages filling client draw packet is = sends_session setting messages filling packet is
tested_session setting false few messages filling client draw packet is = sends_session setting [] filling packet is

pub packet_session : {S : Type 0} (setting : Setting S) (now : ℕ) (client : Client) (draw : S) (packet : Packet)
    → (flush setting now client draw).answer ≡ Sends packet → packet.envelope.session ≡ (flush setting now client draw).client.session
packet_session setting now client draw packet is =
    let filling = filled setting (at_moment now client) draw in
    tested_session setting (has_any filling.messages) (nat_lt (room client.counters) room_min) filling.messages filling client draw packet is

pub session_kept : (old new : Contents) (client after : Client) → Stands old client → Stands new after → new.rest.session ≡ old.rest.session → after.session ≡ client.session
session_kept old new client after was is same = sym (ap (λ (rest : Client). rest.session) is.rest) ∙ (same ∙ ap (λ (rest : Client). rest.session) was.rest)

sent_by : (lock : Lock) (keys : List RingKey) (session : ℕ) (bytes : List ℕ) (answer : Answer)
    → ((packet : Packet) → answer ≡ Sends packet → session ≡ packet.envelope.session)
    → TellsFlush lock keys answer (flushed.Packet bytes) → TellsSent lock keys answer (Some (record { session = session; bytes = bytes }))
sent_by lock keys session bytes Nothing has told = told
sent_by lock keys session bytes Spent has told = told
sent_by lock keys session bytes (Sends packet) has told = (has packet refl, told)

-- a packet that was flushed, with the session number that the client had before
pub sent_so : {S : Type 0} (setting : Setting S) (lock : Lock) (keys : List RingKey) (now session : ℕ) (bytes : List ℕ) (old new : Contents) (client : Client) (draw drawn : S)
    → Stands old client → Flushes setting lock keys now client draw (flushed.Packet bytes) new drawn → new.rest.session ≡ old.rest.session → session ≡ client.session
    → TellsSent lock keys (flush setting now client draw).answer (Some (record { session = session; bytes = bytes }))
sent_so setting lock keys now session bytes old new client draw drawn was flushes same own =
    sent_by lock keys session bytes (flush setting now client draw).answer
    (λ packet is. own ∙ sym (packet_session setting now client draw packet is ∙ session_kept old new client (flush setting now client draw).client was flushes.leaves.0 same))
    flushes.told
