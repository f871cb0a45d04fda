-- What bytes do that come to a server.
use Rattle.std.proofs.Common.{◌≡◌, ◌∙◌, ℕ, max, true, false, List, [], Option, Some, None, ap, refl, sym, subst}
use Rattle.envelope.specs.Lawful.{OpensWhatItSealed}
use Rattle.std.specs.Prelude.{is_some, option_map}
use Rattle.auth_keys.specs.declared.ring.RingKey.{RingKey}
use Rattle.envelope.specs.Opening.{IsRefused, Opens}
use Rattle.envelope.specs.Packet.{Lock}
use Rattle.envelope.specs.declared.parts.Dir.TheVariants.{Up}
use Rattle.envelope.specs.declared.parts.Envelope.{Envelope}
use Rattle.envelope.specs.declared.refusal.Refusal.{Refusal}
use Rattle.msg_ids.specs.Moments.{moment_of}
use Rattle.server_output.specs.Outs.{AreSent}
use Rattle.server_core.specs.Desks.{Does}
use Rattle.server_core.specs.Packets.{IsHeardOf, NothingIsDone, brought_in, effects_in}
use Rattle.server_core.specs.Server.{Kept, StandsFor}
use Rattle.server_core.specs.declared.desk.Heard.{Heard}
use Rattle.server_core.specs.declared.desk.Heard.TheVariants.{Judged, NotOpened}
use Rattle.server_core.specs.declared.desk.Reply.{Reply}
use Rattle.server_rules.specs.Answer.{after_packet}
use Rattle.server_rules.specs.Events.{Course, Packet as Comes, after_event}
use Rattle.server_rules.specs.Server.{Server}
use Rattle.server_session.specs.Says.{setting_of}
use Rattle.world_rules.specs.Setting.{Setting, as_heard, at_server}
use Rattle.sim_server.specs.Hosts.{Did}
use Rattle.sim_server.specs.Settings.{IsOf, rings_of}

-- the course of a server with its service, before an event
abbrev pub course_at : {D V : Type 0} → Server → V → D → Course D V
course_at server service draw = record { server = server; service = service; draw = draw; packets = []; entries = [] }

-- where it doesn't open, what holds of each refusal holds, by what was heard
not-opened : {D V : Type 0} (lock : Lock) (ring : List RingKey) (setting : Setting D V) (P : Type 0) (heard : Heard) (moment : ℕ) (bytes : List ℕ)
    → setting.opens moment Up bytes ≡ None → IsOf lock ring setting → IsHeardOf lock ring moment bytes heard
    → ((refusal : Refusal) → IsRefused lock ring moment Up bytes refusal → P) → P
not-opened lock ring setting P (NotOpened refusal) moment bytes none is heard refused = refused refusal heard
not-opened lock ring setting P (Judged key session) moment bytes none is heard refused =
    let envelope = heard.0 in
    let opens : setting.opens moment Up bytes ≡ Some envelope = (is.seal.opens moment Up bytes envelope).1 heard.1 in
    let no : None ≡ Some envelope = sym none ∙ opens in
    absurd (cc)

-- What was heard is what the bytes open to by the setting.
pub heard-did : {S V D : Type 0} (lock : Lock) (ring : List RingKey) (setting : Setting D V) (before after : Kept S) (draw drawn : D) (reply : Reply) (rules : Server)
    (service : V) (clock moment : ℕ) (bytes : List ℕ) (opened : Option Envelope) → setting.opens moment Up bytes ≡ opened
    → moment ≡ max rules.now (moment_of clock) → IsOf lock ring setting
    → IsHeardOf lock ring moment bytes reply.heard
    → ((refusal : Refusal) → IsRefused lock ring moment Up bytes refusal
    → NothingIsDone moment before after draw drawn reply × StandsFor after (record rules { now = moment }))
    → ((envelope : Envelope) → Opens lock ring moment Up bytes envelope
    → Does (StandsFor after) lock ring drawn (effects_in reply) (after_packet (setting_of moment setting.step (rings_of setting)) (brought_in envelope) rules draw))
    → Did lock ring after drawn (effects_in reply)
    (after_event (at_server setting) setting.serve setting.fresh (course_at rules service draw) (Comes clock (option_map as_heard opened)))
heard-did lock ring setting before after draw drawn reply rules service clock moment bytes None opens at is heard refused given =
    let both = not-opened lock ring setting (NothingIsDone moment before after draw drawn reply × StandsFor after (record rules { now = moment }))
    reply.heard moment bytes opens is heard refused in
    record {
      stands = subst (λ (m : ℕ). StandsFor after (record rules { now = m })) at both.1;
      drawn = both.0.drawn;
      sent = subst (λ outs. AreSent lock ring [] outs) (sym both.0.sent) tt;
      entered = both.0.entered;
    }
heard-did lock ring setting before after draw drawn reply rules service clock moment bytes (Some envelope) opens at is heard refused given =
    let own = given envelope ((is.seal.opens moment Up bytes envelope).0 opens) in
    let does : Does (StandsFor after) lock ring drawn (effects_in reply)
    (after_packet (setting_of (max rules.now (moment_of clock)) setting.step (rings_of setting)) (brought_in envelope) rules draw) =
    subst (λ (m : ℕ). Does (StandsFor after) lock ring drawn (effects_in reply) (after_packet (setting_of m setting.step (rings_of setting)) (brought_in envelope) rules draw)) at own in
    record { stands = does.stands; drawn = does.drawn; sent = does.sent; entered = does.entered }

-- ---- whether bytes open

opens-some : (opened : Option Envelope) (envelope : Envelope) → opened ≡ Some envelope → true ≡ is_some opened
opens-some opened envelope is = ap is_some (sym is)

pub opens-so : {D V : Type 0} (lock : Lock) (ring : List RingKey) (setting : Setting D V) (moment own : ℕ) (bytes : List ℕ) (envelope : Envelope)
    → IsOf lock ring setting → moment ≡ own → Opens lock ring moment Up bytes envelope → true ≡ is_some (setting.opens own Up bytes)
opens-so lock ring setting moment own bytes envelope is same opens =
    let at : Opens lock ring own Up bytes envelope = subst (λ (m : ℕ). Opens lock ring m Up bytes envelope) same opens in
    opens-some (setting.opens own Up bytes) envelope ((is.seal.opens own Up bytes envelope).1 at)

refused-at : {D V : Type 0} (lock : Lock) (ring : List RingKey) (setting : Setting D V) (own : ℕ) (bytes : List ℕ) (refusal : Refusal) (opened : Option Envelope)
    → setting.opens own Up bytes ≡ opened → IsOf lock ring setting → OpensWhatItSealed lock → IsRefused lock ring own Up bytes refusal → false ≡ is_some opened
refused-at lock ring setting own bytes refusal None opens is law refused = refl
refused-at lock ring setting own bytes refusal (Some envelope) opens is law refused =
    absurd (law.not_both ring own Up bytes envelope refusal ((is.seal.opens own Up bytes envelope).0 opens) refused)

pub opens-not : {D V : Type 0} (lock : Lock) (ring : List RingKey) (setting : Setting D V) (moment own : ℕ) (bytes : List ℕ) (refusal : Refusal)
    → IsOf lock ring setting → OpensWhatItSealed lock → moment ≡ own → IsRefused lock ring moment Up bytes refusal → false ≡ is_some (setting.opens own Up bytes)
opens-not lock ring setting moment own bytes refusal is law same refused =
    let at : IsRefused lock ring own Up bytes refusal = subst (λ (m : ℕ). IsRefused lock ring m Up bytes refusal) same refused in
    refused-at lock ring setting own bytes refusal (setting.opens own Up bytes) refl is law at
