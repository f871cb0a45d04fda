-- A packet that a server hears: what its session judges, and what the event leaves.
use Rattle.std.specs.Prelude.{◌≡◌, ◌≢◌, ◌<◌, ◌≤◌, ℕ, ◌+◌, List, [], length, map, All}
use Rattle.auth_keys.specs.declared.ring.RingKey.{RingKey}
use Rattle.envelope.specs.declared.parts.Dir.TheVariants.{Up}
use Rattle.envelope.specs.declared.parts.Envelope.{Envelope as Sealed}
use Rattle.envelope.specs.Opening.{IsRefused, Opens}
use Rattle.envelope.specs.Packet.{Lock}
use Rattle.inbox.specs.declared.judged.Judgement.{Judgement as BareJudgement}
use Rattle.inbox.specs.Verdicts.{Judgement, bare_judgement}
use Rattle.inbox.specs.declared.outer.Outer.{Outer}
use Rattle.inbox.specs.Judging.{judgements}
use Rattle.waits.specs.Jobs.{Queue}
use Rattle.server_rules.specs.Answer.{message_in, messages_judged, name_in}
use Rattle.server_rules.specs.Event.{Envelope, Setting}
use Rattle.server_rules.specs.Server.{Binding, Name, Session, remembered, sessions_max}
use Rattle.law_server.specs.Lives.{history_by, way_of}
use Rattle.server_session.specs.declared.session.SessionState.{SessionState}
use Rattle.server_session.specs.Names.{name_kept}
use Rattle.server_core.specs.declared.desk.Heard.{Heard}
use Rattle.server_core.specs.declared.desk.Heard.TheVariants.{Judged, NotOpened}
use Rattle.server_core.specs.declared.desk.Reply.{Reply}
use Rattle.server_core.specs.declared.effects.Effects.{Effects}
use Rattle.server_core.specs.declared.room.PacketRoom.{PacketRoom}
use Rattle.server_core.specs.Among.{Among, IsAlone, IsOrderlySpeaker, remembers_among}
use Rattle.server_core.specs.Failures.{blocked_of}
use Rattle.server_core.specs.Hearing.{IsHeard}
use Rattle.server_core.specs.Server.{CanSpeak, Kept}
use Rattle.server_core.specs.SettlingAll.{AreDue}

-- ---- what a server hears

-- A packet that comes at this moment opens to an envelope of this session, or doesn't open, for this cause.
abbrev pub IsHeardOf : Lock → List RingKey → ℕ → List ℕ → Heard → Type 0
IsHeardOf lock keys now packet (NotOpened refusal) = IsRefused lock keys now Up packet refusal
IsHeardOf lock keys now packet (Judged key session) =
    (envelope : Sealed) × Opens lock keys now Up packet envelope × (envelope.key ≡ key) × (envelope.session ≡ session)

-- nothing goes out and nothing changes but the moment
pub record NothingIsDone {S D : Type 0} (moment : ℕ) (before after : Kept S) (draw later : D) (reply : Reply) : Type 0 where
  pub same : after ≡ record before { moment = moment }
  pub drawn : later ≡ draw
  pub sent : reply.out.outs ≡ []
  pub entered : reply.entries.entries ≡ []

abbrev pub effects_in : Reply → Effects
effects_in reply = record { out = reply.out; entries = reply.entries }

-- what an envelope brings, as the rules see it
abbrev pub brought_in : Sealed → Envelope
brought_in envelope =
    record {
      key = envelope.key;
      salt = envelope.salt;
      session = envelope.session;
      number = envelope.number;
      seq = envelope.seq;
      body = envelope.body;
    }

-- what one of this key and session brings
abbrev pub brought : ℕ → ℕ → Outer → Envelope
brought key session outer =
    record {
      key = key;
      salt = outer.salt;
      session = session;
      number = outer.number;
      seq = outer.seq;
      body = outer.body;
    }

-- ---- what a session that was heard judges

abbrev pub judged_of : {S : Type 0} → Setting S → Envelope → Session → List Judgement
judged_of setting envelope session = judgements (way_of setting envelope session) (remembered session) (message_in envelope)

-- the bodies of the messages that it judges
abbrev pub bodies_of : {S : Type 0} → Setting S → Envelope → Session → List (List ℕ)
bodies_of setting envelope session = map (λ one. one.body) (messages_judged (way_of setting envelope session) session (message_in envelope))

-- What is kept is that of a session among the others that was heard and remembers what it judged, and these are its
-- judgements.
pub record HasJudged {S : Type 0} (setting : Setting S) (envelope : Envelope) (kept : List SessionState) (standing : SessionState) (queue : Queue) (bound : List Binding) (draw : S) (judged : List BareJudgement) (among : Among S) : Type 0 where
  pub heard : IsHeard setting.now kept standing queue bound draw (remembers_among (history_by setting envelope among.speaker.session) among)
  pub are : judged ≡ map bare_judgement (judged_of setting envelope among.speaker.session)
  pub alone : IsAlone (name_in envelope) among
  pub order : IsOrderlySpeaker (name_in envelope) among.speaker

-- The room that was taken is that for what these judgements need, and for so many jobs that fail.
pub record Fits {S : Type 0} (setting : Setting S) (envelope : Envelope) (judged : List BareJudgement) (room : PacketRoom) (among : Among S) : Type 0 where
  pub due : AreDue (judged_of setting envelope among.speaker.session) (bodies_of setting envelope among.speaker.session) room.dues.items
  pub few : blocked_of (name_in envelope) among.speaker.jobs + length judged ≤ room.limit

-- ---- what the event leaves

-- the server then, by its parts
abbrev pub kept_so : {S : Type 0} → S → ℕ → List SessionState → Queue → List Binding → Kept S
kept_so seal moment sessions jobs bindings = record { seal = seal; moment = moment; sessions = sessions; jobs = jobs; bindings = bindings }

-- the sessions beside one of this name: there is a place for that one, none has its name, and each can speak
pub record AreBeside (keys : List RingKey) (moment : ℕ) (name : Name) (others : List SessionState) : Type 0 where
  pub few : length others < sessions_max
  pub apart : All (λ other. name_kept other ≢ name) others
  pub speaking : All (CanSpeak keys moment) others
