-- A packet that a desk hears, and its record.
use Rattle.std.proofs.Common.{◌≡◌, ℕ, Result, List, [], ◌∷◌, ◌++◌, max, sym, ap, subst, Option}
use Rattle.auth_keys.specs.declared.ring.RingKey.{RingKey}
use Rattle.disks.specs.Told.{DiskTold}
use Rattle.envelope.specs.declared.parts.Dir.TheVariants.{Up}
use Rattle.envelope.specs.declared.parts.Envelope.{Envelope as Sealed}
use Rattle.envelope.specs.declared.refusal.Refusal.{Refusal}
use Rattle.envelope.specs.Opening.{Opens}
use Rattle.envelope.specs.Packet.{Lock}
use Rattle.sess_records.specs.declared.records.Event.TheVariants.{Packet}
use Rattle.sess_records.specs.declared.records.Record.{Record}
use Rattle.server_core.specs.declared.desk.DeskFault.{DeskFault}
use Rattle.server_core.specs.declared.desk.Heard.{Heard}
use Rattle.server_core.specs.declared.desk.Heard.TheVariants.{Judged, NotOpened}
use Rattle.server_core.specs.declared.desk.Reply.{Reply}
use Rattle.server_core.specs.Desks.{Does, DoesNothing}
use Rattle.server_core.specs.Packets.{IsHeardOf, NothingIsDone, effects_in}
use Rattle.server_core.specs.Server.{Kept, StandsFor as IsServer}
use Rattle.server_dispatch.specs.Rings.{AreOf}
use Rattle.server_rules.specs.Answer.{Answer}
use Rattle.server_rules.specs.Server.{Server}
use Rattle.server_session.specs.Says.{Keys}
use Rattle.sess_journal.specs.Staging.{Stage}
use Rattle.sess_journal.specs.Keeping.{ByHeard, Journals, KeepsFor, Seen, entry_at}
use Rattle.sess_journal.specs.Replay.{Bases}
use Rattle.sess_journal.proofs.DeskLemmas.{keeps_quiet}

pub by_not_opened : (P Q : Type 0) (heard : Heard) (refusal : Refusal) → heard ≡ NotOpened refusal → P → ByHeard heard P Q
by_not_opened P Q heard refusal is p = subst (λ (h : Heard). ByHeard h P Q) (sym is) p

pub by_judged : (P Q : Type 0) (heard : Heard) (key session : ℕ) → heard ≡ Judged key session → Q → ByHeard heard P Q
by_judged P Q heard key session is q = subst (λ (h : Heard). ByHeard h P Q) (sym is) q

-- what a packet comes to, by the desk before
abbrev pub HearJournals : {K S D : Type 0} → Bases S D → (K → Option DiskTold) → (D → ℕ) → Lock → (S → List RingKey) → (D → Keys → Sealed → Answer D) → List Record → Server → ℕ → List ℕ → Seen K S D
    → Result Reply DeskFault → Seen K S D → Type 0
HearJournals bases told place_of lock ring_of answer entries server now packet new result old =
    Journals bases told entries (entry_at place_of old now (Packet packet) ∷ []) [] server old new result (λ reply more.
    IsHeardOf lock (ring_of old.server.seal) (max server.now now) packet reply.heard
    × ByHeard reply.heard
    ((more ≡ []) × DoesNothing (KeepsFor bases told entries new) old.draw new.draw reply (record server { now = max server.now now }))
    ((more ≡ entry_at place_of old now (Packet packet) ∷ [])
    × ((ring : Keys) (envelope : Sealed) → AreOf (ring_of old.server.seal) ring → Opens lock (ring_of old.server.seal) (max server.now now) Up packet envelope
    → Does (KeepsFor bases told (entries ++ more) new) lock (ring_of old.server.seal) new.draw (effects_in reply) (answer old.draw ring envelope))))

module _ {K S D : Type 0} {bases : Bases S D} {told : K → Option DiskTold} {entries : List Record} {old : Seen K S D} {server : Server} {moment : ℕ} (stage : Stage bases told entries old server moment) where
  -- a packet that doesn't open
  pub hears_nothing : (new : Seen K S D) (reply : Reply) → NothingIsDone (max old.server.moment moment) old.server new.server old.draw new.draw reply
      → IsServer new.server (record server { now = max old.server.moment moment }) → new.latest ≡ max old.latest moment → new.book ≡ old.book
      → DoesNothing (KeepsFor bases told entries new) old.draw new.draw reply (record server { now = max server.now moment })
  hears_nothing new reply nothing stands latest book =
      let stands_now : IsServer new.server (record server { now = max server.now moment }) =
      subst (λ (n : ℕ). IsServer new.server (record server { now = max n moment })) stage.keeps.stands.stands.moment stands in
      record {
        stands = keeps_quiet stage new (ap (λ (k : Kept S). k.seal) nothing.same) stands_now latest nothing.drawn book;
        drawn = nothing.drawn;
        sent = nothing.sent;
        entered = nothing.entered;
      }
