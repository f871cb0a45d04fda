-- What a server's event is as a desk's.
use Rattle.std.proofs.Common.{◌≡◌, ◌≤◌, ℕ, List, Result, Ok, Err, max, sym, subst, refl}
use Rattle.std.specs.Prelude.{IfOk, OnOk}
use Rattle.auth_keys.specs.declared.ring.RingKey.{RingKey}
use Rattle.envelope.specs.Packet.{Lock}
use Rattle.server_rules.specs.Answer.{Answer}
use Rattle.server_rules.specs.Server.{Server}
use Rattle.server_core.specs.declared.desk.Reply.{Reply}
use Rattle.server_core.specs.declared.effects.Effects.{Effects}
use Rattle.server_core.specs.Desks.{Does, DoesNothing}
use Rattle.server_core.specs.Effects.{Gives}
use Rattle.server_core.specs.Packets.{NothingIsDone}
use Rattle.server_core.specs.Server.{IsBetweenEvents, Kept, Stands, StandsFor}
use Rattle.server_core.proofs.Speaking.{StandsLater, kept-later}

does-so : {S D : Type 0} (lock : Lock) (keys : List RingKey) (kept : Kept S) (draw : D) (effects : Effects) (answer : Answer D)
    → IsBetweenEvents answer.server → Gives lock keys kept draw effects answer → Does (StandsFor kept) lock keys draw effects answer
does-so lock keys kept draw effects answer between gives = record {
  stands = record { stands = gives.stands; between = between };
  drawn = gives.drawn;
  sent = gives.sent;
  entered = gives.entered;
}

-- what an event gives, where it leaves a server between events
pub does : (S D : Type 0) {A E : Type 0} (lock : Lock) (keys : List RingKey) (kept : Kept S) (draw : D) (effects : A → Effects) (answer : Answer D) (result : Result A E)
    → IsBetweenEvents answer.server → IfOk result (λ done. Gives lock keys kept draw (effects done) answer)
    → IfOk result (λ done. Does (StandsFor kept) lock keys draw (effects done) answer)
does S D lock keys kept draw effects answer (Ok done) between gives = does-so lock keys kept draw (effects done) answer between gives
does S D lock keys kept draw effects answer (Err error) between gives = tt

-- and where it leaves one so only if something holds of it
pub does-where : (S D : Type 0) {A E : Type 0} (P : Type 0) (lock : Lock) (keys : List RingKey) (kept : Kept S) (draw : D) (effects : A → Effects) (answer : Answer D) (result : Result A E)
    → OnOk result P → (P → IsBetweenEvents answer.server) → IfOk result (λ done. Gives lock keys kept draw (effects done) answer)
    → IfOk result (λ done. Does (StandsFor kept) lock keys draw (effects done) answer)
does-where S D P lock keys kept draw effects answer (Ok done) holds between gives = does-so lock keys kept draw (effects done) answer (between holds) gives
does-where S D P lock keys kept draw effects answer (Err error) holds between gives = tt

-- a server to which nothing happened but that time went on
pub stands-later : {S : Type 0} → StandsLater → (before after : Kept S) (moment : ℕ) (server : Server) → before.moment ≤ moment → after ≡ record before { moment = moment }
    → Stands before server → Stands after (record server { now = moment })
stands-later {S} later before after moment server le same stands =
    subst (λ (kept : Kept S). Stands kept (record server { now = moment })) (sym same)
    (record {
      moment = refl;
      sessions = kept-later later before.moment moment before.sessions server.sessions le stands.sessions;
      jobs = stands.jobs;
      bindings = stands.bindings;
    })

-- so is a packet that doesn't open
pub stays : {S : Type 0} {A E : Type 0} → StandsLater → (before after : Kept S) (moment : ℕ) (server : Server) (result : Result A E) → before.moment ≤ moment
    → OnOk result (after ≡ record before { moment = moment }) → IsBetweenEvents (record server { now = moment }) → StandsFor before server
    → OnOk result (StandsFor after (record server { now = moment }))
stays later before after moment server (Ok done) le same between is = record { stands = stands-later later before after moment server le same is.stands; between = between }
stays later before after moment server (Err error) le same between is = tt

-- a desk's packet that doesn't open
pub does-nothing : {S D : Type 0} (before after : Kept S) (draw drawn : D) (reply : Reply) (now : ℕ) (server : Server) → before.moment ≡ server.now
    → StandsFor after (record server { now = max before.moment now }) → NothingIsDone (max before.moment now) before after draw drawn reply
    → DoesNothing (StandsFor after) draw drawn reply (record server { now = max server.now now })
does-nothing before after draw drawn reply now server same stands nothing = record {
  stands = subst (λ (own : ℕ). StandsFor after (record server { now = max own now })) same stands;
  drawn = nothing.drawn;
  sent = nothing.sent;
  entered = nothing.entered;
}
