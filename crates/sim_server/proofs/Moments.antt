-- Events of the server at the moment of its clock.
use Rattle.std.proofs.Common.{◌≡◌, ◌∙◌, ℕ, suc, ◌+◌, max, Option, Some, None, List, ap, refl, subst, arith}
use Rattle.auth_keys.specs.declared.ring.RingKey.{RingKey}
use Rattle.envelope.specs.Packet.{Lock}
use Rattle.msg_ids.specs.Moments.{moment_of}
use Rattle.regs_service.specs.Served.{Step}
use Rattle.server_core.specs.Desks.{Does}
use Rattle.server_core.specs.Server.{Kept, StandsFor}
use Rattle.server_core.specs.declared.effects.Effects.{Effects}
use Rattle.server_rules.specs.Answer.{Answer, after_run}
use Rattle.server_rules.specs.Event.{Envelope, Setting as ServerSetting}
use Rattle.server_rules.specs.Events.{Course, Packet as Comes, after_event}
use Rattle.server_rules.specs.Server.{Server}
use Rattle.waits.specs.declared.job.Job.{Job}
use Rattle.world_rules.specs.Setting.{Setting}
use Rattle.world_rules.specs.World.{World}
use Rattle.sim_server.specs.Hosts.{Stands}
use Rattle.sim_server.specs.Pasts.{Kept as Past}
use Rattle.sim_server.proofs.Serving.{at-clock, host_of}

-- ---- a run

pub run-at : {S V D : Type 0} (lock : Lock) (ring : List RingKey) (kept : Kept S) (after drawn draw : D) (serviced service : V) (effects : Effects)
    (answer : ℕ → D → V → Answer D × V) (moment own now clock : ℕ) → moment ≡ own → now ≡ moment_of clock → draw ≡ drawn → service ≡ serviced
    → Does (StandsFor kept) lock ring after effects (answer (max moment now) draw service).0
    → Does (StandsFor kept) lock ring after effects (answer (max own (moment_of clock)) drawn serviced).0
run-at lock ring kept after drawn draw serviced service effects answer moment own now clock same at draws serves gives =
    let first = at-clock lock ring kept after drawn draw effects (λ m d. (answer m d service).0) moment own now clock same at draws gives in
    subst (λ v. Does (StandsFor kept) lock ring after effects (answer (max own (moment_of clock)) drawn v).0) serves first

pub served-at : {V D : Type 0} (after serviced service : V) (drawn draw : D) (answer : ℕ → D → V → Answer D × V) (moment own now clock : ℕ)
    → moment ≡ own → now ≡ moment_of clock → draw ≡ drawn → service ≡ serviced → after ≡ (answer (max moment now) draw service).1
    → after ≡ (answer (max own (moment_of clock)) drawn serviced).1
served-at after serviced service drawn draw answer moment own now clock same at draws serves is =
    is
    ∙ ap (λ m. (answer (max m now) draw service).1) same
    ∙ ap (λ n. (answer (max own n) draw service).1) at
    ∙ ap (λ d. (answer (max own (moment_of clock)) d service).1) draws
    ∙ ap (λ v. (answer (max own (moment_of clock)) drawn v).1) serves

-- a run leaves the moment
pub run-now : {V D : Type 0} (setting : ServerSetting D) (place : ℕ) (job : Option Job) (serve : Step V) (service : V) (server : Server) (draw : D)
    → setting.now ≡ (after_run setting place job serve service server draw).0.server.now
run-now setting place None serve service server draw = refl
run-now setting place (Some job) serve service server draw = refl

-- ---- bytes

pub heard-now : {V D : Type 0} (setting : ServerSetting D) (serve : Step V) (fresh : V) (course : Course D V) (clock : ℕ) (opened : Option Envelope)
    → max course.server.now (moment_of clock) ≡ (after_event setting serve fresh course (Comes clock opened)).server.now
heard-now setting serve fresh course clock None = refl
heard-now setting serve fresh course clock (Some envelope) = refl

pub heard-service : {V D : Type 0} (setting : ServerSetting D) (serve : Step V) (fresh : V) (course : Course D V) (clock : ℕ) (opened : Option Envelope)
    → course.service ≡ (after_event setting serve fresh course (Comes clock opened)).service
heard-service setting serve fresh course clock None = refl
heard-service setting serve fresh course clock (Some envelope) = refl

-- ---- another start

pub starts-again : {S V D : Type 0} (setting : Setting D V) (server : Kept S) (moment : ℕ) (service : V) (clock : ℕ) (past after : Past) (draw : D) (world : World D V)
    → after ≡ record past { start = past.start + 1 } → Stands setting (host_of server moment service clock past) draw world
    → Stands setting (host_of server moment service clock after) draw (record world { start = suc world.start })
starts-again setting server moment service clock past after draw world is stands =
    record {
      server = stands.server;
      moment = stands.moment;
      service = stands.service;
      clock = stands.clock;
      drawn = stands.drawn;
      start = ap (λ (p : Past). p.start) is ∙ (let same = stands.start in omega (arith, same));
      bag = ap (λ (p : Past). p.bag) is ∙ stands.bag;
      entries = ap (λ (p : Past). p.entries) is ∙ stands.entries;
    }
