-- Each event of a server, of which kind it may be, leaves it steady, and its packets may be sealed.
use Rattle.std.proofs.Common.{◌≡◌, ℕ, ◌≤◌, Bool, Option, Some, None, List, [], ◌∷◌, ◌++◌, ap, sym, subst, refl, arith}
use Rattle.std.specs.Prelude.{not}
use Rattle.std.proofs.lemmas.List.{append-nil}
use Rattle.std.specs.List.{All, AllByRecursion}
use Rattle.octets.specs.Bytes.{IsBytes}
use Rattle.msg_ids.specs.Moments.{latest_moment}
use Rattle.msg_ids.specs.Counters.{room}
use Rattle.outbox.specs.Replies.{IsWithin}
use Rattle.regs_service.specs.Served.{Step}
use Rattle.waits.specs.declared.job.Job.{Job}
use Rattle.waits.specs.Jobs.{AreWithinLimits, ready_job}
use Rattle.server_rules.specs.Server.{Name, Server, Session, is_named, kept_replies}
use Rattle.server_rules.specs.Event.{Envelope, Sent, Setting, speaks}
use Rattle.server_rules.specs.Answer.{after_run, attaches, begun, runs, takes, ticks}
use Rattle.server_rules.specs.Events.{Attach, Course, Event, Loss, Packet, Restart, Tick, Work, after_event, setting_at, worked}
use Rattle.law_server_bounds.specs.Runs.{IsShortRun}
use Rattle.law_server_bounds.specs.Small.{AreGivenTo, AreSmall, DrawsWords, GivesReplies, HasSmallEnvelope, IsContent, IsSmallEnvelope, IsSmallState, IsWholeSent}
use Rattle.law_server_bounds.specs.Steady.{IsFair, IsKnown, IsSealable, IsSteady}
use Rattle.law_server_bounds.proofs.Bodies.{AreLawful}
use Rattle.law_server_bounds.proofs.Ending.{Gives, Laws, gives}
use Rattle.law_server_bounds.proofs.Heard.{attach-g, begun-g, packet-g, run-g, tick-g}
use Rattle.law_server_bounds.proofs.Lists.{none-some, rec-append, rec-filter}
use Rattle.law_server_bounds.proofs.Owing.{more-g}
use Rattle.law_server_bounds.proofs.Sending.{IsNumbered}

-- ---- a service that gives the one reply that is asked of it

told : {V : Type 0} → Option Job → Step V → V → Step V
told None serve service = λ state request. ([], state)
told (Some job) serve service = λ state request. serve service job.request

abbrev as_told : {S V : Type 0} → Step V → Course S V → Event → Step V
as_told serve course (Work moment place) = told (ready_job place course.server.jobs) serve course.service
as_told serve course _ = told None serve course.service

same-run : {S V : Type 0} (setting : Setting S) (place : ℕ) (found : Option Job) (serve : Step V) (service : V) (server : Server) (draw : S)
    → after_run setting place found (told found serve service) service server draw ≡ after_run setting place found serve service server draw
unfolding told
same-run setting place None serve service server draw = refl
same-run setting place (Some job) serve service server draw = refl

same-event : {S V : Type 0} (setting : Setting S) (serve : Step V) (fresh : V) (course : Course S V) (event : Event)
    → after_event setting (as_told serve course event) fresh course event ≡ after_event setting serve fresh course event
same-event setting serve fresh course (Packet moment envelope) = refl
same-event setting serve fresh course (Work moment place) =
    ap (worked course)
    (same-run (setting_at setting moment course.server) place (ready_job place course.server.jobs) serve course.service course.server course.draw)
same-event setting serve fresh course (Tick moment) = refl
same-event setting serve fresh course (Attach moment name) = refl
same-event setting serve fresh course (Loss name) = refl
same-event setting serve fresh course Restart = refl

no-bytes : IsBytes []
no-bytes i = omega arith

no-content : IsContent []
no-content = (record { words = refl; short = omega arith }, no-bytes)

told-gives : {V : Type 0} (found : Option Job) (serve : Step V) (service : V) → ((job : Job) → found ≡ Some job → IsContent (serve service job.request).0) → GivesReplies (told found serve service)
unfolding told
told-gives None serve service fair = λ state request. no-content
told-gives (Some job) serve service fair = λ state request. fair job refl

event-gives-told : {S V : Type 0} (known : ℕ → Bool) (serve : Step V) (course : Course S V) (event : Event) → IsFair known serve course event → GivesReplies (as_told serve course event)
event-gives-told known serve course (Packet moment envelope) fair = told-gives None serve course.service (λ job is. absurd (none-some job is))
event-gives-told known serve course (Work moment place) fair = told-gives (ready_job place course.server.jobs) serve course.service fair
event-gives-told known serve course (Tick moment) fair = told-gives None serve course.service (λ job is. absurd (none-some job is))
event-gives-told known serve course (Attach moment name) fair = told-gives None serve course.service (λ job is. absurd (none-some job is))
event-gives-told known serve course (Loss name) fair = told-gives None serve course.service (λ job is. absurd (none-some job is))
event-gives-told known serve course Restart fair = told-gives None serve course.service (λ job is. absurd (none-some job is))

pub fair-small : {S V : Type 0} (known : ℕ → Bool) (serve : Step V) (course : Course S V) (event : Event) → IsFair known serve course event → HasSmallEnvelope event
fair-small known serve course (Packet moment None) fair = tt
fair-small known serve course (Packet moment (Some envelope)) fair = fair.0
fair-small known serve course (Work moment place) fair = tt
fair-small known serve course (Tick moment) fair = tt
fair-small known serve course (Attach moment name) fair = tt
fair-small known serve course (Loss name) fair = tt
fair-small known serve course Restart fair = tt

pub fair-short : {S V : Type 0} (known : ℕ → Bool) (serve : Step V) (course : Course S V) (event : Event) → IsFair known serve course event → IsShortRun serve course event
fair-short known serve course (Packet moment envelope) fair = tt
fair-short known serve course (Work moment place) fair = λ job is. (fair job is).0.short
fair-short known serve course (Tick moment) fair = tt
fair-short known serve course (Attach moment name) fair = tt
fair-short known serve course (Loss name) fair = tt
fair-short known serve course Restart fair = tt

-- ---- what an event leaves

-- the moment of a server's event is no later than the latest
timely-at : {S : Type 0} (setting : Setting S) (moment : ℕ) (server : Server) → server.now ≤ latest_moment → (setting_at setting moment server).now ≤ latest_moment
timely-at setting moment server low = omega (arith, low)

-- what the law says of what is owed
pub record OwesSmall (S : Type 0) : Type 0 where
  pub packet : (setting : Setting S) (envelope : Envelope) (server : Server) (draw : S) → DrawsWords setting → IsSmallEnvelope envelope
      → AreSmall server.sessions server.jobs → IsSmallState (takes setting envelope (begun server draw))
  pub work : (setting : Setting S) (place : ℕ) (job : Job) (reply : List ℕ) (server : Server) (draw : S) → DrawsWords setting → IsContent reply
      → ready_job place server.jobs ≡ Some job → AreSmall server.sessions server.jobs → IsSmallState (runs setting place job reply (begun server draw))
  pub tick : (setting : Setting S) (server : Server) (draw : S) → DrawsWords setting → AreSmall server.sessions server.jobs
      → IsSmallState (ticks setting (begun server draw))
  pub attach : (setting : Setting S) (name : Name) (server : Server) (draw : S) → DrawsWords setting → AreSmall server.sessions server.jobs
      → IsSmallState (speaks name (attaches setting) (begun server draw))

-- what is kept after the event, and its packets
pub record Goes {S V : Type 0} (known : ℕ → Bool) (course after : Course S V) : Type 0 where
  pub more : List Sent
  pub added : after.packets ≡ course.packets ++ more
  pub numbered : AllByRecursion (IsNumbered known) more
  pub keys : AllByRecursion (IsKnown known) after.server.sessions
  pub now : after.server.now ≤ latest_moment

nothing-owed : {S : Type 0} (server : Server) (draw : S) → AreSmall server.sessions server.jobs → IsSmallState (begun server draw)
nothing-owed server draw kept = record { kept = kept; owed = tt; given = each server.sessions }
  where
    each : (sessions : List Session) → AllByRecursion (AreGivenTo []) sessions
    each [] = tt
    each (session ∷ sessions) = (tt, each sessions)

module _ {S V : Type 0} (laws : Laws S) (lawful : AreLawful) (owes : OwesSmall S) (known : ℕ → Bool) (setting : Setting S) (draws : DrawsWords setting) where
  run-gives : (now : Setting S) (timely : now.now ≤ latest_moment) → DrawsWords now → (place : ℕ) (found : Option Job) (serve : Step V) (service : V) (server : Server) (draw : S)
      → ready_job place server.jobs ≡ found → ((job : Job) → found ≡ Some job → IsContent (serve service job.request).0) → IsSteady known server
      → Gives known (after_run now place found serve service server draw).0
  run-gives now timely words place None serve service server draw is fair steady =
      let state = begun server draw in
      gives laws now timely known state
      (λ name. more-g laws.speak laws.falls now timely known name 8192 10236 state (omega arith) (begun-g laws.speak laws.falls now timely known name server draw steady))
      (nothing-owed server draw steady.kept)
  run-gives now timely words place (Some job) serve service server draw is fair steady =
      let reply = (serve service job.request).0 in
      gives laws now timely known (runs now place job reply (begun server draw))
      (λ name. run-g laws.speak laws.falls now timely known name place job reply server draw steady)
      (owes.work now place job reply server draw words (fair job refl) is steady.kept)

  pub event-goes : (serve : Step V) (fresh : V) (course : Course S V) (event : Event) → IsFair known serve course event → IsSteady known course.server
      → Goes known course (after_event setting serve fresh course event)
  event-goes serve fresh course (Packet moment None) fair steady =
      record { more = []; added = sym (append-nil course.packets); numbered = tt; keys = steady.keys; now = timely-at setting moment course.server steady.now }
  event-goes serve fresh course (Packet moment (Some envelope)) fair steady =
      let now = setting_at setting moment course.server in
      let timely = timely-at setting moment course.server steady.now in
      let done = gives laws now timely known (takes now envelope (begun course.server course.draw))
      (λ name. packet-g laws.speak laws.falls now timely known name lawful envelope course.server course.draw fair.0.bytes fair.1 steady)
      (owes.packet now envelope course.server course.draw draws fair.0 steady.kept) in
      record { more = _; added = refl; numbered = done.packets; keys = done.keys; now = timely }
  event-goes serve fresh course (Work moment place) fair steady =
      let now = setting_at setting moment course.server in
      let timely = timely-at setting moment course.server steady.now in
      let done = run-gives now timely draws place (ready_job place course.server.jobs) serve course.service course.server course.draw refl fair steady in
      record { more = _; added = refl; numbered = done.packets; keys = done.keys; now = run-now now place (ready_job place course.server.jobs) serve course.service course.server course.draw timely }
    where
      run-now : (now : Setting S) (place : ℕ) (found : Option Job) (serve : Step V) (service : V) (server : Server) (draw : S) → now.now ≤ latest_moment
          → (after_run now place found serve service server draw).0.server.now ≤ latest_moment
      run-now now place None serve service server draw timely = timely
      run-now now place (Some job) serve service server draw timely = timely
  event-goes serve fresh course (Tick moment) fair steady =
      let now = setting_at setting moment course.server in
      let timely = timely-at setting moment course.server steady.now in
      let done = gives laws now timely known (ticks now (begun course.server course.draw))
      (λ name. tick-g laws.speak laws.falls now timely known name course.server course.draw steady)
      (owes.tick now course.server course.draw draws steady.kept) in
      record { more = _; added = refl; numbered = done.packets; keys = done.keys; now = timely }
  event-goes serve fresh course (Attach moment name) fair steady =
      let now = setting_at setting moment course.server in
      let timely = timely-at setting moment course.server steady.now in
      let done = gives laws now timely known (speaks name (attaches now) (begun course.server course.draw))
      (λ own. attach-g laws.speak laws.falls now timely known own name course.server course.draw steady)
      (owes.attach now name course.server course.draw draws steady.kept) in
      record { more = _; added = refl; numbered = done.packets; keys = done.keys; now = timely }
  event-goes serve fresh course (Loss name) fair steady =
      record {
        more = [];
        added = sym (append-nil course.packets);
        numbered = tt;
        keys = rec-filter (IsKnown known) (λ session. not (is_named name session)) course.server.sessions steady.keys;
        now = steady.now;
      }
  event-goes serve fresh course Restart fair steady =
      record { more = []; added = sym (append-nil course.packets); numbered = tt; keys = tt; now = steady.now }

-- ---- with what the laws below say

-- of an event
pub record Below {S V : Type 0} (setting : Setting S) (fresh : V) (course : Course S V) (event : Event) : Type 0 where
  pub sizes : (serve : Step V) → GivesReplies serve → HasSmallEnvelope event → AreSmall course.server.sessions course.server.jobs
      → AreSmall (after_event setting serve fresh course event).server.sessions (after_event setting serve fresh course event).server.jobs
  pub whole : (serve : Step V) → GivesReplies serve → HasSmallEnvelope event → AreSmall course.server.sessions course.server.jobs → AllByRecursion IsWholeSent course.packets
      → AllByRecursion IsWholeSent (after_event setting serve fresh course event).packets
  pub room : (serve : Step V) → All (λ session. 16384 ≤ room session.counters) course.server.sessions
      → All (λ session. 16384 ≤ room session.counters) (after_event setting serve fresh course event).server.sessions
  pub replies : (serve : Step V) → IsShortRun serve course event → All (λ session. IsWithin (kept_replies session.replies)) course.server.sessions
      → All (λ session. IsWithin (kept_replies session.replies)) (after_event setting serve fresh course event).server.sessions
  pub jobs : (serve : Step V) → AreWithinLimits course.server.jobs → AreWithinLimits (after_event setting serve fresh course event).server.jobs

sealable : (known : ℕ → Bool) (packets : List Sent) → AllByRecursion IsWholeSent packets → AllByRecursion (IsNumbered known) packets → AllByRecursion (IsSealable known) packets
sealable known [] whole numbered = tt
sealable known (sent ∷ packets) whole numbered =
    let one = numbered.0 in
    (record { whole = whole.0; number = one.number; seq = one.seq; key = one.key; padded = one.padded }, sealable known packets whole.1 numbered.1)

numbers-of : (known : ℕ → Bool) (packets : List Sent) → AllByRecursion (IsSealable known) packets → AllByRecursion IsWholeSent packets × AllByRecursion (IsNumbered known) packets
numbers-of known [] all = (tt, tt)
numbers-of known (sent ∷ packets) all =
    let rest = numbers-of known packets all.1 in
    let one = all.0 in
    ((one.whole, rest.0), (record { number = one.number; seq = one.seq; key = one.key; padded = one.padded }, rest.1))

module _ {S V : Type 0} (known : ℕ → Bool) (setting : Setting S) (serve : Step V) (fresh : V) (course : Course S V) (event : Event)
    (below : Below setting fresh course event) (fair : IsFair known serve course event) (steady : IsSteady known course.server)
    (goes : Goes known course (after_event setting serve fresh course event)) where
  pub event-steady : IsSteady known (after_event setting serve fresh course event).server
  event-steady =
      let K : Course S V → Type 0 = λ after. AreSmall after.server.sessions after.server.jobs in
      record {
        now = goes.now;
        kept = subst K (same-event setting serve fresh course event)
            (below.sizes (as_told serve course event) (event-gives-told known serve course event fair) (fair-small known serve course event fair) steady.kept);
        room = below.room serve steady.room;
        replies = below.replies serve (fair-short known serve course event fair) steady.replies;
        jobs = below.jobs serve steady.jobs;
        keys = goes.keys;
      }

  pub event-sealable : AllByRecursion (IsSealable known) course.packets → AllByRecursion (IsSealable known) (after_event setting serve fresh course event).packets
  event-sealable all =
      let both = numbers-of known course.packets all in
      let W : Course S V → Type 0 = λ after. AllByRecursion IsWholeSent after.packets in
      let whole = subst W (same-event setting serve fresh course event)
      (below.whole (as_told serve course event) (event-gives-told known serve course event fair) (fair-small known serve course event fair) steady.kept both.0) in
      let N : List Sent → Type 0 = λ packets. AllByRecursion (IsNumbered known) packets in
      sealable known (after_event setting serve fresh course event).packets whole
      (subst N (sym goes.added) (rec-append (IsNumbered known) course.packets goes.more both.1 goes.numbered))
