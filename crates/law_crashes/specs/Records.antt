-- The records that the calls of a server with a journal owe, and what records make of a world.
use Rattle.std.specs.Prelude.{ℕ, suc, false, nat_lt, length, ◌||◌, Bool, if◌then◌else◌, is_some, Option, Some, None, List, [], ◌∷◌, ◌++◌, fold, map}
use Rattle.envelope.specs.declared.parts.Dir.TheVariants.{Up}
use Rattle.sched_text.specs.declared.event.Event.TheVariants as line
use Rattle.sess_records.specs.declared.records.Event.{Event}
use Rattle.sess_records.specs.declared.records.Event.TheVariants as recorded
use Rattle.sess_records.specs.declared.records.Record.{Record}
use Rattle.sess_journal.specs.Replay.{run_interrupted}
use Rattle.server_rules.specs.Event.{Entry}
use Rattle.server_rules.specs.Events as events
use Rattle.server_rules.specs.Server.{Name}
use Rattle.waits.specs.declared.job.Job.{Job}
use Rattle.waits.specs.Jobs.{ready_job}
use Rattle.world_rules.specs.Ends.{course_in, serves}
use Rattle.world_rules.specs.Run.{after}
use Rattle.world_rules.specs.Setting.{Setting, at_server}
use Rattle.world_rules.specs.World.{Entered, World, server_now}
use Rattle.law_connections.specs.Joint.{at_moment, attaches}

-- ---- calls

-- A call of the server: a packet comes, a connection is attached to a session, a tick, or the ready job of a place, from 0,
-- runs; each at a moment.
pub data Call : Type 0 where
  Hear : (now : ℕ) (packet : List ℕ) → Call
  Attach : (now : ℕ) (name : Name) → Call
  Tick : (now : ℕ) → Call
  Work : (now place : ℕ) → Call

-- what it makes of a world where it is answered
abbrev pub answered : {S V : Type 0} → Setting S V → Call → World S V → World S V
answered setting (Hear now packet) world = after setting (at_moment now world) (line.ForeignServer packet)
answered setting (Attach now name) world = attaches setting name (at_moment now world)
answered setting (Tick now) world = after setting (at_moment now world) line.TickServer
answered setting (Work now place) world = after setting (at_moment now world) (line.Work (suc place))

-- ---- the records that a call owes

-- the record of an event: with the greatest moment so far, and the place of the draw before the event
abbrev pub entry_of : {S V : Type 0} → (S → ℕ) → World S V → Event (List ℕ) → Record
entry_of place_of world event = record { moment = server_now world; place = place_of world.draw; event = event }

-- the later world has a packet or an entry more
abbrev pub has_more : {S V : Type 0} → World S V → World S V → Bool
has_more world later = nat_lt (length world.bag) (length later.bag) || nat_lt (length world.entries) (length later.entries)

-- a run has two: that it begins, and the reply that the service gave
abbrev pub owed_by_run : {S V : Type 0} → Setting S V → (S → ℕ) → ℕ → Option Job → World S V → List Record
owed_by_run setting place_of place None world = []
owed_by_run setting place_of place (Some job) world =
    entry_of place_of world (recorded.Begin place) ∷ entry_of place_of world (recorded.Ran (setting.serve world.service job.request).0) ∷ []

-- in order: a packet that opens has one, an attach and a tick that give a packet or an entry have one, and no other event
abbrev pub owed : {S V : Type 0} → Setting S V → (S → ℕ) → Call → World S V → List Record
owed setting place_of (Hear now packet) world =
    let here = at_moment now world in
    if is_some (setting.opens (server_now here) Up packet) then entry_of place_of here (recorded.Packet packet) ∷ [] else []
owed setting place_of (Attach now name) world =
    if has_more world (answered setting (Attach now name) world) then entry_of place_of (at_moment now world) (recorded.Attach name.key name.session) ∷ [] else []
owed setting place_of (Tick now) world =
    if has_more world (answered setting (Tick now) world) then entry_of place_of (at_moment now world) recorded.Tick ∷ [] else []
owed setting place_of (Work now place) world =
    owed_by_run setting place_of place (ready_job place world.server.jobs) (at_moment now world)

-- ---- runs whose replies were recorded

-- the setting with a service that gives this reply, whatever it is asked
abbrev pub replying : {S V : Type 0} → List ℕ → Setting S V → Setting S V
replying reply setting = record setting { serve = λ service request. (reply, service) }

-- the ready job of this place has run at this moment with this reply; the service isn't asked
abbrev pub replied : {S V : Type 0} → Setting S V → ℕ → ℕ → List ℕ → World S V → World S V
replied setting moment place reply world = record (serves (replying reply setting) (events.Work moment place) world) { service = world.service }

-- what that event enters
abbrev pub entered_by : {S V : Type 0} → Setting S V → ℕ → ℕ → List ℕ → World S V → List Entry
entered_by setting moment place reply world =
    (events.after_event (at_server setting) (replying reply setting).serve setting.fresh (course_in world) (events.Work moment place)).entries

-- entries of this start, of what didn't run
abbrev pub unran_in : ℕ → List Entry → List Entered
unran_in start entries = map (λ entry. record { start = start; entry = record entry { ran = false } }) entries

-- The ready job of this place was cut off: it is answered by `rpc_error` 500 `RUN_INTERRUPTED`, and nothing ran.
abbrev pub cut_off : {S V : Type 0} → Setting S V → ℕ → ℕ → World S V → World S V
cut_off setting moment place world =
    record (replied setting moment place run_interrupted world) {
      entries = world.entries ++ unran_in world.start (entered_by setting moment place run_interrupted world);
    }

-- ---- records that are played on a world

-- a world, and the job whose run began in the last record
pub record Played (S V : Type 0) : Type 0 where
  pub world : World S V
  pub begun : Option ℕ

abbrev pub in_place : {S V : Type 0} → Option ℕ → (ℕ → World S V → World S V) → World S V → World S V
in_place None act world = world
in_place (Some place) act world = act place world

-- what a record makes of a world, at its moment: a begin nothing, a reply and an interruption end the run that began
abbrev pub recounted : {S V : Type 0} → Setting S V → ℕ → Option ℕ → Event (List ℕ) → World S V → World S V
recounted setting moment begun (recorded.Packet packet) world = answered setting (Hear moment packet) world
recounted setting moment begun recorded.Tick world = answered setting (Tick moment) world
recounted setting moment begun (recorded.Attach key session) world = answered setting (Attach moment (record { key = key; session = session })) world
recounted setting moment begun (recorded.Begin place) world = world
recounted setting moment begun (recorded.Ran reply) world = in_place begun (λ place. replied setting moment place reply) world
recounted setting moment begun recorded.Interrupted world = in_place begun (λ place. cut_off setting moment place) world

-- the job whose run begins in a record
abbrev pub begun_of : Event (List ℕ) → Option ℕ
begun_of (recorded.Begin place) = Some place
begun_of event = None

abbrev pub plays : {S V : Type 0} → Setting S V → Played S V → Record → Played S V
plays setting played entry =
    record {
      world = recounted setting entry.moment played.begun entry.event played.world;
      begun = begun_of entry.event;
    }

abbrev pub played_all : {S V : Type 0} → Setting S V → Played S V → List Record → Played S V
played_all setting played entries = fold (plays setting) played entries
