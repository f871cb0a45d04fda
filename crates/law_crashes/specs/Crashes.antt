-- A schedule with crashes: what a server with a journal and its clients do over connections, where a crash cuts the server off
-- at any moment, and it is opened again from what its journal has.
use Rattle.std.specs.Prelude.{ℕ, suc, Option, Some, None, List, [], ◌++◌, fold, take}
use Rattle.client_core.specs.Keys.{Keys}
use Rattle.msg_ids.specs.Moments.{moment_of}
use Rattle.sess_journal.specs.Keeping.{ending_by}
use Rattle.sess_records.specs.declared.records.Event.{Event}
use Rattle.sess_records.specs.declared.records.Event.TheVariants as recorded
use Rattle.sess_records.specs.declared.records.Record.{Record}
use Rattle.world_rules.specs.Setting.{Setting}
use Rattle.world_rules.specs.World.{World}
use Rattle.law_connections.specs.Joint.{Deed, Joint, nobody_yet, steps_on}
use Rattle.law_connections.specs.Joint as joint
use Rattle.law_crashes.specs.Records.{Call, Work, answered, begun_of, owed, played_all}

-- ---- steps

pub data Step (S : Type 0) : Type 0 where
  -- a client begins under these keys, and draws its words from here; the client of this number, counted from 1, does something
  Begins : (keys : Keys) (draw : S) → Step S
  Does : (number : ℕ) (deed : Deed) → Step S
  -- a call of the server is answered
  Answers : (call : Call) → Step S
  -- a run for which there is no memory once its begin is recorded: nothing else is done
  Spares : (now place : ℕ) → Step S
  -- A crash, inside a call or between calls, which leaves so many of the records that the call owes; and the server is opened
  -- again at this moment. A call that came to a fault of the disk is one that was cut off: nothing is done behind it before the
  -- next opening. A crash inside an opening leaves what that found, or what it leaves. What clients do between the crash and the
  -- opening stands in front of this step.
  Crashes : (call : Option Call) (left now : ℕ) → Step S

-- ---- what records tell

-- the greatest moment that a server was given by these records
abbrev pub moment_by : ℕ → ℕ → Event (List ℕ) → ℕ
moment_by before moment (recorded.Begin place) = before
moment_by before moment event = moment

abbrev pub moment_in : List Record → ℕ
moment_in entries = fold (λ before entry. moment_by before entry.moment entry.event) 0 entries

-- the job whose run began in the last of them
abbrev pub begun_in : List Record → Option ℕ
begun_in entries = fold (λ before entry. begun_of entry.event) None entries

-- ---- a server with a journal, and its clients

-- A joint run, and the records that the journal has. The starts of its server are lives of the service.
pub record Living (S V : Type 0) : Type 0 where
  pub joint : Joint S V
  pub records : List Record

-- the records that a call under way owes
abbrev pub owed_under_way : {S V : Type 0} → Setting S V → (S → ℕ) → Option Call → World S V → List Record
owed_under_way setting place_of None world = []
owed_under_way setting place_of (Some call) world = owed setting place_of call world

-- another life: the service is fresh, and the server has its sessions, and the moment that its records tell
abbrev pub another_life : {S V : Type 0} → Setting S V → ℕ → World S V → World S V
another_life setting moment world =
    record world { start = suc world.start; service = setting.fresh; server = record world.server { now = moment } }

-- A crash that leaves the first ones of some records behind those from before, and the opening behind it: what is left was
-- done and nothing else, and a run that began in the last record is cut off.
abbrev pub opened_with : {S V : Type 0} → Setting S V → (S → ℕ) → ℕ → List Record → Living S V → Living S V
opened_with setting place_of now front living =
    let kept = living.records ++ front in
    let there = played_all setting (record { world = living.joint.world; begun = begun_in living.records }) front in
    let again = another_life setting (moment_in kept) there.world in
    let ending = ending_by (moment_of now) (moment_in kept) (place_of again.draw) there.begun in
    let opened = played_all setting (record { world = again; begun = there.begun }) ending in
    record { joint = record living.joint { world = opened.world }; records = kept ++ ending }

-- ---- all steps

abbrev pub goes_on : {S V : Type 0} → Setting S V → (S → ℕ) → Living S V → Step S → Living S V
goes_on setting place_of living (Begins keys draw) = record living { joint = steps_on setting living.joint (joint.Begins keys draw) }
goes_on setting place_of living (Does number deed) = record living { joint = steps_on setting living.joint (joint.Does number deed) }
goes_on setting place_of living (Answers call) =
    record {
      joint = record living.joint { world = answered setting call living.joint.world };
      records = living.records ++ owed setting place_of call living.joint.world;
    }
goes_on setting place_of living (Spares now place) =
    record living { records = living.records ++ take 1 (owed setting place_of (Work now place) living.joint.world) }
goes_on setting place_of living (Crashes call left now) =
    opened_with setting place_of now (take left (owed_under_way setting place_of call living.joint.world)) living

-- it begins with a journal without records, a server that has drawn nothing, and no client
abbrev pub created : {S V : Type 0} → Setting S V → S → Living S V
created setting draw = record { joint = nobody_yet setting draw; records = [] }

abbrev pub living_from : {S V : Type 0} → Setting S V → (S → ℕ) → Living S V → List (Step S) → Living S V
living_from setting place_of living steps = fold (goes_on setting place_of) living steps

abbrev pub living_of : {S V : Type 0} → Setting S V → (S → ℕ) → S → List (Step S) → Living S V
living_of setting place_of draw steps = living_from setting place_of (created setting draw) steps
