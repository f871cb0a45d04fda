-- Runs of `serve`, and of `call` and `pair`, that are together one joint run.
use Rattle.std.specs.Prelude.{◌≡◌, ◌<◌, ◌≤◌, ◌^◌, ℕ, Option, Some, None, IfSome, List, [], ◌∷◌, ◌++◌, map}
use Rattle.std.specs.List.{AllByRecursion}
use Rattle.auth_keys.specs.Keys.{identifier}
use Rattle.auth_keys.specs.Rings.{entry_of, key_in}
use Rattle.auth_keys.specs.declared.ring.RingKey.{RingKey}
use Rattle.call_script.specs.Scripts.{Spells}
use Rattle.call_script.specs.declared.script.ScriptCall.{ScriptCall}
use Rattle.client_core.specs.Flushed.{binding_under}
use Rattle.client_core.specs.Keys.{Keys}
use Rattle.client_node.specs.Talks as client
use Rattle.client_node.specs.Course.{Course, Opening}
use Rattle.client_rules.specs.Client.{Client}
use Rattle.cmd_call.specs.Keys.{client_under, keys_for}
use Rattle.cmd_call.specs.Reading.{reading_under}
use Rattle.cmd_call.specs.Script.{given_all, untaken}
use Rattle.cmd_serve.specs.Connections.{AreConnections, Between, Connection, EndsBy, behind_all}
use Rattle.cmd_serve.specs.Packets.{outside_of}
use Rattle.cmd_serve.specs.Runs.{Course as ServeCourse, Deaf, IsBroken, Mute, Refused, Registers, Serves, Shut, Unbegun, Unread}
use Rattle.draws.specs.Draws.{draw_after, word_after}
use Rattle.envelope.specs.Lock.{mt_lock}
use Rattle.msg_ids.specs.Moments.{latest_moment}
use Rattle.regs_service.specs.Registers as registers
use Rattle.ring_rules.specs.Binding.{keys_of}
use Rattle.ring_rules.specs.Opening.{opened}
use Rattle.ring_rules.specs.Sealing.{packet_under}
use Rattle.server_rules.specs.Server.{fresh_server}
use Rattle.server_node.specs.Trace.{Act, Attach, Hear, Run, Tick, rules_of}
use Rattle.world_rules.specs.Setting.{Setting}
use Rattle.world_rules.specs.World.{Seat, World}
use Rattle.law_connections.specs.Joint.{Deed, Step, Flushes, Hears}
use Rattle.law_runs.specs.Acts.{run_acts}
use Rattle.law_runs.specs.Batches.{AreBatches, OneBatch, behind_batches}
use Rattle.law_runs.specs.Deeds.{batches_deeds, given_deeds}
use Rattle.law_runs.specs.Parts.{Part, Start, parts_of, starts_of}

-- ---- in what they run

-- the identifier of the first key of a ring
abbrev pub first_key : List RingKey → ℕ
first_key [] = 0
first_key (entry ∷ entries) = identifier entry.key

-- The protocol's seal under a ring, with the register service. Clients come with the keys that their runs name, so the two keys of
-- a world's setting don't matter: they are the first one of the ring.
abbrev pub setting_under : {D : Type 0} → (D → ℕ × D) → List RingKey → Setting D Registers
setting_under step ring =
    record {
      step = step;
      sealed = λ dir envelope padding. packet_under mt_lock (entry_of envelope.key ring) dir envelope padding;
      opens = opened mt_lock ring;
      keys = record { permanent = first_key ring; temporary = first_key ring; expires = 0 };
      is_temporary = (keys_of ring).is_temporary;
      binding_message = λ perm. binding_under (key_in (entry_of perm ring));
      bound_by = (keys_of ring).bound_by;
      serve = registers.step;
      fresh = registers.fresh;
    }

-- what is drawn are words of 64 bits
abbrev pub AreWords : {D : Type 0} → (D → ℕ × D) → Type 0
AreWords {D = D} step = (draw : D) → (step draw).0 < 2 ^ 64

-- ---- a run of `serve`

-- The connections that a run of `serve` without a journal served with this ring, as `ServeRun.serves` tells of them, with how many
-- there should be and how they ended: one trace from a fresh server and a fresh service on.
pub record Served {D : Type 0} (step : D → ℕ × D) (ring : List RingKey) : Type 0 where
  pub first : Between D Registers
  pub connections : List (Connection D Registers)
  pub conns : ℕ
  pub ending : _
  pub are : AreConnections (rules_of step registers.step (outside_of ring)) first connections
  pub ended : EndsBy conns ending connections
  -- none ended by a journal
  pub whole : IsBroken (Serves ring connections ending) → ⊥
  pub server : first.server ≡ fresh_server
  pub service : first.service ≡ registers.fresh

-- a run of `serve` came to serve connections, with this ring and these connections
abbrev pub IsServing : {D : Type 0} → ServeCourse D → Type 0
IsServing (Serves ring connections ending) = Unit {0}
IsServing Unread = ⊥
IsServing (Refused line) = ⊥
IsServing Unbegun = ⊥
IsServing (Shut ring) = ⊥
IsServing (Deaf ring) = ⊥
IsServing (Mute ring) = ⊥

abbrev pub ring_in : {D : Type 0} → ServeCourse D → List RingKey
ring_in (Serves ring connections ending) = ring
ring_in _ = []

abbrev pub connections_in : {D : Type 0} → ServeCourse D → List (Connection D Registers)
connections_in (Serves ring connections ending) = connections
connections_in _ = []

-- as a start of the server in a joint run
abbrev pub start_by : {D : Type 0} {step : D → ℕ × D} {ring : List RingKey} → Served step ring → Start D
start_by {step = step} {ring = ring} run =
    record { draw = run.first.draw; acts = run_acts (rules_of step registers.step (outside_of ring)) run.first run.connections run.are }

-- ---- a run of `call`, and of `pair`

-- a client under these keys that was given the calls, at the beginning of its first batch
abbrev pub batch_begins : {D : Type 0} → (D → ℕ × D) → Keys → List ScriptCall → D → Course D
batch_begins step keys calls draw =
    record {
      phase = Opening;
      client = given_all calls (client_under keys (word_after step 0 draw));
      draw = draw_after step 1 draw;
    }

abbrev pub client_rules_under : {D : Type 0} → (D → ℕ × D) → List RingKey → client.Rules D
client_rules_under step ring = client.rules_of step mt_lock ring (reading_under ring)

-- What a client did in any number of batches, each going on where the one before it lost its connections: its script spells these
-- calls, and each was taken; its key file is this ring, which has the client's keys; and these are its batches, the last one first.
-- What `CallRun.told` tells of a run of `call` has one batch, and what `PairRun.told` tells of one of `pair` has one or two.
pub record Called {D : Type 0} (step : D → ℕ × D) : Type 0 where
  pub text : List ℕ
  pub calls : List ScriptCall
  pub spelt : Spells text calls
  pub taken : untaken calls ≡ None
  pub ring : List RingKey
  pub key : ℕ
  pub perm : Option ℕ
  pub keys : Keys
  pub found : keys_for ring key perm ≡ Some keys
  pub draw : D
  pub batches : List OneBatch
  pub are : AreBatches (client_rules_under step ring) (batch_begins step keys calls draw) batches

-- the client as its batches left it, whose calls are those of the table
abbrev pub left_by : {D : Type 0} {step : D → ℕ × D} → Called step → Client
left_by {step = step} run = (behind_batches (client_rules_under step run.ring) (batch_begins step run.keys run.calls run.draw) run.batches).client

-- as a client of a joint run
abbrev pub part_by : {D : Type 0} {step : D → ℕ × D} → Called step → Part D
part_by {step = step} run =
    record {
      keys = run.keys;
      draw = run.draw;
      deeds = given_deeds run.calls
          ++ batches_deeds (client_rules_under step run.ring) (batch_begins step run.keys run.calls run.draw) run.batches;
    }

-- ---- together

-- a moment is one that a clock gives
abbrev pub IsTimely : Deed → Type 0
IsTimely (Flushes now) = now ≤ latest_moment
IsTimely (Hears now packet) = now ≤ latest_moment
IsTimely _ = Unit {0}

abbrev pub IsTimelyAct : Act → Type 0
IsTimelyAct (Hear now packet) = now ≤ latest_moment
IsTimelyAct (Attach now name) = now ≤ latest_moment
IsTimelyAct (Tick now) = now ≤ latest_moment
IsTimelyAct (Run now) = now ≤ latest_moment

-- No moment of these runs is past the latest; what runs tell of moments doesn't bound them.
pub record AreTimely {D : Type 0} {step : D → ℕ × D} {ring : List RingKey} (served : List (Served step ring)) (called : List (Called step)) : Type 0 where
  pub clients : AllByRecursion (λ run. AllByRecursion IsTimely (part_by run).deeds) called
  pub servers : AllByRecursion (λ run. AllByRecursion IsTimelyAct (start_by run).acts) served

-- The server's ring has the keys under which the client acts, as the client's own ring has them. What else either has doesn't matter.
pub record Shares (ring own : List RingKey) (keys : Keys) : Type 0 where
  pub key : entry_of keys.key own ≡ entry_of keys.key ring
  pub perm : IfSome keys.bound_to (λ one. entry_of one.perm own ≡ entry_of one.perm ring)

-- A start of the server did a front of what another one does, and a client did: all of it, or it was stopped from outside there.
pub record IsStartOf {D : Type 0} (start whole : Start D) : Type 0 where
  pub draw : start.draw ≡ whole.draw
  pub rest : List Act
  pub acts : whole.acts ≡ start.acts ++ rest

pub record IsPartOf {D : Type 0} (part whole : Part D) : Type 0 where
  pub keys : part.keys ≡ whole.keys
  pub draw : part.draw ≡ whole.draw
  pub rest : List Deed
  pub deeds : whole.deeds ≡ part.deeds ++ rest

-- so it is with each of them, in order
abbrev pub AreStartsOf : {D : Type 0} {step : D → ℕ × D} {ring : List RingKey} → List (Start D) → List (Served step ring) → Type 0
AreStartsOf [] [] = Unit {0}
AreStartsOf [] (run ∷ served) = ⊥
AreStartsOf (start ∷ starts) [] = ⊥
AreStartsOf (start ∷ starts) (run ∷ served) = IsStartOf start (start_by run) × AreStartsOf starts served

abbrev pub ArePartsOf : {D : Type 0} {step : D → ℕ × D} → List (Part D) → List (Called step) → Type 0
ArePartsOf [] [] = Unit {0}
ArePartsOf [] (run ∷ called) = ⊥
ArePartsOf (part ∷ parts) [] = ⊥
ArePartsOf (part ∷ parts) (run ∷ called) = IsPartOf part (part_by run) × ArePartsOf parts called

-- These steps are what the runs of `serve` did, one after the other, and what the runs of `call` and `pair` did, in some order: each
-- end's part is what its run tells, or a front of that. The runs of `serve` stand with the last one first, and share one ring. Of the
-- bytes that came between them nothing is said here: `NoChance` says which of them may open.
pub record AreJoint {D : Type 0} (step : D → ℕ × D) (ring : List RingKey) (draw : D) (served : List (Served step ring)) (called : List (Called step)) (steps : List (Step D)) : Type 0 where
  pub servers : AreStartsOf (starts_of draw steps) served
  pub clients : ArePartsOf (parts_of steps) called
  pub keyed : AllByRecursion (λ run. Shares ring run.ring run.keys) called

-- each part is all that its run tells
pub record AreWhole {D : Type 0} {step : D → ℕ × D} {ring : List RingKey} (draw : D) (served : List (Served step ring)) (called : List (Called step)) (steps : List (Step D)) : Type 0 where
  pub servers : starts_of draw steps ≡ map (λ run. start_by run) served
  pub clients : parts_of steps ≡ map (λ run. part_by run) called

-- each client of the world is the one that its run left
abbrev pub AreLeft : {D : Type 0} {step : D → ℕ × D} → List (Called step) → List Seat → Type 0
AreLeft [] [] = Unit {0}
AreLeft [] (seat ∷ seats) = ⊥
AreLeft (run ∷ called) [] = ⊥
AreLeft (run ∷ called) (seat ∷ seats) = (seat.client ≡ left_by run) × AreLeft called seats

-- the server of the world, with its service, is the one that the last run of `serve` left
abbrev pub IsServerLeft : {D : Type 0} {step : D → ℕ × D} {ring : List RingKey} → List (Served step ring) → World D Registers → Type 0
IsServerLeft [] world = ⊥
IsServerLeft (run ∷ earlier) world =
    (world.server ≡ (behind_all run.first run.connections).server) × (world.service ≡ (behind_all run.first run.connections).service)
