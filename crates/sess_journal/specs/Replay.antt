-- What records say of a server: which of them are lawful in their places, and the server that they leave.
use Rattle.std.specs.Prelude.{◌≡◌, ℕ, ◌≤◌, ◌<◌, codes, false, Option, Some, None, List, [], ◌∷◌}
use Rattle.auth_keys.specs.declared.ring.RingKey.{RingKey}
use Rattle.envelope.specs.declared.parts.Dir.TheVariants.{Up}
use Rattle.envelope.specs.declared.parts.Envelope.{Envelope as Sealed}
use Rattle.envelope.specs.Opening.{Opens}
use Rattle.envelope.specs.Packet.{Lock}
use Rattle.msg_ids.specs.Moments.{moment_of}
use Rattle.regs_service.specs.Served.{Step}
use Rattle.ring_rules.specs.Binding.{keys_of}
use Rattle.sess_records.specs.declared.records.Event.{Event}
use Rattle.sess_records.specs.declared.records.Event.TheVariants.{Packet, Tick, Attach, Begin, Ran, Interrupted}
use Rattle.sess_records.specs.declared.records.Record.{Record}
use Rattle.server_core.specs.Packets.{brought_in}
use Rattle.server_rules.specs.Answer.{Answer, after_attach, after_packet, after_tick, after_work}
use Rattle.server_rules.specs.Event.{Entry, Setting}
use Rattle.server_rules.specs.Server.{Server, fresh_server}
use Rattle.server_rules.specs.Speaking.{error}
use Rattle.server_session.specs.Says.{setting_of}
use Rattle.waits.specs.Jobs.{ready_count}

-- ---- what a replay stands on

-- the lock and the keys under which packets open, how words are drawn, the draw of the journal's seed at a place, and the
-- place of a draw
pub record Basis (S : Type 0) : Type 0 where
  pub lock : Lock
  pub keys : List RingKey
  pub step : S → ℕ × S
  pub at : ℕ → S
  pub place_of : S → ℕ

-- the same for a server's seal and a journal's seed
abbrev pub Bases : Type 0 → Type 0 → Type 0
Bases K S = K → List ℕ → Basis S

abbrev pub bases_of : {K S : Type 0} → Lock → (K → List RingKey) → (S → ℕ × S) → (List ℕ → ℕ → S) → (S → ℕ) → Bases K S
bases_of lock keys step standing_at place_of seal seed =
    record { lock = lock; keys = keys seal; step = step; at = standing_at seed; place_of = place_of }

-- what records have come to: the server, the draw's place, and the job whose run began in the last of them
pub record Reached : Type 0 where
  pub server : Server
  pub place : ℕ
  pub begun : Option ℕ

-- before the first record
abbrev pub at_first : Reached
at_first = record { server = fresh_server; place = 0; begun = None }

-- ---- the event of a record

-- It is one of this moment, where one past the latest counts as the latest, under the ring's keys.
abbrev pub setting_at : {S : Type 0} → Basis S → ℕ → Setting S
setting_at basis moment = setting_of (moment_of moment) basis.step (keys_of basis.keys)

-- what it leaves: the server, and the place of the draw
abbrev pub reached_by : {S : Type 0} → Basis S → Answer S → Reached
reached_by basis answer = record { server = answer.server; place = basis.place_of answer.draw; begun = None }

-- a service that gives one reply, whatever it is asked
abbrev pub always : Step (List ℕ)
always reply request = (reply, reply)

-- the ready job of this place has run with this reply
abbrev pub after_reply : {S : Type 0} → Setting S → ℕ → List ℕ → Server → S → Answer S
after_reply setting job reply server draw = (after_work setting job always reply server draw).0

-- `rpc_error`, 500 and `RUN_INTERRUPTED`, for a run that was cut off
abbrev pub run_interrupted : List ℕ
run_interrupted = error 500 (codes "RUN_INTERRUPTED")

-- the first entry is that of the job, which counts as one that didn't run
abbrev pub unran : List Entry → List Entry
unran [] = []
unran (entry ∷ entries) = record entry { ran = false } ∷ entries

-- the ready job of this place was cut off
abbrev pub after_interruption : {S : Type 0} → Setting S → ℕ → Server → S → Answer S
after_interruption setting job server draw =
    let answer = after_reply setting job run_interrupted server draw in
    record answer { entries = unran answer.entries }

-- What the event of a record, at its moment and with the words from its place on, gives to a server. A begin is none.
abbrev pub Happens : {S : Type 0} → Basis S → ℕ → ℕ → Event (List ℕ) → Reached → Answer S → Type 0
Happens basis moment place (Packet packet) reached answer =
    (envelope : Sealed) × Opens basis.lock basis.keys (moment_of moment) Up packet envelope
    × (answer ≡ after_packet (setting_at basis moment) (brought_in envelope) reached.server (basis.at place))
Happens basis moment place Tick reached answer = answer ≡ after_tick (setting_at basis moment) reached.server (basis.at place)
Happens basis moment place (Attach key session) reached answer =
    answer ≡ after_attach (setting_at basis moment) (record { key = key; session = session }) reached.server (basis.at place)
Happens basis moment place (Begin job) reached answer = ⊥
Happens basis moment place (Ran reply) reached answer =
    (job : ℕ) × (reached.begun ≡ Some job) × (answer ≡ after_reply (setting_at basis moment) job reply reached.server (basis.at place))
Happens basis moment place Interrupted reached answer =
    (job : ℕ) × (reached.begun ≡ Some job) × (answer ≡ after_interruption (setting_at basis moment) job reached.server (basis.at place))

-- ---- records

-- What is reached by a record: by a begin, which has one of the ready jobs, nothing but that it stands last; else by its event.
abbrev pub LeadsTo : {S : Type 0} → Basis S → ℕ → ℕ → Event (List ℕ) → Reached → Reached → Type 0
LeadsTo basis moment place (Begin job) before after =
    (job < ready_count before.server.jobs) × (after ≡ record before { begun = Some job })
LeadsTo {S} basis moment place event before after =
    (answer : Answer S) × Happens basis moment place event before answer × (after ≡ reached_by basis answer)

-- A record is lawful behind the records that came to the first of these, and comes to the second with them: its moment and
-- its draw's place aren't below theirs, and its event may happen there.
pub record Plays {S : Type 0} (basis : Basis S) (entry : Record) (before after : Reached) : Type 0 where
  pub moment : before.server.now ≤ entry.moment
  pub place : before.place ≤ entry.place
  pub leads : LeadsTo basis entry.moment entry.place entry.event before after

-- it is lawful there
abbrev pub IsLawful : {S : Type 0} → Basis S → Record → Reached → Type 0
IsLawful basis entry before = (after : Reached) × Plays basis entry before after

-- each of the records is lawful in its place, and they lead from the first of these to the second
abbrev pub Replays : {S : Type 0} → Basis S → List Record → Reached → Reached → Type 0
Replays basis [] before after = after ≡ before
Replays basis (entry ∷ entries) before after =
    (between : Reached) × Plays basis entry before between × Replays basis entries between after
