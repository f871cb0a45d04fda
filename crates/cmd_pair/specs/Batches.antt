-- The batches over the servers, one after the other, and what is told of the last one.
use Rattle.std.specs.Prelude.{◌≡◌, ◌≢◌, ◌⊎◌, ℕ, ◌+◌, false, codes, List}
use Rattle.auth_keys.specs.declared.ring.RingKey.{RingKey}
use Rattle.cmd_call.specs.Owed.{Around, HasCause}
use Rattle.cmd_call.specs.Reading.{reading_under}
use Rattle.cmd_call.specs.Table.{TellsBatch}
use Rattle.client_core.specs.declared.holder.Holder.{Holder}
use Rattle.client_node.specs.Course.{Course}
use Rattle.client_node.specs.Talks.{Rules, rules_of}
use Rattle.client_node.specs.Trace.{ClientTrace, after_all}
use Rattle.client_node.specs.declared.plan.Batch.{Batch}
use Rattle.client_node.specs.declared.plan.Batch.TheVariants as batch
use Rattle.client_node.specs.declared.plan.Plan.{Plan}
use Rattle.client_rules.specs.Client.{Client, calls_of}
use Rattle.commands.specs.declared.command.PairOptions.{PairOptions}
use Rattle.envelope.specs.Lock.{mt_lock}
use Rattle.statuses.specs.declared.status.Status.{Status}
use Rattle.statuses.specs.declared.status.Status.TheVariants as status
use Rattle.transport.specs.declared.form.Form.TheVariants.{Intermediate}
use Rattle.cmd_pair.specs.Servers.{AreBoth, FailsOnce, IsFrontOf, IsSecondFront, Kids, Made, WasServed, asks, first_words}

-- ---- one batch

-- over the server on this port: in the intermediate form, without obfuscation and without retries
abbrev pub plan_at : ℕ → Plan
plan_at port = record { port = port; form = Intermediate; obfuscate = false; retries = 0 }

-- the rules under which its events go, with the keys of a ring
abbrev pub rules_for : {D : Type 0} → (D → ℕ × D) → List RingKey → Rules D
rules_for step ring = rules_of step mt_lock ring (reading_under ring)

-- it was run from this course and ended so, and left this client: what it did is the trace of that client
abbrev pub IsBatch : {N C D : Type 0} → List RingKey → ℕ → Course D → Around N C D → Batch → Holder → Type 0
IsBatch ring port course around end kept =
    ClientTrace (rules_for around.step ring) (plan_at port) course end (around.calls around.net) (around.calls around.net_then)
    (around.given around.clock) (around.given around.clock_then) kept around.draw_then

-- The last one: it ended so, and what became of the calls is told. Each status has its cause in this batch.
pub record LastBatch {N C D : Type 0} (ring : List RingKey) (port : ℕ) (course : Course D) (around : Around N C D) (one : Status) (due : List ℕ) : Type 0 where
  pub end : Batch
  pub kept : Holder
  pub trace : IsBatch ring port course around end kept
  -- the client as the batch left it
  pub left : Client
  pub its : left ≡ (after_all (rules_for around.step ring) (plan_at port) course trace.attempts).client
  pub told : TellsBatch end (calls_of left) one due
  pub cause : HasCause (rules_for around.step ring) (plan_at port) course trace.attempts left one

-- The first one, whose connection was lost: the client that it left, and net, clock and draw behind it.
pub record LostFirst {N C D : Type 0} (options : PairOptions) (ring : List RingKey) (course : Course D) (around : Around N C D) : Type 0 where
  pub kept : Holder
  pub net : N
  pub clock : C
  pub draw : D
  pub trace : IsBatch ring options.port course (record around { net_then = net; clock_then = clock; draw_then = draw }) batch.LinkLost kept

-- ---- both

-- the first batch is the last one, and the first server the only one
pub record OverOne {N C D P : Type 0} (options : PairOptions) (ring : List RingKey) (course : Course D) (around : Around N C D) (kids : Kids P) (one : Status) (due : List ℕ) : Type 0 where
  pub last : LastBatch ring options.port course around one due
  pub not_lost : last.end ≢ batch.LinkLost
  pub children : Made kids (WasServed (first_words options))

-- the first one lost its connection, and the second one goes on with the same client over the second server
pub record OverBoth {N C D P : Type 0} (options : PairOptions) (ring : List RingKey) (course : Course D) (around : Around N C D) (kids : Kids P) (one : Status) (due : List ℕ) : Type 0 where
  pub first : LostFirst options ring course around
  pub last : LastBatch ring (options.port + 1) (after_all (rules_for around.step ring) (plan_at options.port) course first.trace.attempts)
      (record around { net = first.net; clock = first.clock; draw = first.draw }) one due
  pub children : Made kids (AreBoth options)

-- a table is due
abbrev pub RanPair : {N C D P : Type 0} → PairOptions → List RingKey → Course D → Around N C D → Kids P → Status → List ℕ → Type 0
RanPair options ring course around kids one due = OverOne options ring course around kids one due ⊎ OverBoth options ring course around kids one due

-- A call of the spawner failed: for the first server, or, where the first batch lost its connection, for the second one.
abbrev pub Halts : {N C D P : Type 0} → PairOptions → List RingKey → Course D → Around N C D → Kids P → Type 0
Halts options ring course around kids =
    Made kids (IsFrontOf (asks (first_words options))) ⊎ (LostFirst options ring course around × Made kids (IsSecondFront options))

pub record ChildFault {N C D P : Type 0} (options : PairOptions) (ring : List RingKey) (course : Course D) (around : Around N C D) (kids : Kids P) (one : Status) (due : List ℕ) : Type 0 where
  pub said : one ≡ status.NotListening
  pub told : due ≡ codes "child fault\n"
  pub counted : FailsOnce kids
  pub halts : Halts options ring course around kids

abbrev pub OwesPair : {N C D P : Type 0} → PairOptions → List RingKey → Course D → Around N C D → Kids P → Status → List ℕ → Type 0
OwesPair options ring course around kids one due =
    RanPair options ring course around kids one due ⊎ ChildFault options ring course around kids one due
