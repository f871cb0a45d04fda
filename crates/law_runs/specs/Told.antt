-- What the clauses of `serve`, `call` and `pair` tell, as runs in a joint run.
use Rattle.std.specs.Prelude.{◌≡◌, ℕ, List, []}
use Rattle.auth_keys.specs.declared.ring.RingKey.{RingKey}
use Rattle.call_script.specs.declared.script.ScriptCall.{ScriptCall}
use Rattle.client_core.specs.Keys.{Keys}
use Rattle.client_node.specs.Course as client
use Rattle.client_node.specs.declared.plan.Batch.TheVariants as batch
use Rattle.cmd_call.specs.Owed.{Around, LeftBatch, RanBatch, plan_of}
use Rattle.cmd_pair.specs.Batches.{LastBatch, LostFirst, plan_at}
use Rattle.cmd_serve.specs.Packets.{outside_of}
use Rattle.cmd_serve.specs.Runs.{Course, Draws, Moments, Serves, ServesBy, first_of}
use Rattle.commands.specs.declared.command.CallOptions.{CallOptions}
use Rattle.commands.specs.declared.command.PairOptions.{PairOptions}
use Rattle.commands.specs.declared.command.ServeOptions.{ServeOptions}
use Rattle.regs_service.specs.Registers as registers
use Rattle.server_node.specs.Trace.{Act, rules_of}
use Rattle.statuses.specs.declared.status.Status.{Status}
use Rattle.law_runs.specs.Acts.{run_acts}
use Rattle.law_runs.specs.Batches.{OneBatch}
use Rattle.law_runs.specs.Joining.{Called}

-- ---- of `serve`

-- the events of the server in the trace that is told of a run of `serve`
abbrev pub acts_told : {D : Type 0} (step : D → ℕ × D) (options : ServeOptions) (moments : Moments) (draws : Draws D) (course : Course D) → ServesBy step options moments draws course → List Act
acts_told step options moments draws (Serves ring connections ending) served =
    run_acts (rules_of step registers.step (outside_of ring)) (first_of options moments draws.before) connections served.are
acts_told step options moments draws _ served = []

-- ---- of `call` and `pair`

-- the run is one with these calls, this ring and these keys, that drew from there
pub record IsCall {N C D : Type 0} {step : D → ℕ × D} (run : Called step) (calls : List ScriptCall) (ring : List RingKey) (keys : Keys) (around : Around N C D) : Type 0 where
  pub calls_are : run.calls ≡ calls
  pub ring_is : run.ring ≡ ring
  pub keys_are : run.keys ≡ keys
  pub draw_is : run.draw ≡ around.draw

-- the batch of `call` that is told, with the attempts of its trace
abbrev pub batch_ran : {N C D : Type 0} {options : CallOptions} {calls : List ScriptCall} {ring : List RingKey} {keys : Keys} {around : Around N C D} {one : Status} {due : List ℕ}
    → RanBatch options calls ring keys around one due → OneBatch
batch_ran {options = options} ran = record { plan = plan_of options; end = ran.end; attempts = ran.trace.attempts }

-- the one that was left where memory ran out
abbrev pub batch_left : {N C D : Type 0} {options : CallOptions} {calls : List ScriptCall} {ring : List RingKey} {keys : Keys} {around : Around N C D}
    → LeftBatch options calls ring keys around → OneBatch
batch_left {options = options} left = record { plan = plan_of options; end = left.end; attempts = left.trace.attempts }

-- the last batch of `pair`
abbrev pub batch_last : {N C D : Type 0} {ring : List RingKey} {port : ℕ} {course : client.Course D} {around : Around N C D} {one : Status} {due : List ℕ}
    → LastBatch ring port course around one due → OneBatch
batch_last {port = port} last = record { plan = plan_at port; end = last.end; attempts = last.trace.attempts }

-- its first one, which lost its connection
abbrev pub batch_lost : {N C D : Type 0} {options : PairOptions} {ring : List RingKey} {course : client.Course D} {around : Around N C D} → LostFirst options ring course around → OneBatch
batch_lost {options = options} lost = record { plan = plan_at options.port; end = batch.LinkLost; attempts = lost.trace.attempts }
