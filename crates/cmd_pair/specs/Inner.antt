-- Words of private contracts, which are no promise of this crate.
use Rattle.std.specs.Prelude.{◌≡◌, ◌≢◌, ◌⊎◌, ℕ, ◌<◌, ◌+◌, Some, None, Result, Ok, Err, List, [], ◌∷◌, length, ⊤}
use Rattle.auth_keys.specs.declared.ring.RingKey.{RingKey}
use Rattle.call_script.specs.declared.script.ScriptCall.{ScriptCall}
use Rattle.cmd_call.specs.Keys.{client_under, keys_for}
use Rattle.cmd_call.specs.Owed.{Around, FileFault, Files, Gave, IsRead, begins}
use Rattle.cmd_call.specs.Script.{given_all, untaken}
use Rattle.call_script.specs.Scripts.{HasBadLine}
use Rattle.client_core.specs.Keys.{HasKeys as HasKeysOf, Keys, keys_in}
use Rattle.client_core.specs.Kept.{Contents, Stands}
use Rattle.client_core.specs.declared.holder.Holder.{Holder}
use Rattle.client_node.specs.Course.{Course}
use Rattle.client_node.specs.Trace.{after_all}
use Rattle.client_node.specs.declared.plan.Batch.{Batch}
use Rattle.client_node.specs.declared.plan.Batch.TheVariants as batch
use Rattle.client_rules.specs.Asking.{Fault}
use Rattle.commands.specs.declared.command.PairOptions.{PairOptions}
use Rattle.draws.specs.Draws.{draw_after, word_after}
use Rattle.key_files.specs.Files.{IsRefusedAt}
use Rattle.mt_edge.specs.declared.act.Act.TheVariants.{Ready, Failed as NotDone}
use Rattle.mt_edge.specs.declared.kid_call.KidCall.{KidCall}
use Rattle.mt_edge.specs.declared.kid_call.KidCall.TheVariants as call
use Rattle.mt_edge.specs.declared.spawner.Line.{Line}
use Rattle.statuses.specs.Lines.{input_bytes_max}
use Rattle.statuses.specs.Outside.{HadFault, IfTold, Outside}
use Rattle.statuses.specs.declared.answer.Answer.{Answer}
use Rattle.statuses.specs.declared.status.Status.{Status}
use Rattle.cmd_pair.specs.Batches.{Halts, IsBatch, LostFirst, OwesPair, plan_at, rules_for}
use Rattle.cmd_pair.specs.Checks.{HasKeys, HasRing, HasScript, IsReady, Refusal, Refuses, drawn_by, status_of, text_of}
use Rattle.cmd_pair.specs.Checks as checks
use Rattle.cmd_pair.specs.Runs.{IsAside}
use Rattle.cmd_pair.specs.Servers.{AreBoth, FailsNever, FailsOnce, GoesOn, IsFrontOf, Kids, Made, WasServed, asks, first_words}
use Rattle.cmd_pair.specs.declared.halt.Halt.{Halt}
use Rattle.cmd_pair.specs.declared.halt.Halt.TheVariants as halts
use Rattle.cmd_pair.specs.declared.halt.KidFault.{KidFault}
use Rattle.cmd_pair.specs.declared.halt.KidFault.TheVariants as faults

-- ---- the checks

-- it tells this refusal
abbrev pub Told : Refusal → Answer → Type 0
Told refusal answer = (answer.status ≡ status_of refusal) × (answer.text ≡ text_of refusal)

-- the text is no script
abbrev pub HaltsAtText : List ℕ → Halt → Type 0
HaltsAtText text (halts.Refused answer) = (line : ℕ) × HasBadLine text line × Told (checks.BadLine line) answer
HaltsAtText text halts.ReadFault = ⊥
HaltsAtText text halts.Memory = ⊤

-- the input is no script
abbrev pub HaltsAtScript : {S : Type 0} → Outside S → Halt → Type 0
HaltsAtScript input (halts.Refused answer) =
    (IfTold input (λ text. input_bytes_max < length text) × Told checks.TooLong answer)
    ⊎ ((line : ℕ) × (text : List ℕ) × IsRead input text × HasBadLine text line × Told (checks.BadLine line) answer)
HaltsAtScript input halts.ReadFault = HadFault input
HaltsAtScript input halts.Memory = ⊤

-- the key file is no ring
abbrev pub HaltsAtFile : {F : Type 0} → PairOptions → Files F → Halt → Type 0
HaltsAtFile options files (halts.Refused answer) =
    (FileFault files × Told checks.Unread answer)
    ⊎ ((line : ℕ) × (text : List ℕ) × Gave options.keys files text × IsRefusedAt text line × Told (checks.BadFile line) answer)
HaltsAtFile options files halts.ReadFault = ⊥
HaltsAtFile options files halts.Memory = ⊤

-- the ring lacks the key, or a call isn't taken
abbrev pub HaltsAtCalls : {D : Type 0} → PairOptions → List ScriptCall → List RingKey → (D → ℕ × D) → D → D → Halt → Type 0
HaltsAtCalls options calls ring step draw draw_then (halts.Refused answer) =
    ((keys_for ring options.key None ≡ None) × (draw_then ≡ draw) × Told checks.NoKey answer)
    ⊎ ((line : ℕ) × (fault : Fault) × (keys : Keys) × HasKeys options ring keys × (untaken calls ≡ Some (line, fault))
    × (draw_then ≡ draw_after step 1 draw) × Told (checks.Untaken line fault) answer)
HaltsAtCalls options calls ring step draw draw_then halts.ReadFault = ⊥
HaltsAtCalls options calls ring step draw draw_then halts.Memory = ⊤

-- a client that was given the calls, under the keys of the ring
pub record IsGiven {D : Type 0} (options : PairOptions) (calls : List ScriptCall) (ring : List RingKey) (step : D → ℕ × D) (draw draw_then : D) (client : Contents) : Type 0 where
  pub keys : Keys
  pub found : HasKeys options ring keys
  pub taken : untaken calls ≡ None
  pub stands : Stands client (given_all calls (client_under keys (word_after step 0 draw)))
  pub drawn : draw_then ≡ draw_after step 1 draw
  pub has : HasKeysOf ring (keys_in client)

-- why there is no such client
abbrev pub HaltsBefore : {S F D : Type 0} → PairOptions → Outside S → Files F → (D → ℕ × D) → D → D → Halt → Type 0
HaltsBefore options input files step draw draw_then (halts.Refused answer) =
    (refusal : Refusal) × Refuses options input files refusal × (draw_then ≡ drawn_by refusal step draw) × Told refusal answer
HaltsBefore options input files step draw draw_then halts.ReadFault = HadFault input × (files.after ≡ files.before) × (draw_then ≡ draw)
HaltsBefore options input files step draw draw_then halts.Memory = ⊤

-- there is one, by what was read
pub record IsTaken {S F D : Type 0} (options : PairOptions) (input : Outside S) (files : Files F) (step : D → ℕ × D) (draw draw_then : D) (ring : List RingKey) (client : Contents) : Type 0 where
  pub calls : List ScriptCall
  pub script : HasScript input calls
  pub file : HasRing options files ring
  pub given : IsGiven options calls ring step draw draw_then client

-- ---- one server

-- it was started, and a line of it was read
pub record WasBegun (words : List (List ℕ)) (made : List KidCall) : Type 0 where
  pub line : Line
  pub goes_on : GoesOn line
  pub are : made ≡ call.Start words Ready ∷ call.Line line ∷ []

-- where a call of the spawner failed it is a child fault, and where memory ran out none did; the calls are a front of those that are
-- asked for a server
abbrev pub StopsBy : {P : Type 0} → List (List ℕ) → Kids P → KidFault → Type 0
StopsBy words kids faults.Failed = Made kids (IsFrontOf (asks words)) × FailsOnce kids
StopsBy words kids faults.Memory = FailsNever kids

abbrev pub BeginsBy : {P : Type 0} → List (List ℕ) → Result Unit KidFault → Kids P → Type 0
BeginsBy words (Ok done) kids = Made kids (WasBegun words) × FailsNever kids
BeginsBy words (Err fault) kids = StopsBy words kids fault

abbrev pub ServesBy : {X P : Type 0} → List (List ℕ) → Result X KidFault → Kids P → Type 0
ServesBy words (Ok done) kids = Made kids (WasServed words) × FailsNever kids
ServesBy words (Err fault) kids = StopsBy words kids fault

-- it was waited for after its batch, or memory had run out in that
abbrev pub WaitsBy : {X P : Type 0} → Result X KidFault → Kids P → Type 0
WaitsBy (Ok done) kids = Made kids (λ made. made ≡ call.Wait Ready ∷ []) × FailsNever kids
WaitsBy (Err faults.Failed) kids = Made kids (λ made. (made ≡ call.Wait NotDone ∷ []) ⊎ (made ≡ [])) × FailsOnce kids
WaitsBy (Err faults.Memory) kids = kids.after ≡ kids.before

-- ---- both

abbrev pub PairBy : {N C D P : Type 0} → PairOptions → List RingKey → Course D → Around N C D → Kids P → Result (Holder × Batch) KidFault → Type 0
PairBy options ring course around kids (Ok done) =
    (IsBatch ring options.port course around done.1 done.0 × (done.1 ≢ batch.LinkLost) × Made kids (WasServed (first_words options)))
    ⊎ ((first : LostFirst options ring course around)
    × IsBatch ring (options.port + 1) (after_all (rules_for around.step ring) (plan_at options.port) course first.trace.attempts)
    (record around { net = first.net; clock = first.clock; draw = first.draw }) done.1 done.0
    × Made kids (AreBoth options))
PairBy options ring course around kids (Err faults.Failed) = Halts options ring course around kids × FailsOnce kids
PairBy options ring course around kids (Err faults.Memory) = ⊤

-- ---- a run, before anything is written

pub record IsOwed {S F N C D P : Type 0} (options : PairOptions) (input : Outside S) (files : Files F) (around : Around N C D) (kids : Kids P) (one : Status) (due : List ℕ) : Type 0 where
  pub calls : List ScriptCall
  pub ring : List RingKey
  pub keys : Keys
  pub ready : IsReady options input files calls ring keys
  pub owed : OwesPair options ring (begins keys calls around) around kids one due

abbrev pub HaltsRun : {S F N C D P : Type 0} → PairOptions → Outside S → Files F → Around N C D → Kids P → Halt → Type 0
HaltsRun options input files around kids (halts.Refused answer) =
    (refusal : Refusal) × Refuses options input files refusal × (around.draw_then ≡ drawn_by refusal around.step around.draw) × Told refusal answer × IsAside around kids
HaltsRun options input files around kids halts.ReadFault =
    HadFault input × (files.after ≡ files.before) × (around.draw_then ≡ around.draw) × IsAside around kids
HaltsRun options input files around kids halts.Memory = ⊤
