-- What is told of a client's batch, by its trace.
use Rattle.std.proofs.Common.{◌≡◌, ◌∙◌, inl, inr, ℕ, ◌+◌, ◌<◌, ◌≤◌, Bool, true, false, not, List, [], ◌∷◌, ◌++◌, length, Option, Some, None, IfSome, Result, Ok, Err, IfErr, IfOk, ap, sym, subst, refl, append_assoc, append-nil, length-append, arith}
use Rattle.std.specs.Prelude.{◌↔◌, IsSome, IsSomeAnd}
use Rattle.std.proofs.lemmas.List.Elements.{All-append, All-cons, All-nil}
use Rattle.auth_keys.specs.declared.ring.RingKey.{RingKey}
use Rattle.call_table.specs.Table.{Call}
use Rattle.std.specs.List.{list_any}
use Rattle.call_script.specs.declared.script.ScriptCall.{ScriptCall}
use Rattle.client_core.specs.Keys.{Keys}
use Rattle.client_core.specs.declared.holder.Holder.{Holder}
use Rattle.client_node.specs.Connects.{IsLast, IsLost, Uses}
use Rattle.client_node.specs.Counts.{Counted}
use Rattle.client_node.specs.Course.{Course, Reading, is_decided, is_undecided}
use Rattle.client_node.specs.Standing.{AllDecided, IsOpened, IsReading, StandsFor}
use Rattle.client_node.specs.Talks.{Rules, rules_of}
use Rattle.client_node.specs.Trace.{Attempt, ClientTrace, EndsBy, UndecidedIn, after_all}
use Rattle.client_node.specs.declared.plan.Batch.{Batch}
use Rattle.client_node.specs.declared.plan.Batch.TheVariants as batch
use Rattle.client_node.specs.declared.plan.Plan.{Plan}
use Rattle.client_rules.specs.Client.{Client, calls_of}
use Rattle.commands.specs.declared.command.CallOptions.{CallOptions}
use Rattle.envelope.specs.declared.parts.Dir.{Dir}
use Rattle.envelope.specs.declared.parts.Dir.TheVariants.{Down}
use Rattle.envelope.specs.declared.parts.Envelope.{Envelope}
use Rattle.envelope.specs.Lock.{mt_lock}
use Rattle.envelope.specs.Opening.{Opens}
use Rattle.mt_edge.specs.declared.net_call.NetCall.{NetCall}
use Rattle.mt_edge.specs.declared.net_call.NetCall.TheVariants as net
use Rattle.mt_edge.specs.declared.net_call.Outcome.TheVariants as outcome
use Rattle.ring_rules.specs.Opening.{opened}
use Rattle.octets.specs.declared.memory.Memory.{Memory}
use Rattle.statuses.specs.declared.answer.Answer.{Answer}
use Rattle.statuses.specs.declared.status.Status.{Status}
use Rattle.statuses.specs.declared.status.Status.TheVariants as status
use Rattle.draws.specs.Draws.{word_after}
use Rattle.cmd_call.specs.Inner.{LeftFrom, RanFrom}
use Rattle.cmd_call.specs.Keys.{client_under}
use Rattle.cmd_call.specs.Owed.{Around, HasCause, IsOffline, LastEnds, LeftBatch, LostTooMany, RanBatch, begins, plan_of, rules_under}
use Rattle.cmd_call.specs.Reading.{reading_under}
use Rattle.cmd_call.specs.Runs.{ConnectsAlone, IsConnect, UsesNet}
use Rattle.cmd_call.specs.Script.{given_all, untaken}
use Rattle.cmd_call.specs.Table.{TellsBatch, are_done, decided_status}
use Rattle.cmd_call.proofs.TableLemmas.{done_decided}

-- ---- what packets open to

module _ (law : (ring : List RingKey) (now : ℕ) (dir : Dir) (packet : List ℕ) (envelope : Envelope) → (opened mt_lock ring now dir packet ≡ Some envelope ↔ Opens mt_lock ring now dir packet envelope)) where
  opened-so : (ring : List RingKey) (now : ℕ) (packet : List ℕ) (one : Option Envelope) → opened mt_lock ring now Down packet ≡ one → IsOpened mt_lock ring now packet one
  opened-so ring now packet None is = λ envelope opens. let so = (law ring now Down packet envelope).1 opens in absurd cc
  opened-so ring now packet (Some envelope) is = (law ring now Down packet envelope).0 is

  pub reads_ring : (ring : List RingKey) → IsReading mt_lock ring (reading_under ring)
  reads_ring ring now packet = opened-so ring now packet (opened mt_lock ring now Down packet) refl

-- ---- the net

lost-connects : (port : ℕ) (call : NetCall) → IsLost port call → IsConnect port call
lost-connects port (net.Connect to (outcome.Done told faults)) is = is.0
lost-connects port (net.Connect to outcome.Failed) is = is
lost-connects port (net.Connect to outcome.Open) is = absurd is
lost-connects port (net.Listen to answer) is = absurd is
lost-connects port (net.Accept one) is = absurd is

last-connects : (port : ℕ) (end : Batch) (call : NetCall) → IsLast port end call → IsConnect port call
last-connects port batch.Decided (net.Connect to (outcome.Done told faults)) is = is.0
last-connects port batch.Decided (net.Connect to outcome.Failed) is = absurd is
last-connects port batch.Decided (net.Connect to outcome.Open) is = absurd is
last-connects port batch.Decided (net.Listen to answer) is = absurd is
last-connects port batch.Decided (net.Accept one) is = absurd is
last-connects port batch.LinkLost call is = lost-connects port call is
last-connects port batch.TurnsSpent (net.Connect to (outcome.Done told faults)) is = is.0
last-connects port batch.TurnsSpent (net.Connect to outcome.Failed) is = absurd is
last-connects port batch.TurnsSpent (net.Connect to outcome.Open) is = absurd is
last-connects port batch.TurnsSpent (net.Listen to answer) is = absurd is
last-connects port batch.TurnsSpent (net.Accept one) is = absurd is
last-connects port batch.Spent (net.Connect to (outcome.Done told faults)) is = is.0
last-connects port batch.Spent (net.Connect to outcome.Failed) is = absurd is
last-connects port batch.Spent (net.Connect to outcome.Open) is = absurd is
last-connects port batch.Spent (net.Listen to answer) is = absurd is
last-connects port batch.Spent (net.Accept one) is = absurd is
last-connects port batch.Memory (net.Connect to (outcome.Done told faults)) is = is.0
last-connects port batch.Memory (net.Connect to outcome.Failed) is = absurd is
last-connects port batch.Memory (net.Connect to outcome.Open) is = absurd is
last-connects port batch.Memory (net.Listen to answer) is = absurd is
last-connects port batch.Memory (net.Accept one) is = absurd is

none-made : (port retries : ℕ) (before after : List NetCall) → after ≡ before → ConnectsAlone port retries before after
none-made port retries before after same =
    record { made = []; whole = same ∙ sym (append-nil before); each = All-nil (IsConnect port); most = omega arith }

uses-alone : (plan : Plan) (end : Batch) (before after : List NetCall) → Uses plan end before after → ConnectsAlone plan.port plan.retries before after
uses-alone plan end before after (inl h) = none-made plan.port plan.retries before after h.0
uses-alone plan end before after (inr h) =
    let more : length (h.lost ++ h.last ∷ []) ≡ length h.lost + 1 = length-append h.lost (h.last ∷ []) in
    record {
      made = h.lost ++ h.last ∷ [];
      whole = h.whole ∙ append_assoc before h.lost (h.last ∷ []);
      each = All-append (IsConnect plan.port) h.lost (h.last ∷ []) (λ i d below. lost-connects plan.port _ (h.all_lost i d below)) (All-cons (IsConnect plan.port) h.last [] (last-connects plan.port end h.last h.its) (All-nil (IsConnect plan.port)));
      most = omega (arith, h.most, more);
    }

if-both : {X : Type 0} (o : Option X) (P Q : X → Type 0) → ((x : X) → P x → Q x) → IfSome o P → IfSome o Q
if-both None P Q h p = tt
if-both (Some x) P Q h p = h x p

if-and : {X : Type 0} (o : Option X) (P Q : X → Type 0) → ((x : X) → P x → Q x) → IsSomeAnd o P → IsSomeAnd o Q
if-and None P Q h p = p
if-and (Some x) P Q h p = h x p

pub uses_net : {N C D : Type 0} (options : CallOptions) (around : Around N C D) (end : Batch)
    → IfSome (around.calls around.net_then) (λ after. IsSomeAnd (around.calls around.net) (λ before. Uses (plan_of options) end before after))
    → (IsSome (around.calls around.net) → around.faults around.net ≡ 0 → around.faults around.net_then ≤ 1 → IsSome (around.calls around.net_then))
    → (IsSome (around.calls around.net) → options.retries < around.room around.net → IsSome (around.calls around.net_then))
    → IfSome (around.calls around.net_then) (λ after. IsSomeAnd (around.calls around.net) (λ before. Counted before after (around.faults around.net) (around.faults around.net_then)))
    → UsesNet options around
uses_net options around end uses goes tells counts =
    record {
      connects = if-both (around.calls around.net_then) _ _ (λ after h. if-and (around.calls around.net) _ _ (λ before u. uses-alone (plan_of options) end before after u) h) uses;
      goes_on = goes;
      still_tells = tells;
      counted = counts;
    }

same-calls : (o : Option (List NetCall)) (port retries : ℕ) → IfSome o (λ after. IsSomeAnd o (λ before. ConnectsAlone port retries before after))
same-calls None port retries = tt
same-calls (Some calls) port retries = none-made port retries calls calls refl

none-counted : (calls : List NetCall) (faults : ℕ) → Counted calls calls faults faults
none-counted calls faults = record { made = []; whole = sym (append-nil calls); count = refl }

same-counts : (o : Option (List NetCall)) (faults : ℕ) → IfSome o (λ after. IsSomeAnd o (λ before. Counted before after faults faults))
same-counts None faults = tt
same-counts (Some calls) faults = none-counted calls faults

pub idle_net : {N C D : Type 0} (options : CallOptions) (around : Around N C D) → around.net_then ≡ around.net → UsesNet options around
idle_net options around same =
    record {
      connects = subst (λ one. IfSome (around.calls one) (λ after. IsSomeAnd (around.calls around.net) (λ before. ConnectsAlone options.port options.retries before after))) (sym same) (same-calls (around.calls around.net) options.port options.retries);
      goes_on = λ told none few. subst (λ one. IsSome (around.calls one)) (sym same) told;
      still_tells = λ told room. subst (λ one. IsSome (around.calls one)) (sym same) told;
      counted = subst (λ one. IfSome (around.calls one) (λ after. IsSomeAnd (around.calls around.net) (λ before. Counted before after (around.faults around.net) (around.faults one)))) (sym same)
          (same-counts (around.calls around.net) (around.faults around.net));
    }

-- ---- the status

all-decided : (client : Client) → are_done (calls_of client) ≡ true → is_decided client ≡ true
all-decided client done = ap (λ (b : Bool). not b) (done_decided (calls_of client) done)

decided-done : (all : Bool) → decided_status all ≡ status.Done → all ≡ true
decided-done true is = refl
decided-done false is = absurd cc

decided-not : (all : Bool) → decided_status all ≡ status.NotAllDone → all ≡ false
decided-not true is = absurd cc
decided-not false is = refl

says_done : (end : Batch) (left : Client) (one : Status) (due : List ℕ) → UndecidedIn end left → TellsBatch end (calls_of left) one due
    → (one ≡ status.Done) ↔ (are_done (calls_of left) ≡ true)
says_done batch.Decided left one due undecided told =
    (λ e. decided-done (are_done (calls_of left)) (sym told.0 ∙ e), λ all. told.0 ∙ ap decided_status all)
says_done batch.LinkLost left one due undecided told = (λ e. let f = told.0 in absurd cc, λ all. let d = all-decided left all in absurd cc)
says_done batch.TurnsSpent left one due undecided told = (λ e. let f = told.0 in absurd cc, λ all. let d = all-decided left all in absurd cc)
says_done batch.Spent left one due undecided told = (λ e. let f = told.0 in absurd cc, λ all. let d = all-decided left all in absurd cc)
says_done batch.Memory left one due undecided told = absurd told

says_not_all : (end : Batch) (left : Client) (one : Status) (due : List ℕ) → UndecidedIn end left → (end ≡ batch.Decided → is_decided left ≡ true) → TellsBatch end (calls_of left) one due
    → (one ≡ status.NotAllDone) ↔ ((is_decided left ≡ true) × (are_done (calls_of left) ≡ false))
says_not_all batch.Decided left one due undecided all told =
    (λ e. (all refl, decided-not (are_done (calls_of left)) (sym told.0 ∙ e)), λ h. told.0 ∙ ap decided_status h.1)
says_not_all batch.LinkLost left one due undecided all told = (λ e. let f = told.0 in absurd cc, λ h. let d = h.0 in absurd cc)
says_not_all batch.TurnsSpent left one due undecided all told = (λ e. let f = told.0 in absurd cc, λ h. let d = h.0 in absurd cc)
says_not_all batch.Spent left one due undecided all told = (λ e. let f = told.0 in absurd cc, λ h. let d = h.0 in absurd cc)
says_not_all batch.Memory left one due undecided all told = absurd told

-- by the end of a batch
abbrev end-told : Status → Batch
end-told status.LinkLost = batch.LinkLost
end-told status.TurnsSpent = batch.TurnsSpent
end-told status.NumbersSpent = batch.Spent
end-told one = batch.Decided

decided-told : (all : Bool) → end-told (decided_status all) ≡ batch.Decided
decided-told true = refl
decided-told false = refl

end-by-status : (end : Batch) (calls : List Call) (one : Status) (due : List ℕ) → TellsBatch end calls one due → end-told one ≡ end
end-by-status batch.Decided calls one due told = ap end-told told.0 ∙ decided-told (are_done calls)
end-by-status batch.LinkLost calls one due told = ap end-told told.0
end-by-status batch.TurnsSpent calls one due told = ap end-told told.0
end-by-status batch.Spent calls one due told = ap end-told told.0
end-by-status batch.Memory calls one due told = absurd told

module _ (end : Batch) (calls : List Call) (one : Status) (due : List ℕ) (told : TellsBatch end calls one due) where
  ended : (want : Status) → one ≡ want → end ≡ end-told want
  ended want is = sym (end-by-status end calls one due told) ∙ ap end-told is

  as-lost : end ≡ batch.LinkLost → one ≡ status.LinkLost
  as-lost is = (subst (λ (b : Batch). TellsBatch b calls one due) is told).0

  as-turns : end ≡ batch.TurnsSpent → one ≡ status.TurnsSpent
  as-turns is = (subst (λ (b : Batch). TellsBatch b calls one due) is told).0

  as-numbers : end ≡ batch.Spent → one ≡ status.NumbersSpent
  as-numbers is = (subst (λ (b : Batch). TellsBatch b calls one due) is told).0

module _ {S : Type 0} (rules : Rules S) (plan : Plan) (course : Course S) (end : Batch) where
  -- it ended by its last connection
  last-by : (attempts : List Attempt) → EndsBy rules plan course end attempts → (want : Batch) → end ≡ want → (want ≡ batch.Decided → ⊥) → (want ≡ batch.Memory → ⊥) → LastEnds attempts want
  last-by [] (inl h) want is other none = absurd (other (sym is ∙ h.0))
  last-by [] (inr h) want is other none = absurd (none (sym is ∙ h))
  last-by (last ∷ earlier) h want is other none = h.3 ∙ is

  by-last : (attempts : List Attempt) → EndsBy rules plan course end attempts → (want : Batch) → LastEnds attempts want → end ≡ want
  by-last [] h want last = absurd last
  by-last (last ∷ earlier) h want is = sym h.3 ∙ is

  all-lost : (attempts : List Attempt) → EndsBy rules plan course end attempts → end ≡ batch.LinkLost → LostTooMany rules plan course attempts
  all-lost [] (inl h) is = let d = h.0 in absurd cc
  all-lost [] (inr h) is = absurd cc
  all-lost (last ∷ earlier) h is = (h.3 ∙ is, h.1, h.5 is)

  lost-all : (attempts : List Attempt) → EndsBy rules plan course end attempts → LostTooMany rules plan course attempts → end ≡ batch.LinkLost
  lost-all [] h lost = absurd lost
  lost-all (last ∷ earlier) h lost = sym h.3 ∙ lost.0

  pub has_cause : (attempts : List Attempt) → EndsBy rules plan course end attempts → (left : Client) (one : Status) (due : List ℕ) → UndecidedIn end left → (end ≡ batch.Decided → is_decided left ≡ true)
      → TellsBatch end (calls_of left) one due → HasCause rules plan course attempts left one
  has_cause attempts how left one due undecided all told =
      let calls = calls_of left in
      record {
        done = says_done end left one due undecided told;
        not_all = says_not_all end left one due undecided all told;
        link_lost = (λ is. all-lost attempts how (ended end calls one due told status.LinkLost is), λ h. as-lost end calls one due told (lost-all attempts how h));
        turns_spent = (λ is. last-by attempts how batch.TurnsSpent (ended end calls one due told status.TurnsSpent is) (λ e. cc) (λ e. cc), λ h. as-turns end calls one due told (by-last attempts how batch.TurnsSpent h));
        numbers_spent = (λ is. last-by attempts how batch.Spent (ended end calls one due told status.NumbersSpent is) (λ e. cc) (λ e. cc), λ h. as-numbers end calls one due told (by-last attempts how batch.Spent h));
      }

-- ---- the batch

no-attempt : {S : Type 0} (rules : Rules S) (plan : Plan) (course : Course S) (end : Batch) (attempts : List Attempt) → EndsBy rules plan course end attempts
    → is_decided course.client ≡ true → calls_of (after_all rules plan course attempts).client ≡ calls_of course.client
no-attempt rules plan course end [] ends all = refl
no-attempt rules plan course end (last ∷ earlier) ends all = let e = ends.0 in absurd cc

-- the trace under the keys of a seal is that under its ring
pub traced : {N C D : Type 0} (options : CallOptions) (ring sealed : List RingKey) (course : Course D) (around : Around N C D) (end : Batch) (kept : Holder) → sealed ≡ ring → IsReading mt_lock ring (reading_under ring)
    → ((reading : Reading) → IsReading mt_lock sealed reading → ClientTrace (rules_of around.step mt_lock sealed reading) (plan_of options) course end (around.calls around.net) (around.calls around.net_then) (around.given around.clock) (around.given around.clock_then) kept around.draw_then)
    → ClientTrace (rules_under ring around) (plan_of options) course end (around.calls around.net) (around.calls around.net_then) (around.given around.clock) (around.given around.clock_then) kept around.draw_then
traced {D = D} options ring sealed course around end kept same reads trace =
    subst
    (λ (keys : List RingKey). (reading : Reading) → IsReading mt_lock keys reading → ClientTrace {S = D} (rules_of around.step mt_lock keys reading) (plan_of options) course end (around.calls around.net) (around.calls around.net_then) (around.given around.clock) (around.given around.clock_then) kept around.draw_then)
    same trace (reading_under ring) reads

pub ran_from : {N C D : Type 0} (options : CallOptions) (ring : List RingKey) (course : Course D) (around : Around N C D) (end : Batch) (kept : Holder)
    → (trace : ClientTrace (rules_under ring around) (plan_of options) course end (around.calls around.net) (around.calls around.net_then) (around.given around.clock) (around.given around.clock_then) kept around.draw_then)
    → (end ≡ batch.Decided → AllDecided kept) → (is_decided course.client ≡ true → IsOffline around × (end ≡ batch.Decided)) → (answer : Result Answer Memory)
    → ((whole : Client) → StandsFor kept whole → IfOk answer (λ one. TellsBatch end (calls_of whole) one.status one.text))
    → IfOk answer (λ one. RanFrom options ring course around one.status one.text)
ran_from options ring course around end kept trace decided idle (Err memory) told = tt
ran_from options ring course around end kept trace decided idle (Ok answer) told =
    let left = (after_all (rules_under ring around) (plan_of options) course trace.attempts).client in
    let so = told left trace.stands.client in
    record {
      end = end;
      kept = kept;
      trace = trace;
      left = left;
      its = refl;
      told = so;
      cause = has_cause (rules_under ring around) (plan_of options) course end trace.attempts trace.ended left answer.status answer.text trace.undecided (λ e. (decided e).stands left trace.stands.client) so;
      decided = λ all. ((idle all).0, (idle all).1, no-attempt (rules_under ring around) (plan_of options) course end trace.attempts trace.ended all);
    }

-- memory ran out
pub left_from : {N C D : Type 0} (options : CallOptions) (ring : List RingKey) (course : Course D) (around : Around N C D) (end : Batch) (kept : Holder)
    → ClientTrace (rules_under ring around) (plan_of options) course end (around.calls around.net) (around.calls around.net_then) (around.given around.clock) (around.given around.clock_then) kept around.draw_then
    → (answer : Result Answer Memory) → IfErr answer (λ memory. LeftFrom options ring course around)
left_from options ring course around end kept trace (Err memory) = record { end = end; kept = kept; trace = trace }
left_from options ring course around end kept trace (Ok answer) = tt

-- with no call
empty-told : (calls : List Call) (one : Status) (due : List ℕ) → calls ≡ [] → TellsBatch batch.Decided calls one due → (one ≡ status.Done) × (due ≡ [])
empty-told [] one due none told = told
empty-told (call ∷ calls) one due none told = absurd cc

told-so : (end : Batch) (calls : List Call) (one : Status) (due : List ℕ) → end ≡ batch.Decided → TellsBatch end calls one due → TellsBatch batch.Decided calls one due
told-so end calls one due is told = subst (λ (b : Batch). TellsBatch b calls one due) is told

none-given : (calls : List ScriptCall) (client : Client) → calls ≡ [] → calls_of client ≡ [] → calls_of (given_all calls client) ≡ []
none-given [] client none own = own
none-given (call ∷ calls) client none own = absurd cc

none-decided : (client : Client) → calls_of client ≡ [] → is_decided client ≡ true
none-decided client none = ap (λ (calls : List Call). not (list_any is_undecided calls)) none

-- of a client that was given the calls of a script
pub ran_batch : {N C D : Type 0} (options : CallOptions) (calls : List ScriptCall) (ring : List RingKey) (keys : Keys) (around : Around N C D) (drawn : D) (one : Status) (due : List ℕ)
    → untaken calls ≡ None → RanFrom options ring (begins keys calls around) (record around { draw = drawn }) one due → RanBatch options calls ring keys around one due
ran_batch options calls ring keys around drawn one due taken ran =
    record {
      taken = taken;
      end = ran.end;
      kept = ran.kept;
      trace = ran.trace;
      left = ran.left;
      its = ran.its;
      told = ran.told;
      cause = ran.cause;
      no_call = λ none.
          let own = none-given calls (client_under keys (word_after around.step 0 around.draw)) none refl in
          let idle = ran.decided (none-decided (begins keys calls around).client own) in
          let said = empty-told (calls_of ran.left) one due (idle.2 ∙ own) (told-so ran.end (calls_of ran.left) one due idle.1 ran.told) in
          (said.0, said.1, record { net = idle.0.net; clock = idle.0.clock });
    }

pub left_batch : {N C D : Type 0} (options : CallOptions) (calls : List ScriptCall) (ring : List RingKey) (keys : Keys) (around : Around N C D) (drawn : D)
    → untaken calls ≡ None → LeftFrom options ring (begins keys calls around) (record around { draw = drawn }) → LeftBatch options calls ring keys around
left_batch options calls ring keys around drawn taken left = record { taken = taken; end = left.end; kept = left.kept; trace = left.trace }
