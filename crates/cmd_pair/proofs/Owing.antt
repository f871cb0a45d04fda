-- What came of the batches, and what is told of it.
use Rattle.std.proofs.Common.{◌≡◌, ◌∙◌, inl, inr, ℕ, ◌+◌, true, List, Option, Result, Ok, Err, IfOk, codes, ap, subst, refl}
use Rattle.auth_keys.specs.declared.ring.RingKey.{RingKey}
use Rattle.cmd_call.specs.Owed.{Around, HasCause}
use Rattle.cmd_call.specs.Table.{TellsBatch}
use Rattle.client_core.specs.declared.holder.Holder.{Holder}
use Rattle.client_node.specs.Course.{Course, is_decided}
use Rattle.client_node.specs.Standing.{AllDecided, StandsFor}
use Rattle.client_node.specs.Talks.{Rules}
use Rattle.client_node.specs.Trace.{Attempt, EndsBy, UndecidedIn, after_all}
use Rattle.client_node.specs.declared.plan.Batch.{Batch}
use Rattle.client_node.specs.declared.plan.Batch.TheVariants as batch
use Rattle.client_node.specs.declared.plan.Plan.{Plan}
use Rattle.client_rules.specs.Client.{Client, calls_of}
use Rattle.commands.specs.declared.command.PairOptions.{PairOptions}
use Rattle.mt_edge.specs.Faults.{one_more}
use Rattle.mt_edge.specs.declared.kid_call.KidCall.{KidCall}
use Rattle.octets.specs.declared.memory.Memory.{Memory}
use Rattle.statuses.specs.declared.answer.Answer.{Answer}
use Rattle.statuses.specs.declared.status.Status.{Status}
use Rattle.statuses.specs.declared.status.Status.TheVariants as status
use Rattle.cmd_pair.specs.Batches.{IsBatch, LastBatch, LostFirst, OwesPair, plan_at, rules_for}
use Rattle.cmd_pair.specs.Inner.{PairBy, ServesBy, StopsBy}
use Rattle.cmd_pair.specs.Servers.{AreBoth, FailsNever, IsFrontOf, IsSecondFront, Kids, Made, WasServed, asks, first_words, kids_of, second_words}
use Rattle.cmd_pair.specs.declared.halt.KidFault.{KidFault}
use Rattle.cmd_pair.specs.declared.halt.KidFault.TheVariants as faults
use Rattle.cmd_pair.proofs.Spawning.{made-both}

-- ---- one server and the other

module _ {N C D P : Type 0} (options : PairOptions) (ring : List RingKey) (course : Course D) (around : Around N C D) (calls : P → Option (List KidCall)) (counts : P → ℕ) (first last : P) where
  -- the first server couldn't be served
  pub stops-first : (fault : KidFault) → StopsBy (first_words options) (kids_of calls counts first last) fault → PairBy options ring course around (kids_of calls counts first last) (Err fault)
  stops-first faults.Failed h = (inl h.0, h.1)
  stops-first faults.Memory h = tt

  -- the first batch is the last one
  pub ends-first : (kept : Holder) (end : Batch) → IsBatch ring options.port course around end kept → (end ≡ batch.LinkLost → ⊥) → ServesBy {X = Holder × Batch} (first_words options) (Ok (kept, end)) (kids_of calls counts first last)
      → PairBy options ring course around (kids_of calls counts first last) (Ok (kept, end))
  ends-first kept end trace other serves = inl (trace, other, serves.0)

  module _ (between : P) (lost : LostFirst options ring course around) (before : Made (kids_of calls counts first between) (WasServed (first_words options))) (never : FailsNever (kids_of calls counts first between)) where
    -- the second server couldn't be served
    pub stops-second : (fault : KidFault) → StopsBy (second_words options) (kids_of calls counts between last) fault → PairBy options ring course around (kids_of calls counts first last) (Err fault)
    stops-second faults.Failed h = (
      inr (
        lost,
        made-both (WasServed (first_words options)) (IsFrontOf (asks (second_words options))) (IsSecondFront options) (calls first) (calls between) (calls last)
            (λ one other was front. record { one = one; other = other; whole = refl; first = was; second = front }) before h.0,
      ),
      h.1 ∙ ap one_more never,
    )
    stops-second faults.Memory h = tt

    -- it was
    pub ends-second : (kept : Holder) (end : Batch)
        → IsBatch ring (options.port + 1) (after_all (rules_for around.step ring) (plan_at options.port) course lost.trace.attempts) (record around { net = lost.net; clock = lost.clock; draw = lost.draw }) end kept
        → ServesBy {X = Holder × Batch} (second_words options) (Ok (kept, end)) (kids_of calls counts between last)
        → PairBy options ring course around (kids_of calls counts first last) (Ok (kept, end))
    ends-second kept end trace serves = inr (
      lost,
      trace,
      made-both (WasServed (first_words options)) (WasServed (second_words options)) (AreBoth options) (calls first) (calls between) (calls last)
          (λ one other was is. record { one = one; other = other; whole = refl; first = was; second = is }) before serves.0,
    )

    -- it was or couldn't be
    pub second-by : (result : Result (Holder × Batch) KidFault) → ServesBy (second_words options) result (kids_of calls counts between last)
        → IfOk result (λ done. IsBatch ring (options.port + 1) (after_all (rules_for around.step ring) (plan_at options.port) course lost.trace.attempts) (record around { net = lost.net; clock = lost.clock; draw = lost.draw }) done.1 done.0)
        → PairBy options ring course around (kids_of calls counts first last) result
    second-by (Ok done) serves trace = ends-second done.0 done.1 trace serves
    second-by (Err fault) serves trace = stops-second fault serves

-- under the keys of this ring
pub pair-as : {N C D P : Type 0} (options : PairOptions) (ring other : List RingKey) (course : Course D) (around : Around N C D) (kids : Kids P) (result : Result (Holder × Batch) KidFault) → ring ≡ other
    → PairBy options ring course around kids result → PairBy options other course around kids result
pair-as options ring other course around kids result same pair = subst (λ (keys : List RingKey). PairBy options keys course around kids result) same pair

-- the first batch lost its connection
abbrev pub lost-by : {N C D : Type 0} (options : PairOptions) (ring : List RingKey) (course : Course D) (around : Around N C D) (net : N) (clock : C) (draw : D) (end : Batch) (kept : Holder) → end ≡ batch.LinkLost
    → IsBatch ring options.port course (record around { net_then = net; clock_then = clock; draw_then = draw }) end kept → LostFirst options ring course around
lost-by options ring course around net clock draw end kept is trace = record {
  kept = kept;
  net = net;
  clock = clock;
  draw = draw;
  trace = subst (λ (e : Batch). IsBatch ring options.port course (record around { net_then = net; clock_then = clock; draw_then = draw }) e kept) is trace;
}

-- ---- what is told

module _ {D : Type 0} (law : (rules : Rules D) (plan : Plan) (course : Course D) (end : Batch) (attempts : List Attempt) → EndsBy rules plan course end attempts → (left : Client) (one : Status) (due : List ℕ)
    → UndecidedIn end left → (end ≡ batch.Decided → is_decided left ≡ true) → TellsBatch end (calls_of left) one due → HasCause rules plan course attempts left one) where
  last-batch : {N C : Type 0} (ring : List RingKey) (port : ℕ) (course : Course D) (around : Around N C D) (end : Batch) (kept : Holder) (trace : IsBatch ring port course around end kept) (one : Status) (due : List ℕ)
      → (end ≡ batch.Decided → AllDecided kept) → TellsBatch end (calls_of (after_all (rules_for around.step ring) (plan_at port) course trace.attempts).client) one due
      → LastBatch ring port course around one due
  last-batch ring port course around end kept trace one due decided told =
      let left = (after_all (rules_for around.step ring) (plan_at port) course trace.attempts).client in
      record {
        end = end;
        kept = kept;
        trace = trace;
        left = left;
        its = refl;
        told = told;
        cause = law (rules_for around.step ring) (plan_at port) course end trace.attempts trace.ended left one due trace.undecided (λ e. (decided e).stands left trace.stands.client) told;
      }

  module _ {N C P : Type 0} (options : PairOptions) (ring : List RingKey) (course : Course D) (around : Around N C D) (kids : Kids P) (kept : Holder) (end : Batch) (decided : end ≡ batch.Decided → AllDecided kept) where
    owes : (one : Status) (due : List ℕ) → PairBy options ring course around kids (Ok (kept, end)) → ((whole : Client) → StandsFor kept whole → TellsBatch end (calls_of whole) one due)
        → OwesPair options ring course around kids one due
    unfolding last-batch
    owes one due (inl h) told =
        let so = told (after_all (rules_for around.step ring) (plan_at options.port) course h.0.attempts).client h.0.stands.client in
        inl (inl (record { last = last-batch ring options.port course around end kept h.0 one due decided so; not_lost = h.1; children = h.2 }))
    owes one due (inr h) told =
        let behind = after_all (rules_for around.step ring) (plan_at options.port) course h.0.trace.attempts in
        let so = told (after_all (rules_for around.step ring) (plan_at (options.port + 1)) behind h.1.attempts).client h.1.stands.client in
        inl (inr (record { first = h.0; last = last-batch ring (options.port + 1) behind (record around { net = h.0.net; clock = h.0.clock; draw = h.0.draw }) end kept h.1 one due decided so; children = h.2 }))

    pub answers : (answer : Result Answer Memory) → PairBy options ring course around kids (Ok (kept, end))
        → ((whole : Client) → StandsFor kept whole → IfOk answer (λ one. TellsBatch end (calls_of whole) one.status one.text))
        → IfOk answer (λ one. OwesPair options ring course around kids one.status one.text)
    answers (Ok one) pair told = owes one.status one.text pair told
    answers (Err memory) pair told = tt

-- ---- a child fault

pub child-fault : {N C D P : Type 0} (options : PairOptions) (ring : List RingKey) (course : Course D) (around : Around N C D) (kids : Kids P) (answer : Result Answer Memory)
    → PairBy options ring course around kids (Err faults.Failed) → IfOk answer (λ one. one.status ≡ status.NotListening) → IfOk answer (λ one. one.text ≡ codes "child fault\n")
    → IfOk answer (λ one. OwesPair options ring course around kids one.status one.text)
child-fault options ring course around kids (Ok one) h said text = inr (record { said = said; told = text; counted = h.1; halts = h.0 })
child-fault options ring course around kids (Err memory) h said text = tt
