-- A schedule that is played event by event.
use Rattle.std.proofs.Common.{◌≡◌, ◌∙◌, ℕ, zero, suc, ◌+◌, ◌⊎◌, inl, inr, Bool, codes, ◌<◌, ◌≤◌, List, [], ◌∷◌, ◌++◌, length, get_or, take, drop, Option, Some, None, IfSome, Result, Ok, Err, IfOk, slice_get, ap, sym, subst, add-one, drop-cons, arith, refl}
use Rattle.std.specs.Prelude.{All, fold}
use Rattle.std.proofs.lemmas.List.{map-append, take_more, take_all}
use Rattle.std.proofs.lemmas.List.Sums.{fold-append}
use Rattle.std.proofs.Math.ListN.{drop_of_length-le}
use Rattle.std.proofs.lemmas.List.Elements.{All-append}
use Rattle.std.proofs.lemmas.Option.{slice_get-get_or}
use Rattle.client_core.specs.declared.fault.SubmitFault.TheVariants as submit
use Rattle.sched_text.specs.declared.event.Event.{Event}
use Rattle.sched_text.specs.declared.schedule.Placed.{Placed}
use Rattle.world_rules.specs.Premises.{IsOfBytes}
use Rattle.sched_text.specs.Schedule.{IsFaultOf, Spells}
use Rattle.sched_text.specs.declared.schedule.SchedFault.{SchedFault}
use Rattle.sched_text.specs.declared.schedule.SchedFault.TheVariants.{BadLine}
use Rattle.world_rules.specs.Refusals.{Refusal, refusal}
use Rattle.world_rules.specs.Refusals as refusals
use Rattle.world_rules.specs.Report.{refusal_text}
use Rattle.world_rules.specs.Run.{events_of, first_refused, first_refused_of, step}
use Rattle.world_rules.specs.World.{World, begins}
use Rattle.sim_world.specs.declared.fault.StepFault.{StepFault}
use Rattle.sim_world.specs.declared.fault.StepFault.TheVariants as fault
use Rattle.sim_world.specs.Told.{Tells, refusal_of}
use Rattle.statuses.specs.declared.answer.Answer.{Answer}
use Rattle.statuses.specs.declared.status.Status.{Status}
use Rattle.statuses.specs.declared.status.Status.TheVariants as status
use Rattle.statuses.specs.Lines.{input_bytes_max, refusal_line}
use Rattle.cmd_sim.specs.Inner.{IsRefusalOf, Plays, Refuses}
use Rattle.cmd_sim.specs.Sim.{IsOfSim, Owes, status_of}
use Rattle.cmd_sim.specs.Worlds.{KeptWorld, Registers, StandsFor, sim_refused, sim_setting, sim_world}

drop-all : {X : Type 0} (xs : List X) (k : ℕ) → length xs ≤ k → drop k xs ≡ []
drop-all xs k h = drop_of_length-le xs h

one-of : (event : Event) → IsOfBytes event → All IsOfBytes (event ∷ [])
one-of event h zero d below = h
one-of event h (suc i) d below = absurd (omega (arith, below))

-- what stands for a world stands for the same one
pub still-stands : {kept : KeptWorld} (world same : World ℕ Registers) → world ≡ same → StandsFor kept world → StandsFor kept same
still-stands {kept} world same is stands = subst (λ (one : World ℕ Registers). StandsFor kept one) is stands

-- what is left of a schedule, from a world on
abbrev pub refused_from : World ℕ Registers → List Placed → Option (ℕ × Refusal)
refused_from world placed = first_refused sim_setting world placed

module _ (events : List Placed) (k : ℕ) (event : Event) (within : k < length events) (at : IfSome (slice_get events k) (λ p. event ≡ p.event)) where
  abbrev placed : Placed
  placed = get_or events k (record { event = event; line = 0 })

  found : slice_get events k ≡ Some placed
  found = slice_get-get_or events k (record { event = event; line = 0 }) within

  own : event ≡ placed.event
  own = subst (λ o. IfSome o (λ p. event ≡ p.event)) found at

  left : drop k events ≡ placed ∷ drop (k + 1) events
  left = drop-cons events k (record { event = event; line = 0 }) within ∙ ap (λ n. placed ∷ drop n events) (sym (add-one k))

  so-far : events_of (take (k + 1) events) ≡ events_of (take k events) ++ placed.event ∷ []
  so-far = ap events_of (take_more events k (record { event = event; line = 0 }) within) ∙ map-append (λ (one : Placed). one.event) (take k events) (placed ∷ [])

  -- the world behind the event
  pub plays-on : step sim_setting (sim_world (take k events)) event ≡ sim_world (take (k + 1) events)
  plays-on =
      ap (λ (e : Event). step sim_setting (sim_world (take k events)) e) own
      ∙ (sym (fold-append (step sim_setting) (begins sim_setting 0) (events_of (take k events)) (placed.event ∷ []))
      ∙ ap (λ (all : List Event). fold (step sim_setting) (begins sim_setting 0) all) (sym so-far))

  -- its body is bytes, as are those before it
  pub bytes-on : All IsOfBytes (events_of (take k events)) → IsOfBytes event → All IsOfBytes (events_of (take (k + 1) events))
  bytes-on before own_bytes =
      subst (λ (all : List Event). All IsOfBytes all) (sym so-far)
      (All-append IsOfBytes (events_of (take k events)) (placed.event ∷ []) before (one-of placed.event (subst IsOfBytes own own_bytes)))

  -- it isn't refused, so what is refused comes later
  pub refuses-on : refusal sim_setting (sim_world (take k events)) event ≡ None
      → refused_from (sim_world (take (k + 1) events)) (drop (k + 1) events) ≡ refused_from (sim_world (take k events)) (drop k events)
  refuses-on lawful =
      sym (ap (λ (world : World ℕ Registers). refused_from world (drop (k + 1) events)) plays-on)
      ∙ (ap (λ (e : Event). refused_from (step sim_setting (sim_world (take k events)) e) (drop (k + 1) events)) own
      ∙ (sym (ap (λ (r : Option Refusal). first_refused_of placed.line r (refused_from (step sim_setting (sim_world (take k events)) placed.event) (drop (k + 1) events))) (ap (refusal sim_setting (sim_world (take k events))) (sym own) ∙ lawful))
      ∙ sym (ap (refused_from (sim_world (take k events))) left)))

  -- it is refused, and is the first one
  pub refuses-here : (line : ℕ) (why : Refusal) → refusal sim_setting (sim_world (take k events)) event ≡ Some why → IfSome (slice_get events k) (λ p. line ≡ p.line)
      → refused_from (sim_world (take k events)) (drop k events) ≡ Some (line, why)
  refuses-here line why refused here =
      let own_line : line ≡ placed.line = subst (λ o. IfSome o (λ p. line ≡ p.line)) found here in
      ap (refused_from (sim_world (take k events))) left
      ∙ (ap (λ (r : Option Refusal). first_refused_of placed.line r (refused_from (step sim_setting (sim_world (take k events)) placed.event) (drop (k + 1) events))) (ap (refusal sim_setting (sim_world (take k events))) (sym own) ∙ refused)
      ∙ ap (λ (n : ℕ). Some (n, why)) (sym own_line))

-- ---- its end

pub ended : (events : List Placed) (k : ℕ) → length events ≤ k → refused_from (sim_world (take k events)) (drop k events) ≡ sim_refused events → sim_refused events ≡ None
ended events k h e = sym e ∙ ap (refused_from (sim_world (take k events))) (drop-all events k h)

pub whole-world : (events : List Placed) (k : ℕ) → length events ≤ k → sim_world (take k events) ≡ sim_world events
whole-world events k h = ap sim_world (take_all k events h)

pub whole-bytes : (events : List Placed) (k : ℕ) → length events ≤ k → All IsOfBytes (events_of (take k events)) → All IsOfBytes (events_of events)
whole-bytes events k h bytes = subst (λ (all : List Placed). All IsOfBytes (events_of all)) (take_all k events h) bytes

-- ---- a refusal

pub tells-why : (due : Option Refusal) (fault : StepFault) (why : Refusal) → Tells {X = Unit {0}} due (Err fault) → refusal_of fault ≡ Some why → due ≡ Some why
tells-why due (fault.NoPacket k) why h e = h ∙ e
tells-why due fault.NoClient why h e = h ∙ e
tells-why due (fault.NoJob k) why h e = h ∙ e
tells-why due fault.ForeignOpens why h e = h ∙ e
tells-why due fault.WrongState why h e = h ∙ e
tells-why due (fault.Submit (submit.TooLong len)) why h e = h ∙ e
tells-why due (fault.Submit (submit.NotWords len)) why h e = h ∙ e
tells-why due (fault.Submit (submit.ServiceTag tag)) why h e = h ∙ e
tells-why due (fault.Submit submit.NoSuchCall) why h e = h ∙ e
tells-why due (fault.Submit submit.TooMany) why h e = h ∙ e
tells-why due (fault.Submit submit.Memory) why h e = absurd h
tells-why due fault.Spent why h e = h ∙ e
tells-why due fault.NotSent why h e = h ∙ e
tells-why due fault.Memory why h e = cc

-- its status is one of two
pub status-either : (why : Refusal) → (status_of why ≡ status.InputRefused) ⊎ (status_of why ≡ status.NumbersSpent)
status-either refusals.NoClient = inl refl
status-either refusals.WrongState = inl refl
status-either (refusals.NoPacket k) = inl refl
status-either (refusals.NoJob k) = inl refl
status-either refusals.ForeignOpens = inl refl
status-either (refusals.Submit fault) = inl refl
status-either refusals.NumbersSpent = inr refl
status-either refusals.NotSent = inl refl

spent-why : (why : Refusal) → status_of why ≡ status.NumbersSpent → why ≡ refusals.NumbersSpent
spent-why refusals.NoClient h = cc
spent-why refusals.WrongState h = cc
spent-why (refusals.NoPacket k) h = cc
spent-why (refusals.NoJob k) h = cc
spent-why refusals.ForeignOpens h = cc
spent-why (refusals.Submit fault) h = cc
spent-why refusals.NumbersSpent h = refl
spent-why refusals.NotSent h = cc

refuses : (events : List Placed) (line : ℕ) (o : Option Refusal) (one : Status) (due : List ℕ) → IsRefusalOf line o one due
    → ((why : Refusal) → o ≡ Some why → sim_refused events ≡ Some (line, why)) → Refuses events one due
refuses events line None one due h first = absurd h
refuses events line (Some why) one due h first = record { line = line; refusal = why; refused = first why refl; status_is = h.0; told = h.1 }

pub answer-refused : {E : Type 0} (wire : Bool) (r : Result Answer E) (events : List Placed) (line : ℕ) (o : Option Refusal) → IfOk r (λ a. IsRefusalOf line o a.status a.text)
    → ((why : Refusal) → o ≡ Some why → sim_refused events ≡ Some (line, why)) → IfOk r (λ a. Plays wire events a.status a.text)
answer-refused wire (Ok a) events line o h first = inr (refuses events line o a.status a.text h first)
answer-refused wire (Err e) events line o h first = tt

-- ---- what is owed to a text

module _ (wire : Bool) (text : List ℕ) (events : List Placed) (short : length text ≤ input_bytes_max) (spells : Spells text events) where
  refused-owes : (one : Status) (due : List ℕ) (h : Refuses events one due) → (status_of h.refusal ≡ status.InputRefused) ⊎ (status_of h.refusal ≡ status.NumbersSpent) → Owes wire text one due
  refused-owes one due h (inl e) =
      inr (inl (h.status_is ∙ e, inr (inr (events, h.line, h.refusal, record { short = short; schedule = spells; refused = h.refused; told = h.told }, e))))
  refused-owes one due h (inr e) =
      let why = spent-why h.refusal e in
      inr (inr (
        h.status_is ∙ e,
        (
          events,
          h.line,
          record {
            short = short;
            schedule = spells;
            refused = h.refused ∙ ap (λ (r : Refusal). Some (h.line, r)) why;
            told = h.told ∙ ap (λ (r : Refusal). refusal_line h.line (refusal_text r)) why;
          },
        ),
      ))

  plays-owes : (one : Status) (due : List ℕ) → Plays wire events one due → Owes wire text one due
  plays-owes one due (inl h) = inl (h.done, (events, record { short = short; schedule = spells; lawful = h.lawful }, h.report, h.once))
  plays-owes one due (inr h) = refused-owes one due h (status-either h.refusal)

  plays-of : (one : Status) (due : List ℕ) → Plays wire events one due → IsOfSim one
  plays-of one due (inl h) = inl h.done
  plays-of one due (inr h) = elim (status-either h.refusal) [ inl e ↦ inr (inl (h.status_is ∙ e)) | inr e ↦ inr (inr (h.status_is ∙ e)) ]

  pub played-owes : {E : Type 0} (r : Result Answer E) → IfOk r (λ a. Plays wire events a.status a.text) → IfOk r (λ a. Owes wire text a.status a.text)
  played-owes (Ok a) h = plays-owes a.status a.text h
  played-owes (Err e) h = tt

  pub played-of : {E : Type 0} (r : Result Answer E) → IfOk r (λ a. Plays wire events a.status a.text) → IfOk r (λ a. IsOfSim a.status)
  played-of (Ok a) h = plays-of a.status a.text h
  played-of (Err e) h = tt

-- ---- a line outside the grammar

pub bad-owes : {E : Type 0} (wire : Bool) (r : Result Answer E) (text : List ℕ) (bad : ℕ) (fault : SchedFault) → length text ≤ input_bytes_max → fault ≡ BadLine bad → IsFaultOf text fault
    → IfOk r (λ a. a.status ≡ status.InputRefused) → IfOk r (λ a. a.text ≡ refusal_line bad (codes "bad line")) → IfOk r (λ a. Owes wire text a.status a.text)
bad-owes wire (Ok a) text bad fault short is line one due =
    inr (inl (one, inr (inl (bad, record { short = short; bad = subst (λ (f : SchedFault). IsFaultOf text f) is line; told = due }))))
bad-owes wire (Err e) text bad fault short is line one due = tt

pub bad-of : {E : Type 0} (r : Result Answer E) → IfOk r (λ a. a.status ≡ status.InputRefused) → IfOk r (λ a. IsOfSim a.status)
bad-of (Ok a) one = inr (inl one)
bad-of (Err e) one = tt
