-- One step of a settling.
use Rattle.std.proofs.Common.{◌≡◌, ◌≢◌, ◌∙◌, ◌+◌, ◌*◌, ◌%◌, eqb, ℕ, zero, suc, Bool, true, false, not, if◌then◌else◌, Option, Some, None, List, [], ◌∷◌, ◌++◌, length, map, Result, Ok, Err, refl, ap, sym, subst}
use Rattle.std.specs.Prelude.{IfErr, IfOk, OnErr, OnOk, is_some}
use Rattle.std.proofs.Math.Dec.{eqb-suc-zero}
use Rattle.std.proofs.lemmas.Bool.{eq-eqb}
use Rattle.std.proofs.lemmas.List.{length-map}
use Rattle.auth_keys.specs.declared.ring.RingKey.{RingKey}
use Rattle.envelope.specs.Packet.{Lock}
use Rattle.octets.specs.declared.memory.Memory.{Memory}
use Rattle.regs_service.specs.Served.{Step}
use Rattle.client_core.specs.declared.fault.SubmitFault.TheVariants as submit
use Rattle.sim_server.specs.Hosts.{kept_of}
use Rattle.sched_text.specs.declared.event.Event.{Event}
use Rattle.sched_text.specs.declared.event.Event.TheVariants as line
use Rattle.world_rules.specs.Load.{Settling, can_flush, does, first_ungiven, gives, goes_on, next_by, next_step, repeats, restarts, settled}
use Rattle.world_rules.specs.Refusals.{NoJob, Refusal, refusal, unless}
use Rattle.world_rules.specs.Run as run
use Rattle.world_rules.specs.Setting.{Setting}
use Rattle.world_rules.specs.World.{World as Rules, counted, counted_job}
use Rattle.sim_world.specs.Told.{Tells}
use Rattle.sim_world.specs.Worlds.{World, Stands as WorldStands, world_setting}
use Rattle.sim_world.specs.declared.fault.StepFault.{StepFault}
use Rattle.sim_world.specs.declared.fault.StepFault.TheVariants as told
use Rattle.sim_load.specs.Given.{Notes}
use Rattle.sim_load.specs.Loading.{Answers, Flushed, Goes, Loading, OfEach, Rests, Stands, Tried}
use Rattle.sim_load.specs.Plain.{ArePlain, IsOfLoad}
use Rattle.sim_load.proofs.PlainWorlds.{grown, quiet, step-plain}

-- ---- another name of the ring

pub of-ring : {S V D : Type 0} (lock : Lock) (draws : D → ℕ × D) (serve : Step V) (fresh : V) (ring other : List RingKey) (before : Loading S V D)
    (Told : Setting D V → Settling D V → Type 0) → other ≡ ring → OfEach lock draws serve fresh other before Told → OfEach lock draws serve fresh ring before Told
of-ring lock draws serve fresh ring other before Told same told = subst (λ ring. OfEach lock draws serve fresh ring before Told) same told

-- what is done first, and then to what that left
pub then-of : {S V D : Type 0} (lock : Lock) (draws : D → ℕ × D) (serve : Step V) (fresh : V) (ring other : List RingKey) (before mid : Loading S V D)
    (change : Setting D V → Settling D V → Settling D V) (Told : Setting D V → Settling D V → Type 0) → other ≡ ring
    → OfEach lock draws serve fresh ring before (λ setting settling. Stands setting mid (change setting settling))
    → OfEach lock draws serve fresh other mid Told → OfEach lock draws serve fresh ring before (λ setting settling. Told setting (change setting settling))
then-of lock draws serve fresh ring other before mid change Told same first second = λ sealing settling is stands.
    of-ring lock draws serve fresh ring other mid Told same second sealing (change (world_setting draws serve fresh ring sealing) settling) is
    (first sealing settling is stands)

-- ---- packets

pub packets-of : {S V D : Type 0} (setting : Setting D V) (kept : World S V D) (world : Rules D V) → WorldStands setting kept world
    → length kept.host.bag ≡ length world.bag
packets-of setting kept world stands = ap length stands.host.bag ∙ length-map world.bag (kept_of setting)

-- ---- an event is tried

-- a refusal is told by every fault but that memory ran out
due-told : (X : Type 0) (due : Option Refusal) (fault : StepFault) (is_done : Bool) → Answers {X = X} (Err fault) (Ok is_done) → Tells {X = X} due (Err fault)
    → (is_some due ≡ true) × (is_done ≡ false) × (fault ≢ told.Memory)
due-told X due (told.NoPacket k) is_done answers tells = (ap is_some tells, answers, λ is. cc)
due-told X due told.NoClient is_done answers tells = (ap is_some tells, answers, λ is. cc)
due-told X due (told.NoJob k) is_done answers tells = (ap is_some tells, answers, λ is. cc)
due-told X due told.ForeignOpens is_done answers tells = (ap is_some tells, answers, λ is. cc)
due-told X due told.WrongState is_done answers tells = (ap is_some tells, answers, λ is. cc)
due-told X due (told.Submit (submit.TooLong len)) is_done answers tells = (ap is_some tells, answers, λ is. cc)
due-told X due (told.Submit (submit.NotWords len)) is_done answers tells = (ap is_some tells, answers, λ is. cc)
due-told X due (told.Submit (submit.ServiceTag tag)) is_done answers tells = (ap is_some tells, answers, λ is. cc)
due-told X due (told.Submit submit.NoSuchCall) is_done answers tells = (ap is_some tells, answers, λ is. cc)
due-told X due (told.Submit submit.TooMany) is_done answers tells = (ap is_some tells, answers, λ is. cc)
due-told X due told.Spent is_done answers tells = (ap is_some tells, answers, λ is. cc)
due-told X due told.NotSent is_done answers tells = (ap is_some tells, answers, λ is. cc)
due-told X due (told.Submit submit.Memory) is_done answers tells = absurd tells
due-told X due told.Memory is_done answers tells = absurd answers

refused-stands : {S V D : Type 0} (setting : Setting D V) (kept : World S V D) (world : Rules D V) (event : Event) → is_some (refusal setting world event) ≡ true
    → WorldStands setting kept world → WorldStands setting kept (run.step setting world event)
refused-stands {S} {V} {D} setting kept world event due stands =
    subst (λ (w : Rules D V). WorldStands setting kept w) (sym (ap (λ (b : Bool). if b then world else run.after setting world event) due)) stands

pub tried-by : {S V D X : Type 0} (setting : Setting D V) (settling : Settling D V) (event : Event) (before after : Loading S V D) (stepped : Result X StepFault)
    (answer : Result Bool Memory) → Answers stepped answer → IsOfLoad event → Stands setting before settling → Tells (refusal setting settling.world event) stepped
    → OnOk stepped (WorldStands setting after.world (run.step setting settling.world event))
    → OnErr stepped (WorldStands setting after.world (record settling.world { draw = after.world.draw }))
    → IfErr stepped (λ fault. fault ≢ told.Memory → after.world.draw ≡ before.world.draw) → after.given ≡ before.given
    → IfOk answer (λ is_done. Tried setting settling event is_done after)
tried-by setting settling event before after stepped (Err memory) answers of stands tells done kept draw same = tt
tried-by {S} {V} {D} {X} setting settling event before after (Ok x) (Ok is_done) answers of stands tells done kept draw same = record {
  refused = ap is_some tells ∙ ap not (sym answers);
  stands = record {
    world = done;
    given = subst (λ flags. Notes flags settling.given) (sym same) stands.given;
    plain = step-plain setting settling.world event of stands.plain;
  };
}
tried-by {S} {V} {D} {X} setting settling event before after (Err fault) (Ok is_done) answers of stands tells done kept draw same =
    let due = due-told X (refusal setting settling.world event) fault is_done answers tells in
    let drawn : after.world.draw ≡ settling.world.draw = draw due.2 ∙ stands.world.host.drawn in
    record {
      refused = due.0 ∙ ap not (sym due.1);
      stands = record {
        world = refused-stands setting after.world settling.world event due.0
            (subst (λ (d : D). WorldStands setting after.world (record settling.world { draw = d })) drawn kept);
        given = subst (λ flags. Notes flags settling.given) (sym same) stands.given;
        plain = step-plain setting settling.world event of stands.plain;
      };
    }

-- ---- what the next step is

pub given-next : {S V : Type 0} (setting : Setting S V) (settling : Settling S V) (packet : ℕ)
    → first_ungiven 1 (length settling.world.bag) settling.given ≡ Some packet → next_step setting settling ≡ Some (gives setting packet settling)
given-next setting settling packet first =
    ap (λ (found : Option ℕ). next_by found
    (if is_some (counted_job 1 settling.world) then Some (does setting (line.Work 1) settling)
    else if can_flush setting (counted 1 settling.world.seats) settling.world then Some (does setting (line.Flush 1) settling)
    else None) setting settling) first

by-parts : {S V : Type 0} (setting : Setting S V) (settling : Settling S V) (job flush : Bool) → first_ungiven 1 (length settling.world.bag) settling.given ≡ None
    → is_some (counted_job 1 settling.world) ≡ job → can_flush setting (counted 1 settling.world.seats) settling.world ≡ flush
    → next_step setting settling ≡ (if job then Some (does setting (line.Work 1) settling) else if flush then Some (does setting (line.Flush 1) settling) else None)
by-parts setting settling job flush none jobs flushes =
    ap (λ (found : Option ℕ). next_by found
    (if is_some (counted_job 1 settling.world) then Some (does setting (line.Work 1) settling)
    else if can_flush setting (counted 1 settling.world.seats) settling.world then Some (does setting (line.Flush 1) settling)
    else None) setting settling) none
    ∙ (ap (λ (b : Bool). if b then Some (does setting (line.Work 1) settling)
    else if can_flush setting (counted 1 settling.world.seats) settling.world then Some (does setting (line.Flush 1) settling) else None) jobs
    ∙ ap (λ (b : Bool). if job then Some (does setting (line.Work 1) settling) else if b then Some (does setting (line.Flush 1) settling) else None) flushes)

job-by : (there done : Bool) → is_some (unless there (NoJob 1)) ≡ not done → there ≡ done
job-by true true told = refl
job-by true false told = cc
job-by false true told = cc
job-by false false told = refl

pub job-told : {S V : Type 0} (setting : Setting S V) (world : Rules S V) (done : Bool) → is_some (refusal setting world (line.Work 1)) ≡ not done
    → is_some (counted_job 1 world) ≡ done
job-told setting world done told = job-by (is_some (counted_job 1 world)) done told

pub worked-next : {S V : Type 0} (setting : Setting S V) (settling : Settling S V) → first_ungiven 1 (length settling.world.bag) settling.given ≡ None
    → is_some (counted_job 1 settling.world) ≡ true → next_step setting settling ≡ Some (does setting (line.Work 1) settling)
worked-next setting settling none job = by-parts setting settling true _ none job refl

pub flushed-next : {S V : Type 0} (setting : Setting S V) (settling : Settling S V) → first_ungiven 1 (length settling.world.bag) settling.given ≡ None
    → is_some (counted_job 1 settling.world) ≡ false → can_flush setting (counted 1 settling.world.seats) settling.world ≡ true
    → next_step setting settling ≡ Some (does setting (line.Flush 1) settling)
flushed-next setting settling none job flush = by-parts setting settling false true none job flush

-- ---- where it rests

ends : {S V : Type 0} (setting : Setting S V) (settling : Settling S V) (n : ℕ) → goes_on setting n settling None ≡ settling
ends setting settling zero = refl
ends setting settling (suc n) = refl

stays : {S V : Type 0} (setting : Setting S V) (settling : Settling S V) → next_step setting settling ≡ Some settling → (n : ℕ) → goes_on setting n settling (Some settling) ≡ settling
stays setting settling is zero = refl
stays {S} {V} setting settling is (suc n) = ap (λ (next : Option (Settling S V)). goes_on setting n settling next) is ∙ stays setting settling is n

rests-by : {S V : Type 0} (setting : Setting S V) (settling : Settling S V) (flush : Bool) → first_ungiven 1 (length settling.world.bag) settling.given ≡ None
    → is_some (counted_job 1 settling.world) ≡ false → can_flush setting (counted 1 settling.world.seats) settling.world ≡ flush
    → does setting (line.Flush 1) settling ≡ settling → Rests setting settling
rests-by {S} {V} setting settling true none job flush same =
    let is : next_step setting settling ≡ Some settling = by-parts setting settling false true none job flush ∙ ap Some same in
    λ n. ap (λ (next : Option (Settling S V)). goes_on setting n settling next) is ∙ stays setting settling is n
rests-by {S} {V} setting settling false none job flush same =
    λ n. ap (λ (next : Option (Settling S V)). goes_on setting n settling next) (by-parts setting settling false false none job flush) ∙ ends setting settling n

pub rests : {S V : Type 0} (setting : Setting S V) (settling : Settling S V) → first_ungiven 1 (length settling.world.bag) settling.given ≡ None
    → is_some (counted_job 1 settling.world) ≡ false → run.step setting settling.world (line.Flush 1) ≡ settling.world → Rests setting settling
rests {S} {V} setting settling none job same =
    rests-by setting settling (can_flush setting (counted 1 settling.world.seats) settling.world) none job refl
    (ap (λ (world : Rules S V). record settling { world = world }) same)

-- a flush, where neither a packet comes nor a job runs
pub flush-goes : {S V D : Type 0} (setting : Setting D V) (settling : Settling D V) (after : Loading S V D) (answer : Result Bool Memory)
    → first_ungiven 1 (length settling.world.bag) settling.given ≡ None → is_some (counted_job 1 settling.world) ≡ false → ArePlain settling.world
    → IfOk answer (λ made. Flushed setting settling made after) → IfOk answer (λ went. Goes setting settling went after)
flush-goes setting settling after (Err memory) none job plain flushed = tt
flush-goes setting settling after (Ok true) none job plain flushed =
    (does setting (line.Flush 1) settling, flushed-next setting settling none job (grown setting settling.world (flushed.grew refl)), flushed.stands)
flush-goes {S} {V} {D} setting settling after (Ok false) none job plain flushed =
    let same : run.step setting settling.world (line.Flush 1) ≡ settling.world = quiet setting settling.world plain (flushed.stayed refl) in (
      rests setting settling none job same,
      subst (λ (one : Settling D V). Stands setting after one) (ap (λ (world : Rules D V). record settling { world = world }) same) flushed.stands,
    )

-- what isn't done leaves all as it was
pub refused-same : {S V : Type 0} (setting : Setting S V) (settling : Settling S V) (event : Event) → is_some (refusal setting settling.world event) ≡ true
    → does setting event settling ≡ settling
refused-same {S} {V} setting settling event due =
    ap (λ (b : Bool). record settling { world = if b then settling.world else run.after setting settling.world event }) due

-- ---- by the number of a call

not-zero : (n : ℕ) → n ≢ 0 → eqb n 0 ≡ false
not-zero zero some = absurd (some refl)
not-zero (suc n) some = eqb-suc-zero n

pub restarted : {S V : Type 0} (setting : Setting S V) (number : ℕ) (settling : Settling S V) → number % 100 ≡ 0
    → restarts setting number settling ≡ does setting line.Restart (does setting (line.Flush 1) settling)
restarted setting number settling is =
    ap (λ (b : Bool). if b then does setting line.Restart (does setting (line.Flush 1) settling) else settling) (eq-eqb (number % 100) 0 is)

pub not-restarted : {S V : Type 0} (setting : Setting S V) (number : ℕ) (settling : Settling S V) → number % 100 ≢ 0 → restarts setting number settling ≡ settling
not-restarted setting number settling is =
    ap (λ (b : Bool). if b then does setting line.Restart (does setting (line.Flush 1) settling) else settling) (not-zero (number % 100) is)

pub repeated : {S V : Type 0} (setting : Setting S V) (number : ℕ) (settling : Settling S V) → number % 3 ≡ 0
    → repeats setting number settling ≡ settled setting (gives setting (1 + (7 * number) % length settling.world.bag) settling)
repeated setting number settling is =
    ap (λ (b : Bool). if b then settled setting (gives setting (1 + (7 * number) % length settling.world.bag) settling) else settling) (eq-eqb (number % 3) 0 is)

pub not-repeated : {S V : Type 0} (setting : Setting S V) (number : ℕ) (settling : Settling S V) → number % 3 ≢ 0 → repeats setting number settling ≡ settling
not-repeated setting number settling is =
    ap (λ (b : Bool). if b then settled setting (gives setting (1 + (7 * number) % length settling.world.bag) settling) else settling) (not-zero (number % 3) is)

-- ---- so far, and what is left

pub went : {S V : Type 0} (setting : Setting S V) (now next : Settling S V) (n m : ℕ) → n ≡ suc m → next_step setting now ≡ Some next
    → goes_on setting n now (next_step setting now) ≡ goes_on setting m next (next_step setting next)
went {S} {V} setting now next n m count is =
    ap (λ (n : ℕ). goes_on setting n now (next_step setting now)) count ∙ ap (λ (one : Option (Settling S V)). goes_on setting (suc m) now one) is

-- with so many steps left
abbrev pub SoFar : {S V D : Type 0} → Lock → (D → ℕ × D) → Step V → V → List RingKey → Loading S V D → ℕ → Loading S V D → Type 0
SoFar {S} {V} {D} lock draws serve fresh ring before left kept = OfEach lock draws serve fresh ring before (λ setting settling.
    (at : Settling D V) × Stands setting kept at × (settled setting settling ≡ goes_on setting left at (next_step setting at)))
