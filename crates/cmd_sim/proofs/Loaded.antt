-- The world of a large schedule is that of a list of events.
use Rattle.std.proofs.Common.{◌≡◌, ◌∙◌, ◌*◌, ◌+◌, ◌%◌, ◌==◌, ◌<◌, ℕ, zero, suc, Bool, true, false, if◌then◌else◌, Option, Some, None, List, [], ◌∷◌, ◌++◌, codes, length, map, refl, ap, sym, subst, arith}
use Rattle.std.specs.Prelude.{IfSome, is_some}
use Rattle.std.specs.List.{AllByRecursion, All}
use Rattle.std.proofs.lemmas.List.Sums.{fold_push}
use Rattle.octets.specs.Bytes.{IsBytes}
use Rattle.sched_text.specs.Bodies.{add_body}
use Rattle.sched_text.specs.declared.event.Event.{Event}
use Rattle.sched_text.specs.declared.event.Event.TheVariants as line
use Rattle.sched_text.specs.declared.schedule.Placed.{Placed}
use Rattle.tl_codec.specs.Spelling.{spelling}
use Rattle.world_rules.specs.Load.{Settling, call_of_load, can_flush, does, first_ungiven, gives, goes_on, load, next_by, next_step, repeats, restarts, round, rounds, settled, settling_max}
use Rattle.world_rules.specs.Premises.{IsOfBytes}
use Rattle.world_rules.specs.Run.{events_of, run_of, step}
use Rattle.world_rules.specs.Setting.{Setting}
use Rattle.world_rules.specs.World.{begins, counted, counted_job}

-- ---- its call

bytes-of : IsBytes [] → ((x : ℕ) (xs : List ℕ) → x < 256 → IsBytes xs → IsBytes (x ∷ xs)) → (xs : List ℕ) → AllByRecursion (λ x. x < 256) xs → IsBytes xs
bytes-of nil cons [] small = nil
bytes-of nil cons (x ∷ xs) small = cons x xs small.0 (bytes-of nil cons xs small.1)

abbrev body : List ℕ
body = 1 ∷ 44 ∷ 27 ∷ 10 ∷ 1 ∷ 120 ∷ 0 ∷ 0 ∷ 1 ∷ 0 ∷ 0 ∷ 0 ∷ 0 ∷ 0 ∷ 0 ∷ 0 ∷ []

body-of-call : add_body (codes "x") 1 ≡ body
unfolding spelling
body-of-call = refl

pub call-is-bytes : IsBytes [] → ((x : ℕ) (xs : List ℕ) → x < 256 → IsBytes xs → IsBytes (x ∷ xs)) → IsOfBytes call_of_load
call-is-bytes nil cons =
    let small : AllByRecursion (λ x. x < 256) body = (omega arith, (omega arith, (omega arith, (omega arith, (omega arith, (omega arith, (omega arith, (omega arith, (omega arith, (omega arith, (omega arith, (omega arith, (omega arith, (omega arith, (omega arith, (omega arith, tt)))))))))))))))) in
    subst IsBytes (sym body-of-call) (bytes-of nil cons body small)

-- ---- its events

module _ {S V : Type 0} (setting : Setting S V) (draw : S) where
  -- a list of events makes its world, and their bodies are bytes
  record Played (settling : Settling S V) : Type 0 where
    events : List Event
    world : settling.world ≡ run_of setting draw events
    bytes : AllByRecursion IsOfBytes events

  all-push : (events : List Event) (event : Event) → AllByRecursion IsOfBytes events → IsOfBytes event → AllByRecursion IsOfBytes (events ++ event ∷ [])
  all-push [] event h own = (own, tt)
  all-push (first ∷ events) event h own = (h.0, all-push events event h.1 own)

  does-played : (event : Event) (settling : Settling S V) → IsOfBytes event → Played settling → Played (does setting event settling)
  does-played event settling own h = record {
    events = h.events ++ event ∷ [];
    world = ap (λ world. step setting world event) h.world ∙ sym (fold_push (step setting) (begins setting draw) h.events event);
    bytes = all-push h.events event h.bytes own;
  }

  gives-played : (packet : ℕ) (settling : Settling S V) → Played settling → Played (gives setting packet settling)
  gives-played packet settling h =
      let done = does-played (line.Give packet) settling tt h in
      record { events = done.events; world = done.world; bytes = done.bytes }

  if-played : (b : Bool) (one other : Option (Settling S V)) → IfSome one Played → IfSome other Played → IfSome (if b then one else other) Played
  if-played true one other h k = h
  if-played false one other h k = k

  by-played : (packet : Option ℕ) (other : Option (Settling S V)) (settling : Settling S V) → Played settling → IfSome other Played
      → IfSome (next_by packet other setting settling) Played
  by-played None other settling h k = k
  by-played (Some packet) other settling h k = gives-played packet settling h

  next-played : (settling : Settling S V) → Played settling → IfSome (next_step setting settling) Played
  next-played settling h =
      let flushes = can_flush setting (counted 1 settling.world.seats) settling.world in
      let flushed = if flushes then Some (does setting (line.Flush 1) settling) else None in
      by-played (first_ungiven 1 (length settling.world.bag) settling.given)
      (if is_some (counted_job 1 settling.world) then Some (does setting (line.Work 1) settling) else flushed) settling h
      (if-played (is_some (counted_job 1 settling.world)) (Some (does setting (line.Work 1) settling)) flushed (does-played (line.Work 1) settling tt h)
      (if-played flushes (Some (does setting (line.Flush 1) settling)) None (does-played (line.Flush 1) settling tt h) tt))

  goes-played : (n : ℕ) (settling : Settling S V) (next : Option (Settling S V)) → Played settling → IfSome next Played → Played (goes_on setting n settling next)
  goes-played zero settling next h k = h
  goes-played (suc n) settling None h k = h
  goes-played (suc n) settling (Some next) h k = goes-played n next (next_step setting next) k (next-played next k)

  settled-played : (settling : Settling S V) → Played settling → Played (settled setting settling)
  settled-played settling h = goes-played settling_max settling (next_step setting settling) h (next-played settling h)

  one-played : (b : Bool) (one other : Settling S V) → Played one → Played other → Played (if b then one else other)
  one-played true one other h k = h
  one-played false one other h k = k

  restarts-played : (i : ℕ) (settling : Settling S V) → Played settling → Played (restarts setting i settling)
  restarts-played i settling h =
      one-played (i % 100 == 0) (does setting line.Restart (does setting (line.Flush 1) settling)) settling
      (does-played line.Restart (does setting (line.Flush 1) settling) tt (does-played (line.Flush 1) settling tt h)) h

  repeats-played : (i : ℕ) (settling : Settling S V) → Played settling → Played (repeats setting i settling)
  repeats-played i settling h =
      let packet = 1 + (7 * i) % length settling.world.bag in
      one-played (i % 3 == 0) (settled setting (gives setting packet settling)) settling
      (settled-played (gives setting packet settling) (gives-played packet settling h)) h

  round-played : (i : ℕ) (settling : Settling S V) → IsOfBytes call_of_load → Played settling → Played (round setting i settling)
  round-played i settling own h =
      let called = does setting call_of_load settling in
      let restarted = restarts setting i called in
      repeats-played i (settled setting restarted)
      (settled-played restarted (restarts-played i called (does-played call_of_load settling own h)))

  rounds-played : (n : ℕ) (settling : Settling S V) → IsOfBytes call_of_load → Played settling → Played (rounds setting n settling)
  rounds-played zero settling own h = h
  rounds-played (suc n) settling own h = round-played (suc n) (rounds setting n settling) own (rounds-played n settling own h)

  -- ---- with lines, of which the rules see nothing

  abbrev placed : Event → Placed
  placed event = record { event = event; line = 0 }

  same-events : (events : List Event) → events_of (map placed events) ≡ events
  same-events [] = refl
  same-events (event ∷ events) = ap (λ others. event ∷ others) (same-events events)

  at-all : (events : List Event) → AllByRecursion IsOfBytes events → All IsOfBytes events
  at-all [] h k d below = absurd (omega arith)
  at-all (event ∷ events) h zero d below = h.0
  at-all (event ∷ events) h (suc k) d below = at-all events h.1 k d (omega arith)

  pub load-played : (calls : ℕ) → IsOfBytes call_of_load
      → (events : List Placed) × (load setting draw calls ≡ run_of setting draw (events_of events)) × All IsOfBytes (events_of events)
  load-played calls own =
      let begun : Settling S V = record { world = begins setting draw; given = [] } in
      let fresh : Played begun = record { events = []; world = refl; bytes = tt } in
      let played = rounds-played calls (does setting line.Client begun) own (does-played line.Client begun tt fresh) in
      let same = same-events played.events in
      (map placed played.events, played.world ∙ ap (λ events. run_of setting draw events) (sym same), subst (λ events. All IsOfBytes events) (sym same) (at-all played.events played.bytes))
