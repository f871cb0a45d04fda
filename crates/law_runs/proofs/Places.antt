-- Each client of a joint run is what its own deeds make of it, whatever the others do between.
use Rattle.std.proofs.Common.{◌≡◌, ◌∙◌, ℕ, zero, suc, if◌then◌else◌, Bool, Option, Some, None, List, [], ◌∷◌, ◌++◌, fold, refl, sym, ap, subst, inl, inr}
use Rattle.std.specs.Prelude.{max, option_map, slice_get}
use Rattle.std.proofs.lemmas.Bool.{cases_Bool}
use Rattle.std.proofs.lemmas.List.Sums.{fold-append}
use Rattle.msg_ids.specs.Moments.{moment_of}
use Rattle.envelope.specs.declared.parts.Dir.TheVariants.{Down}
use Rattle.server_node.specs.Trace.{Act, Attach, Hear, Run as Runs, Tick}
use Rattle.client_rules.specs.Client.{Client}
use Rattle.client_rules.specs.Events as wishes
use Rattle.client_rules.specs.Events.{Run, made}
use Rattle.world_rules.specs.Refusals.{call_numbered}
use Rattle.world_rules.specs.Setting.{Setting, at_client}
use Rattle.world_rules.specs.World.{Seat, World, changed_from_0}
use Rattle.world_rules.specs.Ends.{acts, comes_down, flushed_at, flushes, seated}
use Rattle.world_rules.specs.Run.{set}
use Rattle.law_connections.specs.Joint.{Deed, Joint, Step, Attaches, Begins, Does, Draws, Flushes, Hears, Renews, Serves, Starts, Submits, at_client_moment, did, does, drawing, joint_from, served, steps_on, temporary_in}
use Rattle.law_runs.specs.Parts.{Part, part_on, with_deed}
use Rattle.law_runs.proofs.Owns.{done, done_all}

none-some : {X : Type 0} (x : X) → None ≡ Some x → ⊥
none-some x is = absurd (cc)

some-same : {X : Type 0} (x y : X) → Some x ≡ Some y → x ≡ y
some-same x y is = cc

-- ---- a list of which one member changes

changed-twice : {X : Type 0} (place : ℕ) (first second : X → X) (xs : List X) → changed_from_0 place second (changed_from_0 place first xs) ≡ changed_from_0 place (λ x. second (first x)) xs
changed-twice place first second [] = refl
changed-twice zero first second (x ∷ xs) = refl
changed-twice (suc place) first second (x ∷ xs) = ap (λ (rest : List _). x ∷ rest) (changed-twice place first second xs)

changed-get : {X : Type 0} (place : ℕ) (change : X → X) (xs : List X) (x : X) → slice_get xs place ≡ Some x → slice_get (changed_from_0 place change xs) place ≡ Some (change x)
changed-get place change [] x is = absurd (none-some x is)
changed-get zero change (first ∷ xs) x is = ap (λ (x : _). Some (change x)) (some-same first x is)
changed-get (suc place) change (first ∷ xs) x is = changed-get place change xs x is

-- ---- what a deed makes of a client in its place

-- by this change of its seat the client and its draw are such
pub record IsDid {S V : Type 0} (behind : World S V) (seats : List Seat) (place : ℕ) (seat : Seat) (run : Run S) : Type 0 where
  pub change : Seat → Seat
  pub seats_are : behind.seats ≡ changed_from_0 place change seats
  pub client : (change seat).client ≡ run.client
  pub draw : behind.draw ≡ run.draw

module _ {S V : Type 0} (setting : Setting S V) where
  abbrev run_at : Seat → World S V → Run S
  run_at seat world = record { client = seat.client; draw = world.draw }

  module _ (world : World S V) (place : ℕ) (seat : Seat) (is : slice_get world.seats place ≡ Some seat) where
    wished : (wish : wishes.Event) → IsDid (seated (slice_get world.seats place) (λ seat. acts setting (suc place) seat wish) world) world.seats place seat (wishes.step (at_client setting) (run_at seat world) wish)
    wished wish =
        let e : seated (slice_get world.seats place) (λ seat. acts setting (suc place) seat wish) world ≡ acts setting (suc place) seat wish world =
        ap (λ (found : Option Seat). seated found (λ seat. acts setting (suc place) seat wish) world) is in
        record {
          change = λ old. record old { client = (wishes.step (at_client setting) (run_at seat world) wish).client };
          seats_are = ap (λ (w : World S V). w.seats) e;
          client = refl;
          draw = ap (λ (w : World S V). w.draw) e;
        }

    abbrev timed : ℕ → World S V
    timed now = at_client_moment setting (suc place) now world

    timed_is : (now : ℕ) → slice_get (timed now).seats place ≡ Some (set now seat)
    timed_is now = changed-get place (set now) world.seats seat is

    flushed : (now : ℕ) → IsDid (did setting (suc place) (Flushes now) world) world.seats place seat (done setting (run_at seat world) (Flushes now))
    flushed now =
        let e : did setting (suc place) (Flushes now) world ≡ flushes setting (suc place) (set now seat) (timed now) =
        ap (λ (found : Option Seat). seated found (flushes setting (suc place)) (timed now)) (timed_is now) in
        let there : Client = (flushed_at setting (set now seat) (timed now)).client in
        record {
          change = λ old. record (set now old) { client = there };
          seats_are = ap (λ (w : World S V). w.seats) e ∙ changed-twice place (set now) (λ old. record old { client = there }) world.seats;
          client = refl;
          draw = ap (λ (w : World S V). w.draw) e;
        }

    heard : (now : ℕ) (packet : List ℕ) → IsDid (did setting (suc place) (Hears now packet) world) world.seats place seat (done setting (run_at seat world) (Hears now packet))
    heard now packet =
        let at : Seat = set now seat in
        let e : did setting (suc place) (Hears now packet) world ≡ comes_down setting (suc place) packet at (timed now) =
        ap (λ (found : Option Seat). seated found (comes_down setting (suc place) packet) (timed now)) (timed_is now) in
        let wish = wishes.Take (moment_of now) (setting.opens (max seat.client.now (moment_of now)) Down packet) in
        elim (cases_Bool seat.client.has_ended) [
          | inl over ↦
              let f : did setting (suc place) (Hears now packet) world ≡ timed now =
              e ∙ ap (λ (b : Bool). if b then timed now else acts setting (suc place) at wish (timed now)) over in
              record {
                change = set now;
                seats_are = ap (λ (w : World S V). w.seats) f;
                client = sym (ap (λ (b : Bool). if b then seat.client else (wishes.step (at_client setting) (run_at seat world) wish).client) over);
                draw = ap (λ (w : World S V). w.draw) f;
              }
          | inr on ↦
              let f : did setting (suc place) (Hears now packet) world ≡ acts setting (suc place) at wish (timed now) =
              e ∙ ap (λ (b : Bool). if b then timed now else acts setting (suc place) at wish (timed now)) on in
              let there : Client = (wishes.step (at_client setting) (run_at seat world) wish).client in
              record {
                change = λ old. record (set now old) { client = there };
                seats_are = ap (λ (w : World S V). w.seats) f ∙ changed-twice place (set now) (λ old. record old { client = there }) world.seats;
                client = sym (ap (λ (b : Bool). if b then seat.client else there) on);
                draw = ap (λ (w : World S V). w.draw) f;
              }
        ]

    pub did_at : (deed : Deed) → IsDid (did setting (suc place) deed world) world.seats place seat (done setting (run_at seat world) deed)
    did_at (Submits body earlier) =
        let d = wished (wishes.Submit body (option_map call_numbered earlier)) in
        record { change = d.change; seats_are = d.seats_are; client = d.client; draw = d.draw }
    did_at (Draws words) = record { change = λ old. old; seats_are = sym (unchanged place world.seats); client = refl; draw = refl } where
      unchanged : (place : ℕ) (seats : List Seat) → changed_from_0 place (λ old. old) seats ≡ seats
      unchanged place [] = refl
      unchanged zero (one ∷ seats) = refl
      unchanged (suc place) (one ∷ seats) = ap (λ (rest : List Seat). one ∷ rest) (unchanged place seats)
    did_at Attaches = let d = wished wishes.Attach in record { change = d.change; seats_are = d.seats_are; client = d.client; draw = d.draw }
    did_at Renews = let d = wished wishes.Renew in record { change = d.change; seats_are = d.seats_are; client = d.client; draw = d.draw }
    did_at (Flushes now) = flushed now
    did_at (Hears now packet) = heard now packet

  -- ---- all clients

  abbrev pub run_by : Part S → Run S
  run_by part = done_all setting (made (at_client setting) part.keys.key (temporary_in part.keys.bound_to) part.draw) part.deeds

  abbrev pub AreDone : List (Part S) → List Seat → List S → Type 0
  AreDone [] [] [] = Unit {0}
  AreDone (part ∷ parts) (seat ∷ seats) (draw ∷ draws) = (seat.client ≡ (run_by part).client) × (draw ≡ (run_by part).draw) × AreDone parts seats draws
  AreDone _ _ _ = ⊥

  one_more : (part : Part S) (deed : Deed) → run_by (with_deed deed part) ≡ done setting (run_by part) deed
  one_more part deed = fold-append (done setting) (made (at_client setting) part.keys.key (temporary_in part.keys.bound_to) part.draw) part.deeds (deed ∷ [])

  joined : (parts : List (Part S)) (seats : List Seat) (draws : List S) (part : Part S) (seat : Seat) (draw : S) → AreDone parts seats draws
      → seat.client ≡ (run_by part).client → draw ≡ (run_by part).draw → AreDone (parts ++ part ∷ []) (seats ++ seat ∷ []) (draws ++ draw ∷ [])
  joined [] [] [] part seat draw are client drawn = (client, drawn, tt)
  joined (one ∷ parts) (other ∷ seats) (word ∷ draws) part seat draw are client drawn = (are.0, are.1, joined parts seats draws part seat draw are.2 client drawn)
  joined [] [] (word ∷ draws) part seat draw are client drawn = absurd are
  joined [] (other ∷ seats) draws part seat draw are client drawn = absurd are
  joined (one ∷ parts) [] draws part seat draw are client drawn = absurd are
  joined (one ∷ parts) (other ∷ seats) [] part seat draw are client drawn = absurd are

  -- a seat where there is a draw, whose run its part tells
  pub record IsThere (place : ℕ) (parts : List (Part S)) (seats : List Seat) (draw : S) : Type 0 where
    pub seat : Seat
    pub at : slice_get seats place ≡ Some seat

  seat_at : (place : ℕ) (parts : List (Part S)) (seats : List Seat) (draws : List S) (draw : S) → AreDone parts seats draws → slice_get draws place ≡ Some draw → IsThere place parts seats draw
  seat_at place parts seats [] draw are is = absurd (none-some draw is)
  seat_at zero (part ∷ parts) (seat ∷ seats) (word ∷ draws) draw are is = record { seat = seat; at = refl }
  seat_at (suc place) (part ∷ parts) (seat ∷ seats) (word ∷ draws) draw are is =
      let there = seat_at place parts seats draws draw are.2 is in record { seat = there.seat; at = there.at }
  seat_at place [] [] (word ∷ draws) draw are is = absurd are
  seat_at place [] (other ∷ seats) (word ∷ draws) draw are is = absurd are
  seat_at place (one ∷ parts) [] (word ∷ draws) draw are is = absurd are

  changed : (place : ℕ) (parts : List (Part S)) (seats : List Seat) (draws : List S) (deed : Deed) (seat : Seat) (draw drawn : S) (change : Seat → Seat) → AreDone parts seats draws
      → slice_get seats place ≡ Some seat → slice_get draws place ≡ Some draw → (change seat).client ≡ (done setting (record { client = seat.client; draw = draw }) deed).client
      → drawn ≡ (done setting (record { client = seat.client; draw = draw }) deed).draw
      → AreDone (changed_from_0 place (with_deed deed) parts) (changed_from_0 place change seats) (changed_from_0 place (λ other. drawn) draws)
  changed place parts [] draws deed seat draw drawn change are at from client is = absurd (none-some seat at)
  changed place parts (other ∷ seats) [] deed seat draw drawn change are at from client is = absurd (none-some draw from)
  changed place [] (other ∷ seats) (word ∷ draws) deed seat draw drawn change are at from client is = absurd are
  changed zero (part ∷ parts) (other ∷ seats) (word ∷ draws) deed seat draw drawn change are at from client is =
      let same : other ≡ seat = some-same other seat at in
      let own : word ≡ draw = some-same word draw from in
      let run : record { client = seat.client; draw = draw } ≡ run_by part =
      ap (λ (s : Seat). record { client = s.client; draw = draw }) (sym same) ∙ (ap (λ (d : S). record { client = other.client; draw = d }) (sym own)
      ∙ (ap (λ (c : Client). record { client = c; draw = word }) are.0 ∙ ap (λ (d : S). record { client = (run_by part).client; draw = d }) are.1)) in
      let on : done setting (record { client = seat.client; draw = draw }) deed ≡ run_by (with_deed deed part) =
      ap (λ (r : Run S). done setting r deed) run ∙ sym (one_more part deed) in (
        ap (λ (s : Seat). (change s).client) same ∙ (client ∙ ap (λ (r : Run S). r.client) on),
        is ∙ ap (λ (r : Run S). r.draw) on,
        are.2,
      )
  changed (suc place) (part ∷ parts) (other ∷ seats) (word ∷ draws) deed seat draw drawn change are at from client is =
      (are.0, are.1, changed place parts seats draws deed seat draw drawn change are.2 at from client is)

  -- ---- steps

  -- the server's steps leave the clients
  pub served_seats : (act : Act) (world : World S V) → (served setting act world).seats ≡ world.seats
  served_seats (Hear now packet) world = refl
  served_seats (Attach now name) world = refl
  served_seats (Tick now) world = refl
  served_seats (Runs now) world = refl

  does_done : (place : ℕ) (deed : Deed) (found : Option S) (parts : List (Part S)) (joint : Joint S V) → slice_get joint.draws place ≡ found → AreDone parts joint.world.seats joint.draws
      → AreDone (changed_from_0 place (with_deed deed) parts) (does setting (suc place) deed found joint).world.seats (does setting (suc place) deed found joint).draws
  does_done place deed None parts joint is are = nobody place parts joint.world.seats joint.draws is are where
    nobody : (place : ℕ) (parts : List (Part S)) (seats : List Seat) (draws : List S) → slice_get draws place ≡ None → AreDone parts seats draws
        → AreDone (changed_from_0 place (with_deed deed) parts) seats draws
    nobody place [] seats draws none are = are
    nobody zero (part ∷ parts) (seat ∷ seats) (word ∷ draws) none are = absurd (none-some word (sym none))
    nobody (suc place) (part ∷ parts) (seat ∷ seats) (word ∷ draws) none are = (are.0, are.1, nobody place parts seats draws none are.2)
    nobody place (part ∷ parts) [] draws none are = absurd are
    nobody place (part ∷ parts) (seat ∷ seats) [] none are = absurd are
  does_done place deed (Some draw) parts joint is are =
      let there = seat_at place parts joint.world.seats joint.draws draw are is in
      let here : World S V = drawing draw joint.world in
      let d = did_at here place there.seat there.at deed in
      subst (λ (seats : List Seat). AreDone (changed_from_0 place (with_deed deed) parts) seats (changed_from_0 place (λ other. (did setting (suc place) deed here).draw) joint.draws)) (sym d.seats_are)
      (changed place parts joint.world.seats joint.draws deed there.seat draw (did setting (suc place) deed here).draw d.change are there.at is d.client d.draw)

  pub step_done : (step : Step S) (parts : List (Part S)) (joint : Joint S V) → AreDone parts joint.world.seats joint.draws
      → AreDone (part_on parts step) (steps_on setting joint step).world.seats (steps_on setting joint step).draws
  step_done (Serves act) parts joint are = subst (λ (seats : List Seat). AreDone parts seats joint.draws) (sym (served_seats act joint.world)) are
  step_done (Starts draw) parts joint are = are
  step_done (Begins keys draw) parts joint are =
      let there = made (at_client setting) keys.key (temporary_in keys.bound_to) draw in
      joined parts joint.world.seats joint.draws (record { keys = keys; draw = draw; deeds = [] }) (record { client = there.client; clock = 0 }) there.draw are refl refl
  step_done (Does zero deed) parts joint are = are
  step_done (Does (suc place) deed) parts joint are = does_done place deed (slice_get joint.draws place) parts joint refl are

  pub all_done : (steps : List (Step S)) (parts : List (Part S)) (joint : Joint S V) → AreDone parts joint.world.seats joint.draws
      → AreDone (fold part_on parts steps) (joint_from setting joint steps).world.seats (joint_from setting joint steps).draws
  all_done [] parts joint are = are
  all_done (step ∷ steps) parts joint are = all_done steps (part_on parts step) (steps_on setting joint step) (step_done step parts joint are)
