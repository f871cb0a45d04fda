-- The clients of a joint run are those that the runs of `call` left.
use Rattle.std.proofs.Common.{◌≡◌, ◌∙◌, ℕ, ◌+◌, false, Option, Some, None, List, [], ◌∷◌, ◌++◌, map, length, length-append, refl, sym, ap, subst, arith}
use Rattle.std.specs.Prelude.{is_none, option_map, if◌then◌else◌}
use Rattle.std.specs.List.{AllByRecursion}
use Rattle.std.proofs.lemmas.List.Sums.{fold-append}
use Rattle.auth_keys.specs.declared.ring.RingKey.{RingKey}
use Rattle.call_script.specs.declared.script.ScriptCall.{ScriptCall}
use Rattle.call_table.specs.Table.{new_call}
use Rattle.client_rules.specs.Asking.{Fault, fault_at, submit_fault, submitted}
use Rattle.client_core.specs.Keys.{BoundTo, Keys}
use Rattle.client_rules.specs.Client.{Client, calls_of, temporary_of}
use Rattle.client_rules.specs.Events.{Run, unless_fault}
use Rattle.client_node.specs.Course.{Course}
use Rattle.cmd_call.specs.Keys.{client_under}
use Rattle.cmd_call.specs.Script.{earlier_of, fault_of, first_of, given, given_all, untaken_from}
use Rattle.cmd_serve.specs.Runs.{Registers}
use Rattle.draws.specs.Draws.{draw_after, word_after}
use Rattle.world_rules.specs.Setting.{Setting}
use Rattle.world_rules.specs.World.{Seat}
use Rattle.law_connections.specs.Joint.{Step, joint_of, nobody_yet}
use Rattle.law_runs.specs.Deeds.{batches_deeds, given_deeds}
use Rattle.law_runs.specs.Joining.{AreJoint, AreLeft, AreTimely, AreWhole, Called, Served, Shares, batch_begins, client_rules_under, left_by, part_by, setting_under}
use Rattle.law_runs.specs.Parts.{Part}
use Rattle.law_runs.proofs.Owns.{done, done_all}
use Rattle.law_runs.proofs.Living.{perm_of, sign_of}
use Rattle.law_runs.proofs.Rings.{sign_under}
use Rattle.law_runs.proofs.Batches.{AreTimely as AreTimelyDeeds, Lives, timely-back}
use Rattle.law_runs.proofs.Attempts.{batches-tied}
use Rattle.law_runs.proofs.Places.{AreDone, all_done, run_by}

-- ---- the calls of a script are taken

first-none : (line : ℕ) (found : Option Fault) (later : Option (ℕ × Fault)) → first_of line found later ≡ None → (found ≡ None) × (later ≡ None)
first-none line None later is = (refl, is)
first-none line (Some fault) later is = absurd (let e : Some (line, fault) ≡ None = is in cc)

taken-so : (body : List ℕ) (call : ScriptCall) (client : Client) → submit_fault call.body (earlier_of call.after) client ≡ None
    → unless_fault call.body (earlier_of call.after) client ≡ given client call
taken-so body call client none =
    ap (λ (found : Option Fault). if is_none found then submitted call.body (earlier_of call.after) client else client) none

fresh-sign : (keys : Keys) (session : ℕ) → sign_of (client_under keys session) ≡ sign_under keys
fresh-sign keys session = ap (λ (perm : Option ℕ). (keys.key, perm)) (bound keys.bound_to) where
  bound : (one : Option BoundTo) → perm_of (option_map (λ (one : BoundTo). temporary_of one.perm one.expires) one) ≡ option_map (λ (one : BoundTo). one.perm) one
  bound None = refl
  bound (Some one) = refl

module _ {D : Type 0} (step : D → ℕ × D) (ring : List RingKey) where
  abbrev setting : Setting D Registers
  setting = setting_under step ring

  given-tied : (calls : List ScriptCall) (place : ℕ) (client : Client) (draw : D) → length (calls_of client) ≡ place → untaken_from place calls ≡ None
      → done_all setting (record { client = client; draw = draw }) (given_deeds calls) ≡ record { client = given_all calls client; draw = draw }
  given-tied [] place client draw count none = refl
  given-tied (call ∷ calls) place client draw count none =
      let parts = first-none call.line (fault_of place call) (untaken_from (place + 1) calls) none in
      let fine : submit_fault call.body (earlier_of call.after) client ≡ None = ap (λ (n : ℕ). fault_at n call.body (earlier_of call.after)) count ∙ parts.0 in
      let one : length (calls_of client ++ new_call call.body (earlier_of call.after) ∷ []) ≡ length (calls_of client) + 1 =
      length-append (calls_of client) (new_call call.body (earlier_of call.after) ∷ []) in
      let more : length (calls_of (given client call)) ≡ place + 1 = omega (arith, one, count) in
      ap (λ (c : Client). done_all setting (record { client = c; draw = draw }) (given_deeds calls)) (taken-so call.body call client fine)
      ∙ given-tied calls (place + 1) (given client call) draw more parts.1

  given-sign : (calls : List ScriptCall) (client : Client) → sign_of (given_all calls client) ≡ sign_of client
  given-sign [] client = refl
  given-sign (call ∷ calls) client = given-sign calls (given client call)

  given-lives : (calls : List ScriptCall) (client : Client) → client.has_ended ≡ false → (given_all calls client).has_ended ≡ false
  given-lives [] client lives = lives
  given-lives (call ∷ calls) client lives = given-lives calls (given client call) lives

  -- ---- a run of `call`, or of `pair`

  pub left-tied : (run : Called step) → Shares ring run.ring run.keys → AreTimelyDeeds (part_by run).deeds → (run_by setting (part_by run)).client ≡ left_by run
  left-tied run shares timely =
      let rules = client_rules_under step run.ring in
      let draw = draw_after step 1 run.draw in
      let fresh : Client = client_under run.keys (word_after step 0 run.draw) in
      let course : Course D = batch_begins step run.keys run.calls run.draw in
      let deeds = batches_deeds rules course run.batches in
      let given = given-tied run.calls 0 fresh draw refl run.taken in
      let lives : Lives run.keys course = record {
        phase = tt;
        client = given-lives run.calls fresh refl;
        sign = given-sign run.calls fresh ∙ fresh-sign run.keys (word_after step 0 run.draw);
      } in
      let batch = batches-tied step ring run.ring run.keys shares course run.batches run.are (timely-back (given_deeds run.calls) deeds timely) lives in
      ap (λ (r : Run D). r.client)
      (fold-append (done setting) (record { client = fresh; draw = draw }) (given_deeds run.calls) deeds
      ∙ (ap (λ (r : Run D). done_all setting r deeds) given ∙ sym batch))

  -- ---- all of them

  abbrev AllShare : List (Called step) → Type 0
  AllShare called = AllByRecursion (λ (run : Called step). Shares ring run.ring run.keys) called

  all-left : (called : List (Called step)) (seats : List Seat) (draws : List D) → AreDone setting (map (λ (run : Called step). part_by run) called) seats draws
      → AllShare called → AllByRecursion (λ (run : Called step). AreTimelyDeeds (part_by run).deeds) called → AreLeft called seats
  all-left [] [] [] are keyed timely = tt
  all-left [] (seat ∷ seats) [] are keyed timely = absurd are
  all-left [] [] (draw ∷ draws) are keyed timely = absurd are
  all-left [] (seat ∷ seats) (draw ∷ draws) are keyed timely = absurd are
  all-left (run ∷ called) [] draws are keyed timely = absurd are
  all-left (run ∷ called) (seat ∷ seats) [] are keyed timely = absurd are
  all-left (run ∷ called) (seat ∷ seats) (draw ∷ draws) are keyed timely = (are.0 ∙ left-tied run keyed.0 timely.0, all-left called seats draws are.2 keyed.1 timely.1)

  pub clients-left : (draw : D) (served : List (Served step ring)) (called : List (Called step)) (steps : List (Step D)) → AreJoint step ring draw served called steps
      → AreWhole draw served called steps → AreTimely served called → AreLeft called (joint_of setting draw steps).world.seats
  clients-left draw served called steps joint whole timely =
      let all = all_done setting steps [] (nobody_yet setting draw) tt in
      all-left called (joint_of setting draw steps).world.seats (joint_of setting draw steps).draws
      (subst (λ (parts : List (Part D)). AreDone setting parts (joint_of setting draw steps).world.seats (joint_of setting draw steps).draws) whole.clients all) joint.keyed timely.clients
