-- The server of a joint run is the one that the last run of `serve` left.
use Rattle.std.proofs.Common.{◌≡◌, ◌∙◌, ℕ, ◌≤◌, List, [], ◌∷◌, ◌++◌, Option, Some, None, Err, inl, inr, fold, map, refl, sym, ap, subst}
use Rattle.std.specs.Prelude.{◌⊎◌, max, option_map}
use Rattle.std.proofs.lemmas.Bool.{cond_both}
use Rattle.std.specs.List.{AllByRecursion}
use Rattle.std.proofs.Math.Nat.{min-eq_left}
use Rattle.std.proofs.lemmas.List.Sums.{fold-append}
use Rattle.auth_keys.specs.declared.ring.RingKey.{RingKey}
use Rattle.msg_ids.specs.Moments.{latest_moment, moment_of}
use Rattle.envelope.specs.Lock.{mt_lock}
use Rattle.envelope.specs.declared.parts.Dir.TheVariants.{Up, Down}
use Rattle.envelope.specs.declared.parts.Envelope.{Envelope}
use Rattle.envelope.specs.declared.refusal.Refusal.{Refusal}
use Rattle.envelope.specs.declared.refusal.Refusal.TheVariants as refusals
use Rattle.regs_service.specs.Registers as registers
use Rattle.ring_rules.specs.Opening.{opened}
use Rattle.server_rules.specs.Server.{Server, fresh_server}
use Rattle.server_rules.specs.Answer.{after_attach, after_tick, after_work}
use Rattle.client_rules.specs.Events as wishes
use Rattle.server_rules.specs.Events as events
use Rattle.server_rules.specs.Events.{Course, after_event}
use Rattle.server_node.specs.Connection.{Close, Heard, Hearing, Place, Spent, Turn, Unbegun, Unfed, Unread, Working, began, closes, turned, turns_from}
use Rattle.server_core.specs.declared.desk.DeskFault.{DeskFault}
use Rattle.server_node.specs.Served.{LeavesBy, Serves}
use Rattle.server_node.specs.Trace.{Act, Attach, Hear, Rules, Run, Talk, Tick, after_act, after_acts, hears_as, moment_at, packets_acts, rules_of, work_acts}
use Rattle.server_node.specs.declared.conn.ConnEnd.{ConnEnd}
use Rattle.server_node.specs.declared.conn.ConnEnd.TheVariants as ends
use Rattle.cmd_serve.specs.Connections.{AllGoOn, AreConnections, Between, Connection, GoesOn, IsConnection, behind_all, talk_at}
use Rattle.cmd_serve.specs.Packets.{answer_of, outside_of, refusal_of}
use Rattle.cmd_serve.specs.Runs.{Registers}
use Rattle.world_rules.specs.Setting.{Setting, as_heard, at_server}
use Rattle.world_rules.specs.World.{Seat, World, counted, seat_now}
use Rattle.world_rules.specs.Ends.{acts, comes_down, flushes, seated}
use Rattle.law_connections.specs.Joint.{Deed, Joint, Step, Attaches, Begins, Does, Draws, Flushes, Hears, Renews, Serves as Acts, Starts, Submits, at_client_moment, did, does, drawing, joint_from, joint_of, nobody_yet, served, steps_on}
use Rattle.law_runs.specs.Acts.{close_acts, connection_acts, run_acts, trace_acts, turn_acts, turns_acts}
use Rattle.law_runs.specs.Joining.{AreTimely, AreWhole, Called, IsServerLeft, IsTimelyAct, Served, setting_under, start_by}
use Rattle.law_runs.specs.Parts.{Start, start_on}
use Rattle.law_runs.proofs.InTurn.{AreInTurn}
use Rattle.law_runs.proofs.Turns.{connections-in-turn}

-- ---- what a server's events make of it

pub record Host (S V : Type 0) : Type 0 where
  pub server : Server
  pub service : V
  pub draw : S

abbrev of_world : {S V : Type 0} → World S V → Host S V
of_world world = record { server = world.server; service = world.service; draw = world.draw }

abbrev of_talk : {S V : Type 0} → Talk S V → Host S V
of_talk talk = record { server = talk.server; service = talk.service; draw = talk.draw }

abbrev of_between : {S V : Type 0} → Between S V → Host S V
of_between between = record { server = between.server; service = between.service; draw = between.draw }

abbrev of_course : {S V : Type 0} → Course S V → Host S V
of_course course = record { server = course.server; service = course.service; draw = course.draw }

abbrev course_at : {S V : Type 0} → Host S V → Course S V
course_at host = record { server = host.server; service = host.service; draw = host.draw; packets = []; entries = [] }

abbrev event_of : {S V : Type 0} → Setting S V → Act → Host S V → events.Event
event_of setting (Hear now packet) host = events.Packet now (option_map as_heard (setting.opens (max host.server.now (moment_of now)) Up packet))
event_of setting (Attach now name) host = events.Attach now (record { key = name.key; session = name.session })
event_of setting (Tick now) host = events.Tick now
event_of setting (Run now) host = events.Work now 0

abbrev host_on : {S V : Type 0} → Setting S V → Host S V → Act → Host S V
host_on setting host act = of_course (after_event (at_server setting) setting.serve setting.fresh (course_at host) (event_of setting act host))

world-on : {S V : Type 0} (setting : Setting S V) (act : Act) (world : World S V) → of_world (served setting act world) ≡ host_on setting (of_world world) act
world-on setting (Hear now packet) world = refl
world-on setting (Attach now name) world = refl
world-on setting (Tick now) world = refl
world-on setting (Run now) world = refl

-- ---- starts of a joint run

module _ {S V : Type 0} (setting : Setting S V) where
  abbrev host_by : Start S → Host S V
  host_by start = fold (host_on setting) (record { server = fresh_server; service = setting.fresh; draw = start.draw }) start.acts

  abbrev IsLast : List (Start S) → World S V → Type 0
  IsLast [] world = ⊥
  IsLast (last ∷ earlier) world = of_world world ≡ host_by last

  acted-on : (act : Act) (starts : List (Start S)) (world : World S V) → IsLast starts world → IsLast (start_on starts (Acts act)) (served setting act world)
  acted-on act [] world is = absurd is
  acted-on act (last ∷ earlier) world is =
      world-on setting act world ∙ (ap (λ (h : Host S V). host_on setting h act) is
      ∙ sym (fold-append (host_on setting) (record { server = fresh_server; service = setting.fresh; draw = last.draw }) last.acts (act ∷ [])))

  same-host : (starts : List (Start S)) (one other : World S V) → of_world other ≡ of_world one → IsLast starts one → IsLast starts other
  same-host [] one other same is = absurd is
  same-host (last ∷ earlier) one other same is = same ∙ is

  -- a client leaves the server as it is
  abbrev IsSame : World S V → World S V → Type 0
  IsSame world other = (other.server ≡ world.server) × (other.service ≡ world.service)

  seated-same : (world : World S V) (found : Option Seat) (act : Seat → World S V → World S V) → ((seat : Seat) → IsSame world (act seat world)) → IsSame world (seated found act world)
  seated-same world None act so = (refl, refl)
  seated-same world (Some seat) act so = so seat

  did-same : (number : ℕ) (deed : Deed) (world : World S V) → IsSame world (did setting number deed world)
  did-same number (Submits body earlier) world = seated-same world (counted number world.seats) _ (λ seat. (refl, refl))
  did-same number (Draws words) world = (refl, refl)
  did-same number Attaches world = seated-same world (counted number world.seats) _ (λ seat. (refl, refl))
  did-same number Renews world = seated-same world (counted number world.seats) _ (λ seat. (refl, refl))
  did-same number (Flushes now) world =
      let timed = at_client_moment setting number now world in
      seated-same timed (counted number timed.seats) (flushes setting number) (λ seat. (refl, refl))
  did-same number (Hears now packet) world =
      let timed = at_client_moment setting number now world in
      seated-same timed (counted number timed.seats) (comes_down setting number packet)
      (λ seat. cond_both seat.client.has_ended timed (acts setting number seat (wishes.Take (moment_of seat.clock) (setting.opens (seat_now seat) Down packet)) timed) (IsSame timed)
      (λ over. (refl, refl)) (λ on. (refl, refl)))

  does-host : (number : ℕ) (deed : Deed) (found : Option S) (joint : Joint S V) → of_world (does setting number deed found joint).world ≡ of_world joint.world
  does-host number deed None joint = refl
  does-host number deed (Some draw) joint =
      let same = did-same number deed (drawing draw joint.world) in
      ap (λ (s : Server). record { server = s; service = (did setting number deed (drawing draw joint.world)).service; draw = joint.world.draw }) same.0
      ∙ ap (λ (v : V). record { server = joint.world.server; service = v; draw = joint.world.draw }) same.1

  step-last : (step : Step S) (starts : List (Start S)) (joint : Joint S V) → IsLast starts joint.world → IsLast (start_on starts step) (steps_on setting joint step).world
  step-last (Acts act) starts joint is = acted-on act starts joint.world is
  step-last (Starts draw) starts joint is = refl
  step-last (Begins keys draw) starts joint is = same-host starts joint.world _ refl is
  step-last (Does number deed) starts joint is = same-host starts joint.world _ (does-host number deed (counted number joint.draws) joint) is

  pub all-last : (steps : List (Step S)) (starts : List (Start S)) (joint : Joint S V) → IsLast starts joint.world → IsLast (fold start_on starts steps) (joint_from setting joint steps).world
  all-last [] starts joint is = is
  all-last (step ∷ steps) starts joint is = all-last steps (start_on starts step) (steps_on setting joint step) (step-last step starts joint is)

-- ---- connections

-- the events of a connection are those between its begin and its close
module _ {S V : Type 0} (rules : Rules S V) where
  turned-acts : (place : Place S V) (turn : Turn) → (turned rules turn place).talk ≡ after_acts rules place.talk (turn_acts rules turn place)
  turned-acts place turn = sym (fold-append (after_act rules) place.talk (packets_acts rules turn.now turn.packets place.talk) (work_acts turn.now turn.runs))

  turns-acts : (place : Place S V) (turns : List Turn) → (turns_from rules place turns).talk ≡ after_acts rules place.talk (turns_acts rules place turns)
  turns-acts place [] = refl
  turns-acts place (last ∷ earlier) =
      let there = turns_from rules place earlier in
      turned-acts there last ∙ (ap (λ (t : Talk S V). after_acts rules t (turn_acts rules last there)) (turns-acts place earlier)
      ∙ sym (fold-append (after_act rules) place.talk (turns_acts rules place earlier) (turn_acts rules last there)))

  close-acts : (place : Place S V) (close : Close) → (closes rules close place).talk ≡ after_acts rules place.talk (close_acts rules close place)
  close-acts place Unbegun = refl
  close-acts place (Unread answer) = refl
  close-acts place Spent = refl
  close-acts place (Unfed piece now end) = refl
  close-acts place (Heard piece now packets end) = refl
  close-acts place (Hearing piece now packets packet acts end) = sym (fold-append (after_act rules) place.talk (packets_acts rules now packets place.talk) acts)
  close-acts place (Working turn acts end) = sym (fold-append (after_act rules) place.talk (packets_acts rules turn.now turn.packets place.talk) acts)

  connection-acts : (talk : Talk S V) (turns : List Turn) (close : Close) → (closes rules close (turns_from rules (began talk) turns)).talk ≡ after_acts rules talk (connection_acts rules talk turns close)
  connection-acts talk turns close =
      let there = turns_from rules (began talk) turns in
      close-acts there close ∙ (ap (λ (t : Talk S V). after_acts rules t (close_acts rules close there)) (turns-acts (began talk) turns)
      ∙ sym (fold-append (after_act rules) talk (turns_acts rules (began talk) turns) (close_acts rules close there)))

-- ---- under a ring

moment-is : (now : ℕ) → now ≤ latest_moment → moment_of now ≡ now
moment-is now below = min-eq_left below

module _ {D : Type 0} (step : D → ℕ × D) (ring : List RingKey) where
  abbrev rules : Rules D Registers
  rules = rules_of step registers.step (outside_of ring)

  abbrev setting : Setting D Registers
  setting = setting_under step ring

  abbrev Held : Type 0
  Held = Host D Registers

  -- at a moment
  refused-host : (now : ℕ) (refusal : Refusal) (talk : Talk D Registers)
      → of_talk (hears_as rules now (Err refusal) talk) ≡ record { server = record talk.server { now = now }; service = talk.service; draw = talk.draw }
  refused-host now (refusals.NoKey id) talk = refl
  refused-host now (refusals.Size len) talk = refl
  refused-host now (refusals.KeyMismatch said found) talk = refl
  refused-host now (refusals.Length said) talk = refl
  refused-host now (refusals.Padding bytes) talk = refl

  heard-host : (now : ℕ) (found : Option Envelope) (refusal : Refusal) (talk : Talk D Registers) → max talk.server.now (moment_of now) ≡ moment_at talk now
      → of_talk (hears_as rules (moment_at talk now) (answer_of found refusal) talk)
      ≡ of_course (after_event (at_server setting) setting.serve setting.fresh (course_at (of_talk talk)) (events.Packet now (option_map as_heard found)))
  unfolding outside_of
  heard-host now None refusal talk is =
      refused-host (moment_at talk now) refusal talk
      ∙ ap (λ (n : ℕ). record { server = record talk.server { now = n }; service = talk.service; draw = talk.draw }) (sym is)
  heard-host now (Some envelope) refusal talk is =
      ap (λ (n : ℕ). of_course (events.heard (record (at_server setting) { now = n }) (Some (as_heard envelope)) (course_at (of_talk talk)))) (sym is)

  talk-on : (act : Act) (talk : Talk D Registers) → IsTimelyAct act → of_talk (after_act rules talk act) ≡ host_on setting (of_talk talk) act
  unfolding outside_of
  talk-on (Hear now packet) talk below =
      let is : max talk.server.now (moment_of now) ≡ moment_at talk now = ap (λ (n : ℕ). max talk.server.now n) (moment-is now below) in
      heard-host now (opened mt_lock ring (moment_at talk now) Up packet) (refusal_of mt_lock ring (moment_at talk now) Up packet) talk is
      ∙ ap (λ (n : ℕ). of_course (after_event (at_server setting) setting.serve setting.fresh (course_at (of_talk talk)) (events.Packet now (option_map as_heard (opened mt_lock ring n Up packet))))) (sym is)
  talk-on (Attach now name) talk below =
      ap (λ (n : ℕ). of_course (events.gone_on (course_at (of_talk talk)) talk.service
      (after_attach (record (at_server setting) { now = max talk.server.now n }) (record { key = name.key; session = name.session }) talk.server talk.draw))) (sym (moment-is now below))
  talk-on (Tick now) talk below =
      ap (λ (n : ℕ). of_course (events.gone_on (course_at (of_talk talk)) talk.service (after_tick (record (at_server setting) { now = max talk.server.now n }) talk.server talk.draw)))
      (sym (moment-is now below))
  talk-on (Run now) talk below =
      ap (λ (n : ℕ). of_course (events.worked (course_at (of_talk talk)) (after_work (record (at_server setting) { now = max talk.server.now n }) 0 registers.step talk.service talk.server talk.draw)))
      (sym (moment-is now below))

  abbrev AreTimelyActs : List Act → Type 0
  AreTimelyActs acts = AllByRecursion IsTimelyAct acts

  acts-on : (acts : List Act) (talk : Talk D Registers) → AreTimelyActs acts → of_talk (after_acts rules talk acts) ≡ fold (host_on setting) (of_talk talk) acts
  acts-on [] talk timely = refl
  acts-on (act ∷ acts) talk timely =
      acts-on acts (after_act rules talk act) timely.1 ∙ ap (λ (h : Held). fold (host_on setting) h acts) (talk-on act talk timely.0)

  timely-front : (acts others : List Act) → AreTimelyActs (acts ++ others) → AreTimelyActs acts
  timely-front [] others all = tt
  timely-front (act ∷ acts) others all = (all.0, timely-front acts others all.1)

  timely-back : (acts others : List Act) → AreTimelyActs (acts ++ others) → AreTimelyActs others
  timely-back [] others all = all
  timely-back (act ∷ acts) others all = timely-back acts others all.1

  -- ---- what a connection leaves

  goes-on : (end : ConnEnd) (desk : Server → Type 0) (behind : DeskFault → Server → Type 0) (drawn : D) (service : Registers) (talk : Talk D Registers) → GoesOn end → LeavesBy end desk behind drawn service talk → Serves desk drawn service talk
  goes-on ends.Ended desk behind drawn service talk on leaves = leaves
  goes-on ends.LinkFault desk behind drawn service talk on leaves = leaves
  goes-on (ends.Frame fault) desk behind drawn service talk on leaves = leaves
  goes-on ends.Start desk behind drawn service talk on leaves = leaves
  goes-on ends.TurnsSpent desk behind drawn service talk on leaves = leaves
  goes-on ends.Stopped desk behind drawn service talk on leaves = absurd on
  goes-on (ends.Journal fault) desk behind drawn service talk on leaves = absurd on
  goes-on ends.Memory desk behind drawn service talk on leaves = absurd on

  connection-host : (before : Between D Registers) (one : Connection D Registers) (is : IsConnection rules before one) → AreTimelyActs (trace_acts is.trace)
      → of_talk (closes rules is.trace.close (turns_from rules (began (talk_at before)) is.trace.turns)).talk ≡ fold (host_on setting) (of_between before) (trace_acts is.trace)
  connection-host before one is timely =
      ap (λ (t : Talk D Registers). of_talk t) (connection-acts rules (talk_at before) is.trace.turns is.trace.close)
      ∙ acts-on (trace_acts is.trace) (talk_at before) timely

  all-host : (first : Between D Registers) (connections : List (Connection D Registers)) (are : AreConnections rules first connections) → AllGoOn connections
      → AreTimelyActs (run_acts rules first connections are) → of_between (behind_all first connections) ≡ fold (host_on setting) (of_between first) (run_acts rules first connections are)
  all-host first [] are on timely = refl
  all-host first (last ∷ earlier) are on timely =
      let before = behind_all first earlier in
      let front = run_acts rules first earlier are.0 in
      let own = trace_acts are.1.trace in
      let rest = all-host first earlier are.0 on.0 (timely-front front own timely) in
      let host = connection-host before last are.1 (timely-back front own timely) in
      let talk = (closes rules are.1.trace.close (turns_from rules (began (talk_at before)) are.1.trace.turns)).talk in
      let leaves = goes-on last.end (λ server. server ≡ last.behind.server) (λ fault server. server ≡ last.behind.server) last.behind.draw last.behind.service talk on.1 are.1.trace.leaves in
      let same : of_between last.behind ≡ of_talk talk =
      ap (λ (s : Server). record { server = s; service = last.behind.service; draw = last.behind.draw }) (sym leaves.server)
      ∙ (ap (λ (v : Registers). record { server = talk.server; service = v; draw = last.behind.draw }) leaves.served
      ∙ ap (λ (d : D). record { server = talk.server; service = talk.service; draw = d }) leaves.draw) in
      same ∙ (host ∙ (ap (λ (h : Held). fold (host_on setting) h own) rest ∙ sym (fold-append (host_on setting) (of_between first) front own)))

  -- the server and the service, where the last connection may have ended otherwise
  abbrev AreLeftBy : Between D Registers → Held → Type 0
  AreLeftBy behind host = (behind.server ≡ host.server) × (behind.service ≡ host.service)

  left-by : (end : ConnEnd) (behind : Between D Registers) (talk : Talk D Registers) → (end ≡ ends.Stopped) ⊎ (end ≡ ends.Memory) → LeavesBy end (λ server. server ≡ behind.server) (λ fault server. server ≡ behind.server) behind.draw behind.service talk
      → AreLeftBy behind (of_talk talk)
  left-by end behind talk (inl stopped) leaves =
      let served : Serves (λ server. server ≡ behind.server) behind.draw behind.service talk =
      subst (λ (e : ConnEnd). LeavesBy e (λ server. server ≡ behind.server) (λ fault server. server ≡ behind.server) behind.draw behind.service talk) stopped leaves in
      (sym served.server, served.served)
  left-by end behind talk (inr memory) leaves =
      let both : (talk.server ≡ behind.server) × (behind.service ≡ talk.service) =
      subst (λ (e : ConnEnd). LeavesBy e (λ server. server ≡ behind.server) (λ fault server. server ≡ behind.server) behind.draw behind.service talk) memory leaves in
      (sym both.0, both.1)

  last-host : (first : Between D Registers) (last : Connection D Registers) (earlier : List (Connection D Registers)) (are : AreConnections rules first (last ∷ earlier)) → AllGoOn earlier
      → (last.end ≡ ends.Stopped) ⊎ (last.end ≡ ends.Memory) → AreTimelyActs (run_acts rules first (last ∷ earlier) are)
      → AreLeftBy last.behind (fold (host_on setting) (of_between first) (run_acts rules first (last ∷ earlier) are))
  last-host first last earlier are on ended timely =
      let before = behind_all first earlier in
      let front = run_acts rules first earlier are.0 in
      let own = trace_acts are.1.trace in
      let rest = all-host first earlier are.0 on (timely-front front own timely) in
      let host = connection-host before last are.1 (timely-back front own timely) in
      let talk = (closes rules are.1.trace.close (turns_from rules (began (talk_at before)) are.1.trace.turns)).talk in
      let left = left-by last.end last.behind talk ended are.1.trace.leaves in
      let all = host ∙ (ap (λ (h : Held). fold (host_on setting) h own) rest ∙ sym (fold-append (host_on setting) (of_between first) front own)) in
      (left.0 ∙ ap (λ (h : Held). h.server) all, left.1 ∙ ap (λ (h : Held). h.service) all)

  by-host : (behind : Between D Registers) (host : Held) → of_between behind ≡ host → AreLeftBy behind host
  by-host behind host is = (ap (λ (h : Held). h.server) is, ap (λ (h : Held). h.service) is)

  run-host : (first : Between D Registers) (connections : List (Connection D Registers)) (are : AreConnections rules first connections) → AreInTurn connections
      → AreTimelyActs (run_acts rules first connections are) → AreLeftBy (behind_all first connections) (fold (host_on setting) (of_between first) (run_acts rules first connections are))
  run-host first [] are turn timely = (refl, refl)
  run-host first (last ∷ earlier) are turn timely =
      elim turn.1 [
        | inl on ↦ by-host last.behind (fold (host_on setting) (of_between first) (run_acts rules first (last ∷ earlier) are)) (all-host first (last ∷ earlier) are (turn.0, on) timely)
        | inr ended ↦ last-host first last earlier are turn.0 ended timely
      ]

  -- ---- the last run

  left-so : (world : World D Registers) (serves : List (Served step ring)) → IsLast setting (map (λ (run : Served step ring). start_by run) serves) world
      → AllByRecursion (λ (run : Served step ring). AreTimelyActs (start_by run).acts) serves → IsServerLeft serves world
  left-so world [] is timely = absurd is
  left-so world (run ∷ earlier) is timely =
      let left = run-host run.first run.connections run.are (connections-in-turn ring run.conns run.ending run.connections run.ended run.whole) timely.0 in
      let begun : of_between run.first ≡ record { server = fresh_server; service = registers.fresh; draw = run.first.draw } =
      ap (λ (s : Server). record { server = s; service = run.first.service; draw = run.first.draw }) run.server
      ∙ ap (λ (v : Registers). record { server = fresh_server; service = v; draw = run.first.draw }) run.service in
      let all = is ∙ ap (λ (h : Held). fold (host_on setting) h (start_by run).acts) (sym begun) in
      (ap (λ (h : Held). h.server) all ∙ sym left.0, ap (λ (h : Held). h.service) all ∙ sym left.1)

  pub server-left : (draw : D) (serves : List (Served step ring)) (called : List (Called step)) (steps : List (Step D)) → AreWhole draw serves called steps
      → AreTimely serves called → IsServerLeft serves (joint_of setting draw steps).world
  server-left draw serves called steps whole timely =
      let last = all-last setting steps (record { draw = draw; acts = [] } ∷ []) (nobody_yet setting draw) refl in
      left-so (joint_of setting draw steps).world serves
      (subst (λ (starts : List (Start D)). IsLast setting starts (joint_of setting draw steps).world) whole.servers last) timely.servers
