use Rattle.std.proofs.Common.{ℕ, List, [], refl}
use Rattle.auth_keys.specs.declared.ring.RingKey.{RingKey}
use Rattle.envelope.specs.Lawful.{OpensWhatItSealed}
use Rattle.envelope.specs.Packet.{Lock}
use Rattle.regs_service.specs.Served.{Served}
use Rattle.world_rules.specs.Setting.{Setting, at_client, at_server}
use Rattle.world_rules.specs.World.{World, begins}
use Rattle.world_rules.specs.Premises.{IsSealed, IsSound}
use Rattle.world_rules.specs.Once.{Once, ran_in}
use Rattle.world_rules.specs.Run.{run_of, run_of_any, step, step_any}
use Rattle.law_once.specs.Standing.{HasMoves}
use Rattle.law_once.specs.Small.{Fits}
use Rattle.law_order.specs.Keeping.{KeepsOrder, WaitingInOrder}
use Rattle.law_order.proofs.Keeping.{Ends}
use Rattle.server_rules.specs.Events.{Attach}
use Rattle.law_order.proofs.Walking.{walked}
use Rattle.law_order.proofs.Arrivals.{IsAny, Opens, any-opened, event-ordered}
use Rattle.law_order.proofs.Runs.{Known, any-steps, event-kept, its-steps}
use Rattle.law_order.proofs.Orders.{InOrderThen, order-walk, ordered-run, unordered}
use Rattle.law_order.proofs.laws.calls_run_in_order.Goals as goal

module _ (g : Rattle.law_order.proofs.laws.calls_run_in_order.Given.Over) (c : goal.After-calls_that_wait_run_in_order g) where
  ends : (setting : Setting g.row.D.Denot g.row.V.Denot) → Ends g.row.D.Denot g.row.V.Denot setting
  ends setting = record {
    made = c.calls_go_in_order.ensures.made (at_client setting);
    turn = c.calls_go_in_order.ensures.event (at_client setting);
    key = c.calls_stay.ensures.key (at_client setting);
    calls = c.calls_stay.ensures.calls (at_client setting);
    packets = c.calls_stay.ensures.packets;
    sends = c.packets_have_calls_as_they_went.ensures (at_client setting);
    serves = λ pair past course event is so. c.calls_run_in_order.ensures.event (at_server setting) setting.serve setting.fresh pair past course event is so;
  }

  opens : (lock : Lock) (ring : List RingKey) (setting : Setting g.row.D.Denot g.row.V.Denot) → OpensWhatItSealed lock → IsSealed lock ring setting
      → Opens g.row.D.Denot g.row.V.Denot lock ring setting
  opens lock ring setting seals so = record {
    given = λ now packet envelope sealed opened. c.what_opens_was_made.ensures.given lock ring setting now packet envelope seals so sealed opened;
    foreign = λ world now dir bytes envelope sealed only opened. c.what_opens_was_made.ensures.foreign lock ring setting world now dir bytes envelope seals so sealed only opened;
    short = λ now dir bytes envelope opened. c.what_opens_was_made.ensures.short lock ring setting now dir bytes envelope seals so opened;
  }

  known : (lock : Lock) (ring : List RingKey) (setting : Setting g.row.D.Denot g.row.V.Denot) → OpensWhatItSealed lock → IsSealed lock ring setting → IsSound ring setting
      → Known g.row.D.Denot g.row.V.Denot lock ring setting KeepsOrder
  known lock ring setting seals so sound = record {
    ordered = event-ordered setting (c.servers_stay_in_order.ensures.event (at_server setting) setting.serve setting.fresh);
    words = c.worlds_only_grow.ensures.words setting;
    packets = c.worlds_only_grow.ensures.packets lock ring setting;
    moves = λ world event moves sealed chance fresh behind.
        let fits : Fits setting = record { words = sound.words; replies = sound.replies } in
        let on = c.worlds_are_moves.ensures.event lock ring setting moves.0 world event seals so fits moves.1 sealed chance fresh behind in
        (_, on.2);
    kept = λ world event moves sealed later chance kept. event-kept lock ring setting (opens lock ring setting seals so) (ends setting) world event moves sealed chance kept;
  }

  -- calls are executed once, and those that wait are in order, wherever a world stands and keeps order
  there : (setting : Setting g.row.D.Denot g.row.V.Denot) (world : World g.row.D.Denot g.row.V.Denot) → ((start : ℕ) → Served setting.serve setting.fresh (ran_in start world.entries))
      → HasMoves world × KeepsOrder world → Once setting world × WaitingInOrder world
  there setting world served both =
      let once = c.calls_execute_once.ensures.standing setting both.0.0 world both.0.1 served in
      (once, c.calls_that_wait_run_in_order.ensures.standing setting both.0.0 world both.0.1 once both.1)

pub returns-clause-begins : goal.returns-clause-begins
returns-clause-begins g c = λ setting draw. unordered setting draw

pub returns-clause-event : goal.returns-clause-event
returns-clause-event g c = λ setting w world event stands kept once order once_on waiting.
    walked setting world (InOrderThen setting) IsAny (order-walk setting (ends g c setting) w world stands kept once order) event (any-opened setting world event) once_on waiting

pub returns-clause-attach : goal.returns-clause-attach
returns-clause-attach g c = λ setting w world name stands kept once order once_on waiting.
    (order-walk setting (ends g c setting) w world stands kept once order).served (Attach world.clock name) tt once_on waiting

pub returns-clause-schedule : goal.returns-clause-schedule
returns-clause-schedule g c = λ lock ring setting draw events seals sizes so sound bytes fresh.
    let k = known g c lock ring setting seals so sound in
    ordered-run lock ring setting k (ends g c setting) (step setting) (begins setting draw)
    (λ prefix both. there g c setting (run_of setting draw prefix) (c.starts_are_served.ensures.all setting draw prefix) both)
    events [] (begins setting draw) refl (its-steps lock ring setting KeepsOrder k (begins setting draw) events)
    ((_, c.worlds_are_moves.ensures.begins setting draw), c.worlds_keep_order.ensures.begins setting draw) c.servers_stay_in_order.ensures.fresh (unordered setting draw) fresh
    (c.packets_of_worlds_are_lawful.ensures.schedule lock ring setting draw events sizes so sound bytes)

pub returns-clause-any : goal.returns-clause-any
returns-clause-any g c = λ lock ring setting draw events seals sizes so sound bytes chance fresh.
    let k = known g c lock ring setting seals so sound in
    ordered-run lock ring setting k (ends g c setting) (step_any setting) (begins setting draw)
    (λ prefix both. there g c setting (run_of_any setting draw prefix) (c.starts_are_served.ensures.any setting draw prefix) both)
    events [] (begins setting draw) refl (any-steps lock ring setting KeepsOrder k (begins setting draw) events chance)
    ((_, c.worlds_are_moves.ensures.begins setting draw), c.worlds_keep_order.ensures.begins setting draw) c.servers_stay_in_order.ensures.fresh (unordered setting draw) fresh
    (c.packets_of_worlds_are_lawful.ensures.any lock ring setting draw events sizes so sound bytes)
