use Rattle.std.proofs.Common.{List}
use Rattle.auth_keys.specs.declared.ring.RingKey.{RingKey}
use Rattle.envelope.specs.Lawful.{OpensWhatItSealed}
use Rattle.envelope.specs.Packet.{Lock}
use Rattle.world_rules.specs.Setting.{Setting, at_client, at_server}
use Rattle.world_rules.specs.World.{begins}
use Rattle.world_rules.specs.Premises.{IsSealed, IsSound}
use Rattle.world_rules.specs.Run.{step, step_any}
use Rattle.law_once.specs.Small.{Fits}
use Rattle.law_order.specs.Keeping.{KeepsOrder}
use Rattle.server_rules.specs.Events.{Attach}
use Rattle.law_order.proofs.Keeping.{Ends, walk}
use Rattle.law_order.proofs.Arrivals.{Opens, event-ordered}
use Rattle.law_order.proofs.Runs.{Known, all-kept, any-steps, event-kept, its-steps}
use Rattle.law_order.proofs.laws.worlds_keep_order.Goals as goal

module _ (g : Rattle.law_order.proofs.laws.worlds_keep_order.Given.Over) (c : goal.After-servers_stay_in_order g) where
  ends : (setting : Setting g.row.D.Denot g.row.V.Denot) → Ends g.row.D.Denot g.row.V.Denot setting
  ends setting = record {
    made = c.calls_go_in_order.ensures.made (at_client setting);
    turn = c.calls_go_in_order.ensures.event (at_client setting);
    key = c.calls_stay.ensures.key (at_client setting);
    calls = c.calls_stay.ensures.calls (at_client setting);
    packets = c.calls_stay.ensures.packets;
    sends = c.packets_have_calls_as_they_went.ensures (at_client setting);
    serves = λ pair past course event is so. c.calls_run_in_order.ensures.event (at_server setting) setting.serve setting.fresh pair past course event is so;
  }

  opens : (lock : Lock) (ring : List RingKey) (setting : Setting g.row.D.Denot g.row.V.Denot) → OpensWhatItSealed lock → IsSealed lock ring setting
      → Opens g.row.D.Denot g.row.V.Denot lock ring setting
  opens lock ring setting seals so = record {
    given = λ now packet envelope sealed opened. c.what_opens_was_made.ensures.given lock ring setting now packet envelope seals so sealed opened;
    foreign = λ world now dir bytes envelope sealed only opened. c.what_opens_was_made.ensures.foreign lock ring setting world now dir bytes envelope seals so sealed only opened;
    short = λ now dir bytes envelope opened. c.what_opens_was_made.ensures.short lock ring setting now dir bytes envelope seals so opened;
  }

  known : (lock : Lock) (ring : List RingKey) (setting : Setting g.row.D.Denot g.row.V.Denot) → OpensWhatItSealed lock → IsSealed lock ring setting → IsSound ring setting
      → Known g.row.D.Denot g.row.V.Denot lock ring setting KeepsOrder
  known lock ring setting seals so sound = record {
    ordered = event-ordered setting (c.servers_stay_in_order.ensures.event (at_server setting) setting.serve setting.fresh);
    words = c.worlds_only_grow.ensures.words setting;
    packets = c.worlds_only_grow.ensures.packets lock ring setting;
    moves = λ world event moves sealed chance fresh behind.
        let fits : Fits setting = record { words = sound.words; replies = sound.replies } in
        let on = c.worlds_are_moves.ensures.event lock ring setting moves.0 world event seals so fits moves.1 sealed chance fresh behind in
        (_, on.2);
    kept = λ world event moves sealed later chance kept. event-kept lock ring setting (opens lock ring setting seals so) (ends setting) world event moves sealed chance kept;
  }

  begun : (setting : Setting g.row.D.Denot g.row.V.Denot) (draw : g.row.D.Denot) → KeepsOrder (begins setting draw)
  begun setting draw = record { clients = tt; bag = tt; served = λ pair are. c.calls_run_in_order.ensures.fresh pair }

pub returns-clause-begins : goal.returns-clause-begins
returns-clause-begins g c = begun g c

pub returns-clause-event : goal.returns-clause-event
returns-clause-event g c = λ lock ring setting world event seals so moves sealed chance kept.
    event-kept lock ring setting (opens g c lock ring setting seals so) (ends g c setting) world event moves sealed chance kept

pub returns-clause-attach : goal.returns-clause-attach
returns-clause-attach g c = λ setting world name moves kept.
    (walk setting (ends g c setting) world kept moves.0 moves.1).served (Attach world.clock name) tt

pub returns-clause-schedule : goal.returns-clause-schedule
returns-clause-schedule g c = λ lock ring setting draw events seals sizes so sound bytes fresh.
    let k = known g c lock ring setting seals so sound in
    (all-kept lock ring setting KeepsOrder k (step setting) (begins setting draw) events (its-steps lock ring setting KeepsOrder k (begins setting draw) events)
    ((_, c.worlds_are_moves.ensures.begins setting draw), begun g c setting draw) c.servers_stay_in_order.ensures.fresh fresh
    (c.packets_of_worlds_are_lawful.ensures.schedule lock ring setting draw events sizes so sound bytes)).1

pub returns-clause-any : goal.returns-clause-any
returns-clause-any g c = λ lock ring setting draw events seals sizes so sound bytes chance fresh.
    let k = known g c lock ring setting seals so sound in
    (all-kept lock ring setting KeepsOrder k (step_any setting) (begins setting draw) events (any-steps lock ring setting KeepsOrder k (begins setting draw) events chance)
    ((_, c.worlds_are_moves.ensures.begins setting draw), begun g c setting draw) c.servers_stay_in_order.ensures.fresh fresh
    (c.packets_of_worlds_are_lawful.ensures.any lock ring setting draw events sizes so sound bytes)).1
