use Rattle.std.proofs.Common.{List}
use Rattle.auth_keys.specs.declared.ring.RingKey.{RingKey}
use Rattle.envelope.specs.Lawful.{OpensWhatItSealed}
use Rattle.envelope.specs.Packet.{Lock}
use Rattle.world_rules.specs.Setting.{Setting}
use Rattle.world_rules.specs.World.{begins}
use Rattle.law_moves.specs.World.{start}
use Rattle.envelope.specs.Sizes.{KeepsSizes}
use Rattle.law_connections.specs.Keeping.{Keeps}
use Rattle.law_connections.proofs.Worlds.{Growing, Laws, attach_kept, event_kept}
use Rattle.law_connections.proofs.Steps.{fresh_on, kept_on, served_on}
use Rattle.law_connections.proofs.laws.worlds_keep_what_holds.Goals as goal

module _ (g : Rattle.law_connections.proofs.laws.worlds_keep_what_holds.Given.Over) (c : goal.After-calls_run_in_order g) where
  growing : Growing g.row.D.Denot g.row.V.Denot
  growing = record {
    words = c.worlds_only_grow.ensures.words;
    words_attached = c.worlds_only_grow.ensures.words_attached;
    served = c.starts_are_served.ensures.event;
    served_attached = c.starts_are_served.ensures.attach;
  }

  known : (lock : Lock) (ring : List RingKey) → OpensWhatItSealed lock → KeepsSizes lock → Laws g.row.D.Denot g.row.V.Denot lock ring
  known lock ring seals sizes = record {
    growing = growing;
    seals = seals;
    sizes = sizes;
    steady = λ setting world event so sound bytes s. c.packets_of_worlds_are_lawful.ensures.event lock ring setting world event sizes so sound bytes s;
    steady_attached = λ setting world name so sound s. c.packets_of_worlds_are_lawful.ensures.attach lock ring setting world name sizes so sound s;
    moves = λ setting w world event so fits h sealed chance fresh behind.
        c.worlds_are_moves.ensures.event lock ring setting w world event seals so fits h sealed chance fresh behind;
    moves_attached = λ setting w world name fits h fresh behind. c.worlds_are_moves.ensures.attach lock ring setting w world name seals fits h fresh behind;
    order = λ setting world event so moves sealed chance kept. c.worlds_keep_order.ensures.event lock ring setting world event seals so moves sealed chance kept;
    order_attached = c.worlds_keep_order.ensures.attach;
    in_order = c.calls_run_in_order.ensures.event;
    in_order_attached = c.calls_run_in_order.ensures.attach;
    once = c.calls_execute_once.ensures.standing;
    waiting = c.calls_that_wait_run_in_order.ensures.standing;
  }

  begun : (lock : Lock) (ring : List RingKey) (setting : Setting g.row.D.Denot g.row.V.Denot) (draw : g.row.D.Denot) → Keeps lock ring setting (begins setting draw)
  begun lock ring setting draw = record {
    moves = (start, c.worlds_are_moves.ensures.begins setting draw);
    steady = c.packets_of_worlds_are_lawful.ensures.begins lock ring setting draw;
    order = c.worlds_keep_order.ensures.begins setting draw;
    served = c.starts_are_served.ensures.begins setting draw;
    in_order = c.calls_run_in_order.ensures.begins setting draw;
  }

pub returns-clause-begins : goal.returns-clause-begins
returns-clause-begins g c = λ lock ring setting draw. begun g c lock ring setting draw

pub returns-clause-event : goal.returns-clause-event
returns-clause-event g c = λ lock ring setting world event seals sizes so sound bytes chance fresh k.
    event_kept lock ring (known g c lock ring seals sizes) setting so sound world event bytes chance fresh k

pub returns-clause-attach : goal.returns-clause-attach
returns-clause-attach g c = λ lock ring setting world name seals sizes so sound fresh k.
    attach_kept lock ring (known g c lock ring seals sizes) setting so sound world name fresh k

pub returns-clause-step : goal.returns-clause-step
returns-clause-step g c = λ lock ring setting joint step seals sizes so sound of chance fresh k.
    kept_on (growing g c) setting lock ring (known g c lock ring seals sizes) so sound step joint of chance fresh k

pub returns-clause-served : goal.returns-clause-served
returns-clause-served g c = λ setting joint step h. served_on (growing g c) setting step joint h

pub returns-clause-words : goal.returns-clause-words
returns-clause-words g c = λ setting joint step h fresh. fresh_on (growing g c) setting step joint h fresh
