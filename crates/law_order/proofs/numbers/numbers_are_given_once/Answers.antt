use Rattle.std.proofs.Common.{[]}
use Rattle.world_rules.specs.Setting.{Setting, at_client, at_server}
use Rattle.world_rules.specs.World.{World, begins}
use Rattle.world_rules.specs.Premises.{Fresh}
use Rattle.world_rules.specs.Run.{after, step, step_any}
use Rattle.law_order.proofs.Lists.{nobody, none-some}
use Rattle.law_order.proofs.Giving.{Keeps, Numbers, fresh-apart}
use Rattle.law_order.proofs.NumberRuns.{IsAnyEvent, Known, all-kept, any-steps, by-any, event-keeps, its-steps}
use Rattle.law_order.proofs.Arrivals.{event-ordered}
use Rattle.law_order.proofs.numbers.numbers_are_given_once.Goals as goal

module _ (g : Rattle.law_order.proofs.numbers.numbers_are_given_once.Given.Over) (c : goal.After-worlds_only_grow g) where
  numbers : (setting : Setting g.row.D.Denot g.row.V.Denot) → Numbers g.row.D.Denot (at_client setting)
  numbers setting = record {
    made = c.numbers_are_given_once.ensures.made (at_client setting);
    event = c.numbers_are_given_once.ensures.event (at_client setting);
    session = c.numbers_are_given_once.ensures.session (at_client setting);
    packet = c.numbers_are_given_once.ensures.packet (at_client setting);
  }

  abbrev P : World g.row.D.Denot g.row.V.Denot → Type 0
  P world = Keeps world.seats world.bag

  known : (setting : Setting g.row.D.Denot g.row.V.Denot) → Known g.row.D.Denot g.row.V.Denot setting IsAnyEvent Fresh P
  known setting = record {
    ordered = event-ordered setting (c.servers_stay_in_order.ensures.event (at_server setting) setting.serve setting.fresh);
    before = c.worlds_only_grow.ensures.words setting;
    kept = λ world event any fresh later k.
        event-keeps setting (numbers setting) world k (fresh-apart world fresh) event (fresh-apart (after setting world event) later);
  }

  begun : (setting : Setting g.row.D.Denot g.row.V.Denot) (draw : g.row.D.Denot) → P (begins setting draw)
  begun setting draw = record {
    seats = λ place seat is. absurd (none-some seat is);
    owned = tt;
    once = λ session. record {
      given = [];
      once = λ one other among beside same. absurd (nobody one among);
      packets = tt;
    };
  }

pub returns-clause-schedule : goal.returns-clause-schedule
returns-clause-schedule g c = λ setting draw events fresh.
    (all-kept setting IsAnyEvent Fresh (P g c) (known g c setting) (step setting) (begins setting draw) events
    (its-steps setting IsAnyEvent Fresh (P g c) (known g c setting) (λ world event fine. tt) (begins setting draw) events) (begun g c setting draw)
    c.servers_stay_in_order.ensures.fresh fresh).once

pub returns-clause-any : goal.returns-clause-any
returns-clause-any g c = λ setting draw events fresh.
    (all-kept setting IsAnyEvent Fresh (P g c) (known g c setting) (step_any setting) (begins setting draw) events
    (any-steps setting IsAnyEvent Fresh (P g c) (known g c setting) (begins setting draw) events
    (by-any setting Fresh (P g c) (known g c setting) (begins setting draw) events)) (begun g c setting draw)
    c.servers_stay_in_order.ensures.fresh fresh).once
