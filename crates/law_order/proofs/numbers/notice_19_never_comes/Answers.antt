use Rattle.std.proofs.Common.{List}
use Rattle.auth_keys.specs.declared.ring.RingKey.{RingKey}
use Rattle.envelope.specs.Lawful.{OpensWhatItSealed}
use Rattle.envelope.specs.Packet.{Lock}
use Rattle.world_rules.specs.Setting.{Setting, at_server}
use Rattle.world_rules.specs.World.{World, begins}
use Rattle.world_rules.specs.Premises.{IsByNoChance, IsSealed}
use Rattle.world_rules.specs.Run.{run_of, run_of_any, step, step_any}
use Rattle.law_packets.specs.Lawful.{AreLawfulPackets}
use Rattle.law_order.proofs.Bags.{Containers, bag-kinds, kinds_of}
use Rattle.law_order.proofs.NumberRuns.{Known, all-kept, any-steps, by-chance, event-told, its-steps}
use Rattle.law_order.proofs.Arrivals.{Opens, event-ordered, no-chance}
use Rattle.law_order.proofs.Telling.{IsTold, Serves}
use Rattle.law_order.proofs.numbers.notice_19_never_comes.Goals as goal

module _ (g : Rattle.law_order.proofs.numbers.notice_19_never_comes.Given.Over) (c : goal.After-numbers_are_given_once g) where
  containers : Containers
  containers = record { begins = c.packed_is_unfolded.ensures.begins; lawful = c.parts_are_exact.ensures.only_lawful }

  serves : (setting : Setting g.row.D.Denot g.row.V.Denot) → Serves g.row.D.Denot g.row.V.Denot setting
  serves setting kinds course event is sessions packets =
      c.containers_are_told_apart.ensures.event (at_server setting) setting.serve setting.fresh kinds course event is sessions packets

  opens : (lock : Lock) (ring : List RingKey) (setting : Setting g.row.D.Denot g.row.V.Denot) → OpensWhatItSealed lock → IsSealed lock ring setting
      → Opens g.row.D.Denot g.row.V.Denot lock ring setting
  opens lock ring setting seals so = record {
    given = λ now packet envelope sealed opened. c.what_opens_was_made.ensures.given lock ring setting now packet envelope seals so sealed opened;
    foreign = λ world now dir bytes envelope sealed only opened. c.what_opens_was_made.ensures.foreign lock ring setting world now dir bytes envelope seals so sealed only opened;
    short = λ now dir bytes envelope opened. c.what_opens_was_made.ensures.short lock ring setting now dir bytes envelope seals so opened;
  }

  abbrev F : Lock → List RingKey → Setting g.row.D.Denot g.row.V.Denot → World g.row.D.Denot g.row.V.Denot → Type 0
  F lock ring setting world = AreLawfulPackets lock ring setting world

  known : (lock : Lock) (ring : List RingKey) (setting : Setting g.row.D.Denot g.row.V.Denot) → OpensWhatItSealed lock → IsSealed lock ring setting
      → Known g.row.D.Denot g.row.V.Denot setting (IsByNoChance setting) (F lock ring setting) IsTold
  known lock ring setting seals so = record {
    ordered = event-ordered setting (c.servers_stay_in_order.ensures.event (at_server setting) setting.serve setting.fresh);
    before = λ world event ordered sealed. c.worlds_only_grow.ensures.packets lock ring setting world event sealed;
    kept = λ world event chance sealed later told. event-told lock ring setting (opens lock ring setting seals so) (serves setting) world event sealed chance told;
  }

  begun : (setting : Setting g.row.D.Denot g.row.V.Denot) (draw : g.row.D.Denot) → IsTold (begins setting draw)
  begun setting draw kinds are = (tt, tt)

pub returns-clause-schedule : goal.returns-clause-schedule
returns-clause-schedule g c = λ lock ring setting draw events seals sizes so sound bytes fresh.
    let world = run_of setting draw events in
    let k = known g c lock ring setting seals so in
    let told : IsTold world =
    all-kept setting (IsByNoChance setting) (F g c lock ring setting) IsTold k (step setting) (begins setting draw) events
    (its-steps setting (IsByNoChance setting) (F g c lock ring setting) IsTold k (no-chance setting) (begins setting draw) events) (begun g c setting draw)
    c.servers_stay_in_order.ensures.fresh (c.packets_of_worlds_are_lawful.ensures.schedule lock ring setting draw events sizes so sound bytes) in
    (told (kinds_of world.bag) (bag-kinds (containers g c) world.bag (c.numbers_are_given_once.ensures.schedule setting draw events fresh))).1

pub returns-clause-any : goal.returns-clause-any
returns-clause-any g c = λ lock ring setting draw events seals sizes so sound bytes chance fresh.
    let world = run_of_any setting draw events in
    let k = known g c lock ring setting seals so in
    let told : IsTold world =
    all-kept setting (IsByNoChance setting) (F g c lock ring setting) IsTold k (step_any setting) (begins setting draw) events
    (any-steps setting (IsByNoChance setting) (F g c lock ring setting) IsTold k (begins setting draw) events
    (by-chance setting (F g c lock ring setting) IsTold k (begins setting draw) events chance)) (begun g c setting draw)
    c.servers_stay_in_order.ensures.fresh (c.packets_of_worlds_are_lawful.ensures.any lock ring setting draw events sizes so sound bytes) in
    (told (kinds_of world.bag) (bag-kinds (containers g c) world.bag (c.numbers_are_given_once.ensures.any setting draw events fresh))).1
