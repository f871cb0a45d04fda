use Rattle.server_rules.specs.Events.{begun_course}
use Rattle.law_server_bounds.proofs.Courses.{Laws, event-kept, events-stand}
use Rattle.law_server_bounds.proofs.sizes.sizes_stay_small.Goals as goal

module _ (g : Rattle.law_server_bounds.proofs.sizes.sizes_stay_small.Given.Over) (c : goal.After-packets_have_all_messages g) where
  laws : Laws
  laws = record {
    sized = c.container_sizes.ensures.whole;
    have = c.packets_have_all_messages.ensures.all;
    packets = c.packets_have_all_messages.ensures.packets;
    lawful = c.parts_are_exact.ensures.only_lawful;
    read = c.items_fit.ensures.fits;
  }

pub returns-clause-event : goal.returns-clause-event
returns-clause-event g c = λ setting serve service course event draws words small kept. event-kept (laws g c) setting serve draws words service course event small kept

pub returns-clause-all : goal.returns-clause-all
returns-clause-all g c = λ setting serve service draw events draws words small.
    (events-stand (laws g c) setting serve draws words service events (begun_course service draw) small
    (record { kept = record { sessions = tt; jobs = tt }; whole = tt })).kept
