use Rattle.server_rules.specs.Events.{begun_course}
use Rattle.law_server_bounds.proofs.Courses.{Laws, event-stands, events-stand}
use Rattle.server_rules.specs.Sending.{all_sent}
use Rattle.law_server_bounds.proofs.States.{good-state, sent-good, small-state}
use Rattle.law_server_bounds.proofs.sizes.packets_are_whole.Goals as goal

module _ (g : Rattle.law_server_bounds.proofs.sizes.packets_are_whole.Given.Over) (c : goal.After-packets_have_all_messages g) where
  laws : Laws
  laws = record {
    sized = c.container_sizes.ensures.whole;
    have = c.packets_have_all_messages.ensures.all;
    packets = c.packets_have_all_messages.ensures.packets;
    lawful = c.parts_are_exact.ensures.only_lawful;
    read = c.items_fit.ensures.fits;
  }

pub returns-clause-sent : goal.returns-clause-sent
returns-clause-sent g c = λ setting state draws small none.
    let done = sent-good setting draws (laws g c).sized (laws g c).have (laws g c).packets state (good-state state small none) in
    (small-state (all_sent setting state) done, done.sent)

pub returns-clause-event : goal.returns-clause-event
returns-clause-event g c = λ setting serve service course event draws words small kept whole.
    (event-stands (laws g c) setting serve draws words service course event small (record { kept = kept; whole = whole })).whole

pub returns-clause-all : goal.returns-clause-all
returns-clause-all g c = λ setting serve service draw events draws words small.
    (events-stand (laws g c) setting serve draws words service events (begun_course service draw) small
    (record { kept = record { sessions = tt; jobs = tt }; whole = tt })).whole
