use Rattle.server_rules.specs.Events.{begun_course}
use Rattle.law_order.proofs.NoticeStates.{event-kept, events-kept}
use Rattle.law_order.proofs.notices.containers_are_told_apart.Goals as goal

pub returns-clause-event : goal.returns-clause-event
returns-clause-event g c = λ setting serve service kinds course event are sessions packets. event-kept setting serve service kinds course event are (sessions, packets)

pub returns-clause-all : goal.returns-clause-all
returns-clause-all g c = λ setting serve service draw kinds events are.
    (events-kept setting serve service kinds events (begun_course service draw) are (tt, tt)).1
