use Rattle.server_core.proofs.BetweenEvents.{Keeps, attach-few, packet-few, tick-few}
use Rattle.server_core.proofs.order_laws.events_give_few.Goals as goal

pub returns-clause-packet : goal.returns-clause-packet
returns-clause-packet g c = λ setting envelope server draw early is.
    let keeps : Keeps g.row.D.Denot g.row.D.Denot = record {
      order = c.servers_stay_in_order.ensures.event;
      replies = c.replies_are_few.ensures.event;
      jobs = c.jobs_are_few.ensures.event;
      gives = c.events_give_few.ensures.event;
    } in
    packet-few keeps setting envelope server draw early is

pub returns-clause-tick : goal.returns-clause-tick
returns-clause-tick g c = λ setting server draw early is.
    let keeps : Keeps g.row.D.Denot g.row.D.Denot = record {
      order = c.servers_stay_in_order.ensures.event;
      replies = c.replies_are_few.ensures.event;
      jobs = c.jobs_are_few.ensures.event;
      gives = c.events_give_few.ensures.event;
    } in
    tick-few keeps setting server draw early is

pub returns-clause-attach : goal.returns-clause-attach
returns-clause-attach g c = λ setting name server draw early is.
    let keeps : Keeps g.row.D.Denot g.row.D.Denot = record {
      order = c.servers_stay_in_order.ensures.event;
      replies = c.replies_are_few.ensures.event;
      jobs = c.jobs_are_few.ensures.event;
      gives = c.events_give_few.ensures.event;
    } in
    attach-few keeps setting name server draw early is
