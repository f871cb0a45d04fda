use Rattle.server_core.proofs.BetweenEvents.{Keeps, run-few}
use Rattle.server_core.proofs.order_laws.runs_give_few.Goals as goal

pub returns : goal.returns
returns g c = λ setting place serve service server draw early short is.
    let keeps : Keeps g.row.D.Denot g.row.V.Denot = record {
      order = c.servers_stay_in_order.ensures.event;
      replies = c.replies_are_few.ensures.event;
      jobs = c.jobs_are_few.ensures.event;
      gives = c.events_give_few.ensures.event;
    } in
    run-few keeps setting place serve service server draw early short is
