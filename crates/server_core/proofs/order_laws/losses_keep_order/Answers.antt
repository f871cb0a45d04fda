use Rattle.std.proofs.Common.{ℕ, None, false}
use Rattle.server_rules.specs.Event.{Setting}
use Rattle.server_core.proofs.BetweenEvents.{Keeps, loss-keeps, restart-keeps}
use Rattle.server_core.proofs.order_laws.losses_keep_order.Goals as goal

-- a setting in which nothing is drawn
still : Setting ℕ
still = record { now = 0; step = λ given. (0, given); is_temporary = λ key. false; bound_by = λ now name call. None }

pub returns-clause-loss : goal.returns-clause-loss
returns-clause-loss c = λ name server is.
    let keeps : Keeps ℕ ℕ = record {
      order = c.servers_stay_in_order.ensures.event;
      replies = c.replies_are_few.ensures.event;
      jobs = c.jobs_are_few.ensures.event;
      gives = c.events_give_few.ensures.event;
    } in
    loss-keeps keeps still 0 0 name server is

pub returns-clause-restart : goal.returns-clause-restart
returns-clause-restart c = λ server is.
    let keeps : Keeps ℕ ℕ = record {
      order = c.servers_stay_in_order.ensures.event;
      replies = c.replies_are_few.ensures.event;
      jobs = c.jobs_are_few.ensures.event;
      gives = c.events_give_few.ensures.event;
    } in
    restart-keeps keeps still 0 0 server is

pub returns-clause-later : goal.returns-clause-later
returns-clause-later c = λ now server early is. record { at = early; order = is.order; replies = is.replies; jobs = is.jobs }
