use Rattle.std.proofs.Common.{◌≤◌, arith}
use Rattle.server_core.proofs.BetweenEvents.{Keeps, attach-keeps, packet-keeps, tick-keeps}
use Rattle.server_core.proofs.order_laws.events_keep_order.Goals as goal

pub returns-clause-fresh : goal.returns-clause-fresh
returns-clause-fresh g c =
    let early : 0 ≤ 4000000000 = omega arith in
    record {
      at = early;
      order = c.servers_stay_in_order.ensures.fresh;
      replies = λ place d within. let none : ⊥ = omega (arith, within) in absurd none;
      jobs = λ key session. (omega arith, omega arith);
    }

pub returns-clause-packet : goal.returns-clause-packet
returns-clause-packet g c = λ setting envelope server draw early is.
    let keeps : Keeps g.row.D.Denot g.row.D.Denot = record {
      order = c.servers_stay_in_order.ensures.event;
      replies = c.replies_are_few.ensures.event;
      jobs = c.jobs_are_few.ensures.event;
      gives = c.events_give_few.ensures.event;
    } in
    packet-keeps keeps setting envelope server draw early is

pub returns-clause-tick : goal.returns-clause-tick
returns-clause-tick g c = λ setting server draw early is.
    let keeps : Keeps g.row.D.Denot g.row.D.Denot = record {
      order = c.servers_stay_in_order.ensures.event;
      replies = c.replies_are_few.ensures.event;
      jobs = c.jobs_are_few.ensures.event;
      gives = c.events_give_few.ensures.event;
    } in
    tick-keeps keeps setting server draw early is

pub returns-clause-attach : goal.returns-clause-attach
returns-clause-attach g c = λ setting name server draw early is.
    let keeps : Keeps g.row.D.Denot g.row.D.Denot = record {
      order = c.servers_stay_in_order.ensures.event;
      replies = c.replies_are_few.ensures.event;
      jobs = c.jobs_are_few.ensures.event;
      gives = c.events_give_few.ensures.event;
    } in
    attach-keeps keeps setting name server draw early is
