use Rattle.law_server.proofs.Judged.{Known}
use Rattle.law_server.proofs.Service.{service-called}
use Rattle.law_server.proofs.Events.{event-stands, course-stands}
use Rattle.law_server.proofs.Unfailed.{unfailed-event, course-unfailed}
use Rattle.law_server.proofs.laws.servers_stay_in_order.Goals as goal

pub returns-clause-event : goal.returns-clause-event
returns-clause-event g c = λ setting serve service course event are.
    let known : Known = record { new = c.numbers_are_judged_once.ensures.new; noted = c.marks_follow_history.ensures.noted } in
    let stand = event-stands known service-called setting serve service course event (record { names = are.names; each = are.each }) in
    record { names = stand.names; each = stand.each; unfailed = unfailed-event setting serve service course event are.unfailed }

pub returns-clause-all : goal.returns-clause-all
returns-clause-all g c = λ setting serve service draw events.
    let known : Known = record { new = c.numbers_are_judged_once.ensures.new; noted = c.marks_follow_history.ensures.noted } in
    let stand = course-stands known service-called setting serve service draw events in
    record { names = stand.names; each = stand.each; unfailed = course-unfailed setting serve service draw events }
