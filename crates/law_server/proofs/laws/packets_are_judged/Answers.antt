use Rattle.law_server.proofs.Judged.{Known, marks-after, open-after, told-after}
use Rattle.law_server.proofs.Service.{service-called}
use Rattle.law_server.proofs.laws.packets_are_judged.Goals as goal

pub returns-clause-marks : goal.returns-clause-marks
returns-clause-marks c = λ way session message jobs order.
    let known : Known = record { new = c.numbers_are_judged_once.ensures.new; noted = c.marks_follow_history.ensures.noted } in
    marks-after known service-called way session.replies message session.history order.judged order.replied.accepted

pub returns-clause-opened : goal.returns-clause-opened
returns-clause-opened c = λ way session message jobs order.
    let known : Known = record { new = c.numbers_are_judged_once.ensures.new; noted = c.marks_follow_history.ensures.noted } in
    open-after known service-called way session.replies message session.history session.counters.last jobs order

pub returns-clause-told : goal.returns-clause-told
returns-clause-told c = λ way session message jobs order.
    let known : Known = record { new = c.numbers_are_judged_once.ensures.new; noted = c.marks_follow_history.ensures.noted } in
    told-after known service-called way session.replies message session.history session.counters.last jobs order
