use Rattle.cmd_check.proofs.Ends.{told-run}
use Rattle.cmd_check.proofs.running.run_check.Goals as goal

pub returns-in-Ok : goal.returns-in-Ok
returns-in-Ok g c =
    told-run c.one_answer.ensures.found c.one_answer.ensures.not_both _ _ c.in-Ok.answer.text c.in-Ok.answer.status c.tell.result c.in-Ok.ensures.status c.in-Ok.ensures.answered
    (λ e. record { bytes = c.in-Ok.ensures.done_at_the_end e; no_fault = c.in-Ok.ensures.done_no_fault e })
    (λ e. record { bytes = c.in-Ok.ensures.broken_at_the_end e; no_fault = c.in-Ok.ensures.broken_no_fault e }) c.tell.ensures
