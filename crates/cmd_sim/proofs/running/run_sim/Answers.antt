use Rattle.cmd_sim.proofs.Ends.{told-run}
use Rattle.cmd_sim.proofs.running.run_sim.Goals as goal

pub returns-in-Ok : goal.returns-in-Ok
returns-in-Ok g c =
    told-run c.one_reading.ensures.events c.one_reading.ensures.not_both c.args.wire _ _ c.in-Ok.answer.text c.in-Ok.answer.status c.tell.result c.in-Ok.ensures.status c.in-Ok.ensures.answered
    (λ e. record { bytes = c.in-Ok.ensures.to_the_end e; no_fault = c.in-Ok.ensures.no_fault e }) c.tell.ensures
