use Rattle.cmd_relay.proofs.Ends.{told-run}
use Rattle.cmd_relay.proofs.running.run_relay.Goals as goal

pub returns-in-Ok : goal.returns-in-Ok
returns-in-Ok g c =
    told-run c.args.form c.args.secret.now (λ text due other. c.one_answer.ensures.not_both c.args.form c.args.secret.now text due other c.requires) _ _ c.in-Ok.answer.text c.in-Ok.answer.status c.tell.result
    c.in-Ok.ensures.status c.in-Ok.ensures.answered (λ e. record { bytes = c.in-Ok.ensures.to_the_end e; no_fault = c.in-Ok.ensures.no_fault e }) c.tell.ensures
