use Rattle.law_once.proofs.Drawing.{steps_fresh_at}
use Rattle.world_rules.specs.Run.{run_of, run_of_any}
use Rattle.law_once.proofs.laws.step_words_keep_names_fresh.Goals as goal

pub returns-clause-world : goal.returns-clause-world
returns-clause-world g c = λ setting given n world same h below.
    steps_fresh_at (record { not_zero = c.step_words_are_fresh.ensures.not_zero; apart = c.step_words_are_fresh.ensures.apart }) setting given n world same h below

pub returns-clause-schedule : goal.returns-clause-schedule
returns-clause-schedule g c = λ setting given events same below.
    let drawn = c.names_are_words_drawn.ensures.schedule setting given events in
    steps_fresh_at (record { not_zero = c.step_words_are_fresh.ensures.not_zero; apart = c.step_words_are_fresh.ensures.apart })
    setting given drawn.0 (run_of setting given events) same drawn.1 below

pub returns-clause-any : goal.returns-clause-any
returns-clause-any g c = λ setting given events same below.
    let drawn = c.names_are_words_drawn.ensures.any setting given events in
    steps_fresh_at (record { not_zero = c.step_words_are_fresh.ensures.not_zero; apart = c.step_words_are_fresh.ensures.apart })
    setting given drawn.0 (run_of_any setting given events) same drawn.1 below
