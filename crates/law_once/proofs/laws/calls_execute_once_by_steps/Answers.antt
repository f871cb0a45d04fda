use Rattle.law_once.proofs.laws.calls_execute_once_by_steps.Goals as goal

pub returns-clause-schedule : goal.returns-clause-schedule
returns-clause-schedule g c = λ lock ring setting given events same seals sizes so sound bytes below.
    c.calls_execute_once.ensures.schedule lock ring setting given events seals sizes so sound bytes (c.step_words_keep_names_fresh.ensures.schedule setting given events same below)

pub returns-clause-any : goal.returns-clause-any
returns-clause-any g c = λ lock ring setting given events same seals sizes so sound bytes chance below.
    c.calls_execute_once.ensures.any lock ring setting given events seals sizes so sound bytes chance (c.step_words_keep_names_fresh.ensures.any setting given events same below)
