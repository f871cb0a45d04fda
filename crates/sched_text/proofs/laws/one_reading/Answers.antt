use Rattle.sched_text.specs.Lines.{lines_in}
use Rattle.sched_text.proofs.Readings.{one_list, not_both, one_bad}
use Rattle.sched_text.proofs.laws.one_reading.Goals as goal

pub returns-clause-events : goal.returns-clause-events
returns-clause-events c = λ text events others. one_list (lines_in text) events others

pub returns-clause-not_both : goal.returns-clause-not_both
returns-clause-not_both c = λ text events bad. not_both (lines_in text) events bad

pub returns-clause-bad_line : goal.returns-clause-bad_line
returns-clause-bad_line c = λ text bad other. one_bad (lines_in text) bad other
