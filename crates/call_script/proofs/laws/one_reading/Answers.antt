use Rattle.sched_text.specs.Lines.{lines_in}
use Rattle.call_script.proofs.Scripts.{one_list, not_both, one_bad}
use Rattle.call_script.proofs.laws.one_reading.Goals as goal

pub returns-clause-calls : goal.returns-clause-calls
returns-clause-calls c = λ text calls others. one_list c.one_call.ensures (lines_in text) calls others

pub returns-clause-not_both : goal.returns-clause-not_both
returns-clause-not_both c = λ text calls bad. not_both (lines_in text) calls bad

pub returns-clause-bad_line : goal.returns-clause-bad_line
returns-clause-bad_line c = λ text bad other. one_bad (lines_in text) bad other
