use Rattle.sched_text.specs.Lines.{lines_in}
use Rattle.cmd_relay.proofs.Readings.{one_list, not_both, one_bad}
use Rattle.cmd_relay.proofs.laws.one_reading.Goals as goal

pub returns-clause-pieces : goal.returns-clause-pieces
returns-clause-pieces c = λ text. one_list (lines_in text)

pub returns-clause-not_both : goal.returns-clause-not_both
returns-clause-not_both c = λ text. not_both (lines_in text)

pub returns-clause-bad_line : goal.returns-clause-bad_line
returns-clause-bad_line c = λ text. one_bad (lines_in text)
