use Rattle.server_rules.proofs.Marks.{marks-noted, marks-others}
use Rattle.server_rules.proofs.laws.marks_follow_history.Goals as goal

pub returns-clause-noted : goal.returns-clause-noted
returns-clause-noted c = marks-noted

pub returns-clause-others : goal.returns-clause-others
returns-clause-others c = marks-others
