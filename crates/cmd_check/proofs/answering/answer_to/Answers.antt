use Rattle.cmd_check.proofs.Owing.{bad-of, bad-owes, broken-of, broken-owes, yes-of, yes-owes}
use Rattle.cmd_check.proofs.answering.answer_to.Goals as goal

pub returns-in-Ok-Yes-clause-owed : goal.returns-in-Ok-Yes-clause-owed
returns-in-Ok-Yes-clause-owed c = yes-owes c.args.text.now _ c.new.result c.requires c.in-Ok-Yes.field-0-is c.in-Ok-Yes.ensures.found c.new.ensures.status c.new.ensures.text

pub returns-in-Ok-Yes-clause-status : goal.returns-in-Ok-Yes-clause-status
returns-in-Ok-Yes-clause-status c = yes-of c.new.result c.new.ensures.status

pub returns-in-Ok-Broken-clause-owed : goal.returns-in-Ok-Broken-clause-owed
returns-in-Ok-Broken-clause-owed c =
    broken-owes c.args.text.now _ c.in-Ok-Broken.clause c.in-Ok-Broken.line c.broken.result c.requires c.in-Ok-Broken.field-0-is c.in-Ok-Broken.ensures.found c.broken.ensures.status c.broken.ensures.text

pub returns-in-Ok-Broken-clause-status : goal.returns-in-Ok-Broken-clause-status
returns-in-Ok-Broken-clause-status c = broken-of c.broken.result c.broken.ensures.status

pub returns-in-Err-BadLine-clause-owed : goal.returns-in-Err-BadLine-clause-owed
returns-in-Err-BadLine-clause-owed c =
    bad-owes c.args.text.now _ c.in-Err-BadLine.line c.bad_line.result c.requires c.in-Err-BadLine.field-0-is c.in-Err-BadLine.ensures.fault c.bad_line.ensures.status c.bad_line.ensures.text

pub returns-in-Err-BadLine-clause-status : goal.returns-in-Err-BadLine-clause-status
returns-in-Err-BadLine-clause-status c = bad-of c.bad_line.result c.bad_line.ensures.status
