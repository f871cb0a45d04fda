use Rattle.cmd_sim.proofs.Playing.{bad-of, bad-owes, played-of, played-owes}
use Rattle.cmd_sim.proofs.sim.answer_to.Goals as goal

pub returns-in-Ok-clause-owed : goal.returns-in-Ok-clause-owed
returns-in-Ok-clause-owed c = played-owes c.args.wire c.args.text.now c.in-Ok.events c.requires c.in-Ok.ensures.events c.play.result c.play.ensures

pub returns-in-Ok-clause-status : goal.returns-in-Ok-clause-status
returns-in-Ok-clause-status c = played-of c.args.wire c.args.text.now c.in-Ok.events c.requires c.in-Ok.ensures.events c.play.result c.play.ensures

pub returns-in-Err-BadLine-clause-owed : goal.returns-in-Err-BadLine-clause-owed
returns-in-Err-BadLine-clause-owed c = bad-owes c.args.wire c.bad_line.result c.args.text.now c.in-Err-BadLine.line _ c.requires c.in-Err-BadLine.field-0-is c.in-Err-BadLine.ensures.bad_line c.bad_line.ensures.status c.bad_line.ensures.text

pub returns-in-Err-BadLine-clause-status : goal.returns-in-Err-BadLine-clause-status
returns-in-Err-BadLine-clause-status c = bad-of c.bad_line.result c.bad_line.ensures.status
