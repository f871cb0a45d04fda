use Rattle.cmd_check.proofs.Owing.{owes-left}
use Rattle.cmd_check.proofs.answering.answer.Goals as goal

pub returns-in_ok-answer_to-in-Ok-clause-answered : goal.returns-in_ok-answer_to-in-Ok-clause-answered
returns-in_ok-answer_to-in-Ok-clause-answered g c =
    owes-left (g.S.Source.left c.args.input.now) _ c.as_slice.result.now c.in_ok-answer_to-in-Ok.field-0 c.as_slice.ensures.value c.in-Ok.ensures.whole c.in_ok-answer_to-in-Ok.ensures.owed
