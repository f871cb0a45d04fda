use Rattle.waits.specs.Stamps.{after}
use Rattle.waits.proofs.ToldJobs.{telling_on}
use Rattle.waits.proofs.telling.tell_all.Goals as goal

pub loop-answer-preserved : goal.loop-answer-preserved
loop-answer-preserved c =
    let e = c.tell_next.ensures in
    telling_on (after c.args.answer.key c.args.answer.session c.args.answer.number c.args.answer.ok) c.args.told.now c.args.left.now c.loop-answer.told c.loop-answer.left c.loop-answer.totals c.loop-answer.bytes c.args.bytes.now c.loop-answer.invariant c.tell_next.new.told c.tell_next.new.left c.tell_next.new.totals c.tell_next.new.bytes e.left e.told e.totals e.bytes e.bytes_fit
