use Rattle.std.proofs.Common.{length}
use Rattle.waits.specs.Stamps.{after}
use Rattle.waits.proofs.ToldJobs.{IsTelling}
use Rattle.waits.proofs.telling.tell_all.Given as goal

-- those that were taken from what is left are told
abbrev pub invariant-loop-answer : goal.invariant-loop-answer
invariant-loop-answer l = IsTelling (after l.answer.key l.answer.session l.answer.number l.answer.ok) l.fn.told l.fn.left l.told l.left l.totals l.bytes l.fn.bytes

abbrev pub decreases-loop-answer : goal.decreases-loop-answer
decreases-loop-answer l = length l.left
