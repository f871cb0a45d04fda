use Rattle.std.proofs.Common.{refl, arith}
use Rattle.aes_core.proofs.InverseSchedule.{mixed_more, IsInverseSchedule-mixed}
use Rattle.aes_core.proofs.schedule.inverse_schedule.Goals as goal

pub words-init : goal.words-init
words-init c = record {
  length_is = c.told-schedule;
  first = λ k h. refl;
  mixed = λ k h lt. absurd (omega arith);
  others = λ k h. refl;
}

pub words-preserved : goal.words-preserved
words-preserved c =
    mixed_more c.words.inverse c.args.schedule.now c.words.i _ (omega arith) (omega arith) c.words.invariant c.inverse_mixed_word.ensures

pub returns : goal.returns
returns c = IsInverseSchedule-mixed c.words.inverse c.args.schedule.now c.words.i (omega arith) c.told-schedule c.words.invariant
