use Rattle.aes_core.proofs.InverseSchedule.{MixedBelow}
use Rattle.aes_core.proofs.schedule.inverse_schedule.Given as goal

abbrev pub invariant-words : goal.invariant-words
invariant-words l = MixedBelow l.inverse l.schedule l.i
