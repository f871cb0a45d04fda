use Rattle.std.proofs.Common.{◌≡◌, ◌-◌, take, length}
use Rattle.aes_core.specs.KeySchedule.{expanded}
use Rattle.aes_core.specs.Words.{bytes_of}
use Rattle.aes_core.proofs.schedule.key_schedule.Given as goal

abbrev pub invariant-words : goal.invariant-words
invariant-words l = (length l.schedule ≡ 60) × (bytes_of (take l.i l.schedule) ≡ expanded l.key (l.i - 8))
