use Rattle.std.proofs.Common.{arith}
use Rattle.msg_ids.specs.Counters.{room}
use Rattle.msg_ids.proofs.numbers.Numbers.room.Goals as goal

pub returns : goal.returns
unfolding room
returns c = rw (← c.self.view_is) (omega arith)
