use Rattle.std.proofs.Common.{arith}
use Rattle.msg_ids.specs.Counters.{room}
use Rattle.msg_ids.proofs.numbers.Numbers.next.Goals as goal
use Rattle.msg_ids.proofs.numbers.Numbers.next.Goals.{then-self-via-then-self, then-self-via-else-self+then-self-ge-CONTENT_MESSAGES_MAX, then-content, else-content}

pub returns-then-self-clause-in_room : goal.returns-then-self-clause-in_room
unfolding room
returns-then-self-clause-in_room c = rw (← c.self.view_is) λ some. elim c.then-self.branch [
  | then-self-via-then-self w ↦ absurd (omega arith)
  | then-self-via-else-self+then-self-ge-CONTENT_MESSAGES_MAX w ↦ absurd (omega arith)
]

pub returns-clause-room_lasts : goal.returns-clause-room_lasts
unfolding room
returns-clause-room_lasts c = rw (← c.self.view_is)
    elim c.if-content.branch [ then-content w ↦ omega arith | else-content w ↦ omega arith ]
