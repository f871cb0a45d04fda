use Rattle.std.proofs.Common.{arith}
use Rattle.server_core.proofs.PacketRoom.{numbers-fit, room-same}
use Rattle.server_core.proofs.room.speech_for.Goals as goal

pub returns-clause-room : goal.returns-clause-room
returns-clause-room c =
    room-same _ _ _ _ c.new.result (omega arith) (omega (arith, c.most_bytes.ensures.sum)) c.new.ensures

pub returns-clause-numbers : goal.returns-clause-numbers
returns-clause-numbers c =
    numbers-fit _ _ _ _ c.new.result c.requires.few c.requires.few_jobs
    (omega (arith, c.requires.few_replies, c.requires.few, c.requires.few_jobs))
    (omega (arith, c.requires.short, c.most_bytes.ensures.few, c.requires.few, c.requires.few_jobs)) c.new.ensures
