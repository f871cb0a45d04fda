use Rattle.msg_ids.proofs.RoomLemmas.{HasNext-from_room, room-after_next}
use Rattle.msg_ids.proofs.laws.room_lasts.Goals as goal

pub returns-clause-has_next : goal.returns-clause-has_next
returns-clause-has_next c = HasNext-from_room

pub returns-clause-falls_by_one : goal.returns-clause-falls_by_one
returns-clause-falls_by_one c = room-after_next
