use Rattle.law_server.proofs.Room.{event-room, course-room}
use Rattle.law_server.proofs.laws.sessions_have_room.Goals as goal

pub returns-clause-event : goal.returns-clause-event
returns-clause-event g c = event-room

pub returns-clause-all : goal.returns-clause-all
returns-clause-all g c = course-room
