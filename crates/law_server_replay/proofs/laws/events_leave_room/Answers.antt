use Rattle.server_rules.specs.Answer.{attaches, begun, takes, ticks}
use Rattle.server_rules.specs.Event.{speaks}
use Rattle.waits.specs.Jobs.{ready_job}
use Rattle.law_server_replay.proofs.Rooms.{ended_room, run_room}
use Rattle.law_server_replay.proofs.laws.events_leave_room.Goals as goal

pub returns-clause-packet : goal.returns-clause-packet
returns-clause-packet g c = λ setting envelope server draw. ended_room setting (takes setting envelope (begun server draw))

pub returns-clause-tick : goal.returns-clause-tick
returns-clause-tick g c = λ setting server draw. ended_room setting (ticks setting (begun server draw))

pub returns-clause-attach : goal.returns-clause-attach
returns-clause-attach g c = λ setting name server draw. ended_room setting (speaks name (attaches setting) (begun server draw))

pub returns-clause-work : goal.returns-clause-work
returns-clause-work g c = λ setting place serve service server draw. run_room setting place (ready_job place server.jobs) serve service server draw
