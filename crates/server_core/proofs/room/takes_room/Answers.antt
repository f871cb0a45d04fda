use Rattle.server_core.proofs.room.takes_room.Goals as goal

pub returns-clause-dues : goal.returns-clause-dues
returns-clause-dues c = λ now session stands. c.in_ok-room.ensures.dues now session stands
