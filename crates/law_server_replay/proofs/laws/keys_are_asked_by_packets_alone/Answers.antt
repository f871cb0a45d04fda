use Rattle.law_server_replay.proofs.Asking.{attach_same, tick_same, work_same}
use Rattle.law_server_replay.proofs.laws.keys_are_asked_by_packets_alone.Goals as goal

pub returns-clause-tick : goal.returns-clause-tick
returns-clause-tick g c = λ now step keys other server draw. tick_same now step keys other server draw

pub returns-clause-attach : goal.returns-clause-attach
returns-clause-attach g c = λ now step keys other name server draw. attach_same now step keys other name server draw

pub returns-clause-work : goal.returns-clause-work
returns-clause-work g c = λ now step keys other place serve service server draw. work_same now step keys other place serve service server draw
