use Rattle.packing.proofs.Groups.{groups-all, groups-packets, groups-few}
use Rattle.packing.proofs.laws.packets_have_all_messages.Goals as goal

pub returns-clause-all : goal.returns-clause-all
returns-clause-all c = groups-all

pub returns-clause-packets : goal.returns-clause-packets
returns-clause-packets c = groups-packets

pub returns-clause-few : goal.returns-clause-few
returns-clause-few c = groups-few
