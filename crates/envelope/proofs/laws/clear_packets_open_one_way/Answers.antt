use Rattle.envelope.proofs.Refusals.{one_way}
use Rattle.envelope.proofs.laws.clear_packets_open_one_way.Goals as goal

pub returns : goal.returns
returns c = one_way c.lawful.ensures c.byte_laws.ensures
