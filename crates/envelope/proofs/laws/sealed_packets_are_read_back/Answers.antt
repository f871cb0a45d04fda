use Rattle.envelope.specs.Lock.{clear_lock, mt_lock}
use Rattle.envelope.proofs.Openings.{reads_back}
use Rattle.envelope.proofs.laws.sealed_packets_are_read_back.Goals as goal

pub returns-clause-of_the_protocol : goal.returns-clause-of_the_protocol
returns-clause-of_the_protocol c = reads_back mt_lock c.lawful.ensures c.byte_laws.ensures

pub returns-clause-clear : goal.returns-clause-clear
returns-clause-clear c = reads_back clear_lock c.lawful-2.ensures c.byte_laws.ensures
