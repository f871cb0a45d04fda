use Rattle.world_rules.specs.World.{begins}
use Rattle.law_packets.proofs.Below.{Laws}
use Rattle.server_rules.specs.Events.{Attach}
use Rattle.law_packets.proofs.Events.{after-steady, all-any, all-steady, begins-steady}
use Rattle.law_packets.proofs.Serving.{served-steady}
use Rattle.law_packets.proofs.laws.packets_of_worlds_are_lawful.Goals as goal

module _ (g : Rattle.law_packets.proofs.laws.packets_of_worlds_are_lawful.Given.Over) (c : goal.After-packets_may_be_sealed-2 g) where
  laws : Laws g.row.D.Denot g.row.V.Denot
  laws = record {
    found = c.one_key_of_an_identifier.ensures.found;
    long = c.identifiers_are_longs.ensures.long;
    sealed = c.lawful_parts_are_sealed.ensures;
    made = c.packets_may_be_sealed.ensures.made;
    step = c.packets_may_be_sealed.ensures.event;
    flushed = c.packets_may_be_sealed.ensures.flush;
    sent = c.packets_may_be_sealed.ensures.packet;
    steady = c.packets_may_be_sealed-2.ensures.steady;
    packets = c.packets_may_be_sealed-2.ensures.packets;
  }

pub returns-clause-begins : goal.returns-clause-begins
returns-clause-begins g c = begins-steady

pub returns-clause-event : goal.returns-clause-event
returns-clause-event g c = λ lock ring setting world event sizes seal sound bytes s.
    after-steady (laws g c) lock ring setting (record { sizes = sizes; seal = seal; sound = sound }) world event bytes s

pub returns-clause-attach : goal.returns-clause-attach
returns-clause-attach g c = λ lock ring setting world name sizes seal sound s.
    served-steady (laws g c) lock ring setting (record { sizes = sizes; seal = seal; sound = sound }) (Attach world.clock name) world tt s

pub returns-clause-schedule : goal.returns-clause-schedule
returns-clause-schedule g c = λ lock ring setting draw events sizes seal sound bytes.
    (all-steady (laws g c) lock ring setting (record { sizes = sizes; seal = seal; sound = sound }) events (begins setting draw) bytes (begins-steady lock ring setting draw)).bag

pub returns-clause-any : goal.returns-clause-any
returns-clause-any g c = λ lock ring setting draw events sizes seal sound bytes.
    (all-any (laws g c) lock ring setting (record { sizes = sizes; seal = seal; sound = sound }) events (begins setting draw) bytes (begins-steady lock ring setting draw)).bag
