use Rattle.std.proofs.Common.{Option, ap}
use Rattle.auth_keys.specs.declared.ring.RingKey.{RingKey}
use Rattle.envelope.specs.Lock.{mt_lock}
use Rattle.ring_rules.specs.Sealing.{packet_under}
use Rattle.law_runs.proofs.laws.settings_seal.Goals as goal

pub returns : goal.returns
returns g c = λ step ring. record {
  sealed = λ dir envelope padding entry found. ap (λ (one : Option RingKey). packet_under mt_lock one dir envelope padding) found;
  opens = λ now dir bytes envelope. c.packets_open_as_worked_out.ensures.of_the_protocol ring now dir bytes envelope;
}
