use Rattle.envelope.specs.Lock.{clear_lock, mt_lock}
use Rattle.ring_rules.proofs.Opened.{opens-as_worked_out, worked_out-as_opens}
use Rattle.ring_rules.proofs.laws.packets_open_as_worked_out.Goals as goal

pub returns-clause-of_the_protocol : goal.returns-clause-of_the_protocol
returns-clause-of_the_protocol c = λ ring now dir packet envelope. (
  opens-as_worked_out mt_lock ring now dir packet envelope,
  worked_out-as_opens mt_lock c.sealed_packets_are_read_back.ensures.of_the_protocol ring now dir packet envelope,
)

pub returns-clause-clear : goal.returns-clause-clear
returns-clause-clear c = λ ring now dir packet envelope. (
  opens-as_worked_out clear_lock ring now dir packet envelope,
  worked_out-as_opens clear_lock c.sealed_packets_are_read_back.ensures.clear ring now dir packet envelope,
)
