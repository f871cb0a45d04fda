use Rattle.law_packets.proofs.Registers.{step-good}
use Rattle.law_packets.proofs.laws.registers_give_replies.Goals as goal

pub returns : goal.returns
returns c = step-good
