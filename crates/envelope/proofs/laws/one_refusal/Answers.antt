use Rattle.envelope.proofs.Refusals as refusals
use Rattle.envelope.proofs.laws.one_refusal.Goals as goal

pub returns : goal.returns
returns c = refusals.one_refusal
