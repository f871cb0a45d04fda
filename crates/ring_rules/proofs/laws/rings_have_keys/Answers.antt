use Rattle.ring_rules.proofs.Bound.{are-of}
use Rattle.ring_rules.proofs.laws.rings_have_keys.Goals as goal

pub returns : goal.returns
returns c = are-of c.seal_laws.ensures c.made_messages_bind.ensures c.one_answer.ensures.not_both
