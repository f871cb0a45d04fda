use Rattle.client_rules.specs.Asking.{pinged}
use Rattle.client_core.proofs.OwnLemmas.{keeps_one}
use Rattle.client_core.proofs.open.OpenClient.ping.Goals as goal

pub invariant_of-self : goal.invariant_of-self
invariant_of-self c = (rw (c.ping.ensures.learnt, c.deref_mut.ensures.value) c.self.invariant.0, keeps_one _ _ (pinged c.args.id) c.self.invariant.1 (rw c.deref_mut.ensures.value at c.ping.ensures.stands))
