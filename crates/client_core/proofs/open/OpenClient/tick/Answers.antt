use Rattle.client_rules.specs.Asking.{ticked}
use Rattle.client_core.proofs.OwnLemmas.{keeps_one}
use Rattle.client_core.proofs.open.OpenClient.tick.Goals as goal

pub invariant_of-self : goal.invariant_of-self
invariant_of-self c = (rw (c.tick.ensures.learnt, c.deref_mut.ensures.value) c.self.invariant.0, keeps_one _ _ (ticked) c.self.invariant.1 (rw c.deref_mut.ensures.value at c.tick.ensures.stands))
