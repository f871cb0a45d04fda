use Rattle.client_rules.specs.Asking.{salts_asked}
use Rattle.client_core.proofs.OwnLemmas.{keeps_one}
use Rattle.client_core.proofs.open.OpenClient.ask_salts.Goals as goal

pub invariant_of-self : goal.invariant_of-self
invariant_of-self c = (rw (c.ask_salts.ensures.learnt, c.deref_mut.ensures.value) c.self.invariant.0, keeps_one _ _ (salts_asked c.args.n) c.self.invariant.1 (rw c.deref_mut.ensures.value at c.ask_salts.ensures.stands))
