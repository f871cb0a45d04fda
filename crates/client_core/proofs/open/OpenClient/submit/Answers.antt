use Rattle.client_core.proofs.OwnLemmas.{submits_one}
use Rattle.client_core.proofs.open.OpenClient.submit.Goals as goal

pub invariant_of-self : goal.invariant_of-self
invariant_of-self c =
    (rw (c.submit.ensures.rest, c.deref_mut.ensures.value) c.self.invariant.0, submits_one c.submit.result _ _ c.args.body.now c.args.after c.self.invariant.1 (rw c.deref_mut.ensures.value at c.submit.ensures.stands) (rw c.deref_mut.ensures.value at c.submit.ensures.unchanged))
