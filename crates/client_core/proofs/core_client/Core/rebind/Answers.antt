use Rattle.client_core.proofs.core_client.Core.rebind.Goals as goal

pub invariant_of-self : goal.invariant_of-self
invariant_of-self c = (c.self.invariant.0, c.set_binding.ensures.can_bind c.requires, c.self.invariant.2)
