use Rattle.client_core.proofs.core_client.Core.finish.Goals as goal

pub invariant_of-self : goal.invariant_of-self
invariant_of-self c = (c.settle_all.ensures.sound _ c.self.invariant.0, c.self.invariant.1, c.self.invariant.2)
