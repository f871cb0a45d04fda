use Rattle.client_core.proofs.core_client.Core.attach.Goals as goal

pub invariant_of-self : goal.invariant_of-self
invariant_of-self c =
    (c.mark_sent.ensures.sound _ c.self.invariant.0, c.mark_asked.ensures.can_bind c.self.invariant.1, c.self.invariant.2)
