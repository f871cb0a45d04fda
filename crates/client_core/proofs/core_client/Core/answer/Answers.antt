use Rattle.client_core.proofs.core_client.Core.answer.Goals as goal

pub invariant_of-self : goal.invariant_of-self
invariant_of-self c = (c.answer_call.ensures.sound _ c.self.invariant.0, c.self.invariant.1, c.self.invariant.2)

pub invariant_of-self-in_default : goal.invariant_of-self-in_default
invariant_of-self-in_default c = (c.answer_call.ensures.sound _ c.self.invariant.0, c.self.invariant.1, c.self.invariant.2)
