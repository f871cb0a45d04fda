use Rattle.client_core.proofs.core_client.Core.settle_call.Goals as goal

pub invariant_of-self : goal.invariant_of-self
invariant_of-self c =
    (rw (c.settle.ensures.kept) (c.calls_stay_sound.ensures.settled _ c.args.call c.args.fate _ c.self.invariant.0), c.self.invariant.1, c.self.invariant.2)
