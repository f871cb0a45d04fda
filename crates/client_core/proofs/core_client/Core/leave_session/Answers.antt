use Rattle.std.proofs.Common.{arith, refl}
use Rattle.client_core.proofs.core_client.Core.leave_session.Goals as goal

pub invariant_of-self : goal.invariant_of-self
invariant_of-self c = (
  rw (c.forget_packets.ensures.kept, c.clear_acks.ensures.kept, c.new-self-inside.ensures) (c.settle_all.ensures.renewed refl _ c.self.invariant.0),
  c.set_binding.ensures.can_bind tt,
  (c.start_anew.ensures.can_wait, rw (c.clear.ensures) (λ is. absurd (grind (arith, is)))),
)
