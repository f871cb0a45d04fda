use Rattle.std.proofs.Common.{arith}
use Rattle.client_core.proofs.core_client.Core.fresh.Goals as goal

pub invariant_of-result : goal.invariant_of-result
invariant_of-result c =
    (rw (c.in_ok-calls.ensures.kept) tt, c.requires, (c.new-waiting.ensures.can_wait, rw (c.new-learnt.ensures) (λ is. absurd (grind (arith, is)))))
