use Rattle.std.proofs.Common.{subst}
use Rattle.std.specs.Prelude.{IfSome}
use Rattle.client_core.specs.Sound.{IsSendable}
use Rattle.client_core.proofs.core_client.Core.flush.Goals as goal

pub flush_call-requires-clause-sendable : goal.flush_call-requires-clause-sendable
flush_call-requires-clause-sendable g c =
    subst (λ own. IfSome own (λ one. IsSendable one.message)) c.in-Ok-Some-call_alone.field-0-is
    (c.in-Ok-Some-call_alone.ensures.can_go c.self.inside.numbers.last c.self.invariant.0)
