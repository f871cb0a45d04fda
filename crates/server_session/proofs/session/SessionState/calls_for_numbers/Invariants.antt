use Rattle.std.proofs.Common.{Bool, take}
use Rattle.std.specs.Prelude.{◌||◌}
use Rattle.outbox.specs.declared.kept.Kept.{Kept}
use Rattle.server_session.specs.Unsaid.{IsCalled, is_among}
use Rattle.server_session.proofs.session.SessionState.calls_for_numbers.Given as goal

-- those of the numbers so far are called for too
abbrev pub invariant-loop-place : goal.invariant-loop-place
invariant-loop-place l = (which : Kept → Bool) → IsCalled which l.self l.fn.called → IsCalled (λ kept. is_among (take l.place l.ids) kept || which kept) l.self l.called
