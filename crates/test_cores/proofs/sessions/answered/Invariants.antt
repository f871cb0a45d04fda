use Rattle.server_session.specs.SessionState.{IsAt}
use Rattle.test_cores.proofs.sessions.answered.Given as goal

-- the session stands at moment 0
abbrev pub invariant-loop-call : goal.invariant-loop-call
invariant-loop-call l = IsAt 0 l.standing
