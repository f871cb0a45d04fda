use Rattle.server_session.proofs.RepeatLemmas.{SaidSoFar}
use Rattle.server_session.proofs.session.SessionState.says_all_again.Given as goal

abbrev pub invariant-loop-place : goal.invariant-loop-place
invariant-loop-place g l = SaidSoFar g.row.D.Denot l.self l.initial.owing l.place l.owing
