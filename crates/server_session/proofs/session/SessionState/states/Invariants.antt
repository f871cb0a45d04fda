use Rattle.std.proofs.Common.{◌≡◌, ℕ, map, take}
use Rattle.inbox.specs.States.{state_byte}
use Rattle.server_rules.specs.Server.{Session, marks_of}
use Rattle.server_session.specs.SessionState.{Stands}
use Rattle.server_session.proofs.session.SessionState.states.Given as goal

-- the states so far are those of the numbers so far
abbrev pub invariant-loop-place : goal.invariant-loop-place
invariant-loop-place l =
    (now : ℕ) (session : Session) → Stands now l.self session
    → take l.place l.states ≡ map (state_byte session.history (marks_of session.history session.replies)) (take l.place l.ids)
