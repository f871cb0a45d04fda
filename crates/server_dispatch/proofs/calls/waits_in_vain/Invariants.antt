use Rattle.std.proofs.Common.{◌≡◌, false, take, ℕ}
use Rattle.std.specs.List.{list_any}
use Rattle.server_rules.specs.Server.{Session}
use Rattle.server_rules.specs.Waiting.{outlook}
use Rattle.server_rules.specs.Calls.{is_in_vain}
use Rattle.server_session.specs.SessionState.{Stands}
use Rattle.server_dispatch.proofs.calls.waits_in_vain.Given as goal

-- none of those that are passed is in vain
abbrev pub invariant-loop-place : goal.invariant-loop-place
invariant-loop-place l = (now : ℕ) (session : Session) → Stands now l.standing session
    → list_any (λ other. is_in_vain (outlook session l.jobs.jobs other)) (take l.place l.numbers) ≡ false
