use Rattle.std.proofs.Common.{◌≡◌, ◌≤◌, ◌+◌, ℕ, List, length}
use Rattle.std.specs.List.{All}
use Rattle.auth_keys.specs.declared.ring.RingKey.{RingKey}
use Rattle.server_rules.specs.Event.{State}
use Rattle.server_core.specs.Losing.{IsHere}
use Rattle.server_core.specs.Sessions.{AreKept}
use Rattle.server_core.proofs.LoseLemmas.{AreLost}
use Rattle.server_core.proofs.losing.lose_all_spent.Given as goal

-- so many sessions at least were lost
abbrev pub invariant-loop-step : goal.invariant-loop-step
invariant-loop-step g l = record {
  lost : (now : ℕ) (start : State g.row.D.Denot) → AreKept now l.fn.sessions start.sessions → l.fn.jobs.jobs ≡ start.jobs
      → AreLost g.row.D.Denot now l.sessions l.jobs.jobs start;
  here : (ring : List RingKey) (now : ℕ) → All (IsHere ring now) l.fn.sessions → All (IsHere ring now) l.sessions;
  fewer : length l.sessions + l.step ≤ length l.fn.sessions;
}
