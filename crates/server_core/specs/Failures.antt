-- Jobs of a session that have failed, as they are answered.
use Rattle.std.specs.Prelude.{◌≡◌, ◌≤◌, ℕ, ◌+◌, ◌&&◌, not, Bool, List, [], length}
use Rattle.id_window.specs.History.{History}
use Rattle.waits.specs.declared.job.Unfinished.{Unfinished}
use Rattle.waits.specs.Jobs.{Queue, is_of, is_ready, one_if, total}
use Rattle.server_rules.specs.Server.{Binding, Name, name_of}
use Rattle.server_rules.specs.Event.{Setting, Speaker}
use Rattle.law_server.specs.Order.{IsSpeaking}
use Rattle.server_session.specs.declared.session.SessionState.{SessionState}
use Rattle.server_dispatch.specs.declared.turn.Turn.{Turn}
use Rattle.server_dispatch.specs.Speaks.{Speaks}
use Rattle.server_core.specs.One.{AreOwnFailures, fails_all}

-- a job of the session that isn't ready: only such a one fails
abbrev pub is_blocked : Name → Unfinished → Bool
is_blocked name one = is_of name.key name.session one && not (is_ready one)

-- how many there are
abbrev pub blocked_of : Name → Queue → ℕ
blocked_of name jobs = total (λ one. one_if (is_blocked name one)) jobs

-- what holds of a session whose failed jobs are to be answered: it is in order, and all jobs that have failed are its own
pub record HasFailures {S : Type 0} (name : Name) (others : Name → Queue) (past : History) (speaker : Speaker S) : Type 0 where
  pub named : name_of speaker.session ≡ name
  pub order : IsSpeaking name others past [] speaker
  pub own : AreOwnFailures name speaker.jobs

-- Scaffolding, and no promise: how far the jobs that have failed were answered after so many steps.
pub record SoFar {S : Type 0} (now : ℕ) (setting : Setting S) (bindings : List Binding) (draw : S) (name : Name) (others : Name → Queue) (past : History) (start : Speaker S) (steps : ℕ) (standing : SessionState) (turn : Turn) (jobs : Queue) : Type 0 where
  pub speaker : Speaker S
  pub speaks : Speaks now standing turn jobs bindings draw speaker
  pub has : HasFailures name others past speaker
  pub left : blocked_of name speaker.jobs + steps ≤ blocked_of name start.jobs
  pub same : fails_all setting (length speaker.jobs) speaker ≡ fails_all setting (length start.jobs) start
