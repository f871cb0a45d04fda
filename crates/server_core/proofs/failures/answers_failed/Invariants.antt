use Rattle.std.proofs.Common.{◌≡◌, ◌≤◌, ◌+◌, ◌*◌, Bool, List}
use Rattle.id_window.specs.History.{History}
use Rattle.outbox.specs.declared.kept.Kept.{Kept}
use Rattle.waits.specs.Jobs.{Queue}
use Rattle.server_rules.specs.Server.{Binding, Name}
use Rattle.server_rules.specs.Event.{Speaker}
use Rattle.server_dispatch.specs.Contents.{short_bytes_max}
use Rattle.server_output.specs.Items.{result_bytes}
use Rattle.server_session.specs.SessionState.{replies_left}
use Rattle.server_session.specs.Says.{Keys, setting_of}
use Rattle.server_dispatch.specs.Spare.{Uses}
use Rattle.server_dispatch.specs.Speaks.{Speaks, Spends}
use Rattle.server_core.specs.Failures.{HasFailures, SoFar}
use Rattle.server_core.proofs.failures.answers_failed.Given as goal

-- after so many steps as many jobs at most were answered
abbrev pub invariant-loop-place : goal.invariant-loop-place
invariant-loop-place g l = record {
  speaks : (keys : Keys) (bindings : List Binding) (draw : g.row.D.Denot) (name : Name) (others : Name → Queue) (past : History) (start : Speaker g.row.D.Denot)
      → Speaks l.now l.fn.standing l.fn.turn l.fn.jobs.jobs bindings draw start → HasFailures name others past start
      → SoFar l.now (setting_of l.now g.D.Draw.step keys) bindings draw name others past start l.place l.standing l.turn l.jobs.jobs;
  spends : Spends l.now l.place (l.place * result_bytes short_bytes_max) l.place l.fn.standing l.fn.turn l.standing l.turn;
  uses : (called : Kept → Bool) → Uses called l.now l.place (l.place * result_bytes short_bytes_max) l.place l.place l.fn.standing l.fn.turn l.standing l.turn;
  replies : replies_left l.fn.standing ≤ replies_left l.standing + l.place;
  same_job_room : l.jobs.room ≡ l.fn.jobs.room;
}
