-- A session that is heard, as it is kept.
use Rattle.std.specs.Prelude.{◌≡◌, ℕ, List, []}
use Rattle.waits.specs.Jobs.{Queue}
use Rattle.server_rules.specs.Server.{Binding}
use Rattle.server_session.specs.declared.session.SessionState.{SessionState}
use Rattle.server_session.specs.SessionState.{Stands}
use Rattle.server_core.specs.Among.{Among}
use Rattle.server_core.specs.Sessions.{AreKept}

-- What is kept of a session and of the others, the jobs, the bindings and the draw are those of one that was heard and has
-- said nothing yet.
pub record IsHeard {S : Type 0} (now : ℕ) (kept : List SessionState) (standing : SessionState) (queue : Queue) (bound : List Binding) (draw : S) (among : Among S) : Type 0 where
  pub others : AreKept now kept among.others
  pub stands : Stands now standing among.speaker.session
  pub jobs : queue ≡ among.speaker.jobs
  pub bindings : bound ≡ among.speaker.bindings
  pub draws : draw ≡ among.speaker.draw
  pub owed : among.speaker.owed ≡ []
  pub sent : among.speaker.sent ≡ []
  pub entries : among.speaker.entries ≡ []
