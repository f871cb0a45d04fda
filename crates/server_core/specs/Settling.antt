-- A judgement that is settled in a session among the others, as they are kept.
use Rattle.std.specs.Prelude.{ℕ, List}
use Rattle.id_window.specs.History.{History}
use Rattle.inbox.specs.Verdicts.{Verdict}
use Rattle.waits.specs.Jobs.{Queue}
use Rattle.server_rules.specs.Server.{Binding, Name}
use Rattle.server_rules.specs.Event.{Setting}
use Rattle.law_server.specs.Order.{IsTold}
use Rattle.server_session.specs.declared.session.SessionState.{SessionState}
use Rattle.server_dispatch.specs.declared.turn.Turn.{Turn}
use Rattle.server_dispatch.specs.Owed.{open_with}
use Rattle.server_dispatch.specs.Speaks.{Speaks}
use Rattle.server_core.specs.declared.among_others.AmongOthers.{AmongOthers}
use Rattle.server_core.specs.Among.{Among, IsAlone, IsInOrder, row_among, speaks_among, tells_all}
use Rattle.server_core.specs.Sessions.{AreKept}

-- What is kept of the others, of a session, what it owes and records so far, the jobs, the bindings and the draw are those of
-- a speaker among the others.
pub record SpeaksAmong {S : Type 0} (now : ℕ) (kept : List SessionState) (standing : SessionState) (turn : Turn) (queue : Queue) (bound : List Binding) (draw : S) (among : Among S) : Type 0 where
  pub others : AreKept now kept among.others
  pub speaks : Speaks now standing turn queue bound draw among.speaker

-- the same of an `AmongOthers`
abbrev pub IsAmong : {S : Type 0} → ℕ → AmongOthers → S → Among S → Type 0
IsAmong now kept draw among =
    SpeaksAmong now kept.others kept.speaking.standing kept.speaking.turn kept.speaking.jobs.jobs kept.speaking.bindings.bindings draw among

-- The session is alone of its name and in order, with the number of this verdict open where it was accepted, and these.
pub record IsSettling {S : Type 0} (name : Name) (past : History) (number : ℕ) (verdict : Verdict) (opened : List ℕ) (among : Among S) : Type 0 where
  pub alone : IsAlone name among
  pub told : IsTold number verdict past
  pub order : IsInOrder name past (open_with number verdict opened) among.speaker

-- its row, then what the jobs owe that waited for its number, or for one that the row answered
abbrev pub settled_among : {S : Type 0} → Setting S → ℕ → ℕ → Verdict → List ℕ → Among S → Among S
settled_among setting number seq verdict body among = speaks_among (tells_all setting number) (row_among setting number seq verdict body among)
