-- The event of a packet as its judgements are settled one after the other: the history of each session, and the numbers of
-- the packet's session that are open still.
use Rattle.std.specs.Prelude.{ℕ, if◌then◌else◌, Option, Some, None, List, [], ◌∷◌}
use Rattle.id_window.specs.History.{History}
use Rattle.inbox.specs.Verdicts.{Verdict}
use Rattle.inbox.specs.Judging.{is_accepted}
use Rattle.server_rules.specs.Server.{Name, Session, is_same, session_named}

abbrev pub history_in : Option Session → History
history_in None = []
history_in (Some session) = session.history

-- the history of the session of each name
abbrev pub past_in : List Session → Name → History
past_in sessions name = history_in (session_named name sessions)

-- the histories after the session of this name was told of its own
unfoldable pub past_with : Name → History → (Name → History) → Name → History
past_with name history past other = if is_same other name then history else past other

abbrev pub none_open : Name → List ℕ
none_open name = []

-- the open numbers at one name alone
abbrev pub open_only : Name → List ℕ → Name → List ℕ
open_only name numbers other = if is_same other name then numbers else []

-- the open numbers of a session before a judgement is settled
abbrev pub open_by : Verdict → ℕ → List ℕ → List ℕ
open_by verdict number numbers = if is_accepted verdict then number ∷ numbers else numbers
