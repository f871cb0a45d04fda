-- A tick, in which several sessions speak.
use Rattle.std.specs.Prelude.{Bool, true, false, List, [], ◌∷◌, ◌++◌}
use Rattle.std.specs.List.{filter, list_any}
use Rattle.server_rules.specs.Server.{Name, is_named, is_same}
use Rattle.server_rules.specs.Event.{Owed, State}
use Rattle.law_server.specs.Lives.{is_entry_of}
use Rattle.law_server.specs.Order.{jobs_of}

-- the session of this name owes it
abbrev pub is_owed_by : Name → Owed → Bool
is_owed_by name one = is_same name one.name

-- an event so far as it is of the session of this name alone: that session, its jobs, what it owes and its entries
abbrev pub only : {S : Type 0} → Name → State S → State S
only name state =
    record state {
      sessions = filter (is_named name) state.sessions;
      jobs = jobs_of name state.jobs;
      owed = filter (is_owed_by name) state.owed;
      entries = filter (is_entry_of name) state.entries;
    }

-- the session of this name owes a message
abbrev pub has_spoken : Name → List Owed → Bool
has_spoken name owed = list_any (λ one. is_same one.name name) owed

-- the names, and this one behind them unless it has spoken
abbrev pub with_name : Bool → Name → List Name → List Name
with_name true name names = names
with_name false name names = names ++ name ∷ []
