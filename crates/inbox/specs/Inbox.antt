-- An inbox: what it has of a session.
use Rattle.std.specs.Prelude.{◌≡◌, Bool}
use Rattle.std.specs.List.{list_any}
use Rattle.service_tl.specs.declared.lists.Message.{Message}
use Rattle.id_window.specs.History.{History, was_accepted}
use Rattle.id_window.specs.Marks.{Marks}
use Rattle.id_window.specs.Window.{Contents, Stands as WindowStands}
use Rattle.inbox.specs.declared.outer.Outer.{Outer}
use Rattle.inbox.specs.Judging.{Session}

-- what contracts see of an inbox: its window, of which reserved room is left out, and whether it ever accepted a
-- message
pub record Kept : Type 0 where
  pub window : Contents
  pub heard : Bool

abbrev pub without_room : Contents → Contents
without_room window = record window { room = 0 }

-- a message was accepted at some time
abbrev pub was_heard : History → Bool
was_heard history = list_any (λ judgement. was_accepted judgement.outcome) history

-- an inbox stands for a history and the marks given
pub record Stands (inbox : Kept) (history : History) (marks : Marks) : Type 0 where
  -- its window does
  pub window : WindowStands inbox.window history marks
  -- it knows whether a message was ever accepted
  pub heard : inbox.heard ≡ was_heard history

-- an inbox stands for what a session remembers
abbrev pub Remembers : Kept → Session → Type 0
Remembers inbox session = Stands inbox session.history session.marks

-- the message of an envelope
abbrev pub message_in : Outer → Message
message_in outer = record { number = outer.number; seq = outer.seq; body = outer.body }
