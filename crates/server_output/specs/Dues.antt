-- What an event of a session owes.
use Rattle.std.specs.Prelude.{◌≡◌, ◌≤◌, ℕ, ◌+◌, ◌%◌, Bool, ◌==◌, List, length, take, drop, sum_by}
use Rattle.std.specs.List.{list_any}
use Rattle.service_tl.specs.declared.lists.Message.{Message}
use Rattle.envelope.specs.Packet.{body_max}
use Rattle.server_output.specs.declared.owing.Row.{Row}

-- the messages that are owed so far, in order; for how many more there is room, and for how many more bytes of bodies; and
-- for how many messages and bytes room was taken in all
pub record Dues : Type 0 where
  pub messages : List Message
  pub places : ℕ
  pub room : ℕ
  pub places_taken : ℕ
  pub bytes_taken : ℕ

-- a message can go in a packet: its body is whole words of 4 bytes, and not too long
pub record CanGo (message : Message) : Type 0 where
  pub words : length message.body % 4 ≡ 0
  pub short : length message.body ≤ body_max

-- how many bytes the bodies of messages have
abbrev pub bodies_bytes : List Message → ℕ
bodies_bytes messages = sum_by (λ message. length message.body) messages

-- a message of this number is among them
abbrev pub has_number : ℕ → List Message → Bool
has_number number messages = list_any (λ message. message.number == number) messages

-- Scaffolding, and no promise: the bodies stand one after the other in one text, and a row has a message's numbers and
-- the place of its body.

abbrev pub message_at : List ℕ → Row → Message
message_at text row = record { number = row.number; seq = row.seq; body = take row.length (drop row.start text) }

-- the row's body is in the text, and can go in a packet
pub record IsRow (text : List ℕ) (row : Row) : Type 0 where
  pub within : row.start + row.length ≤ length text
  pub words : row.length % 4 ≡ 0
  pub short : row.length ≤ body_max

-- how many bytes the bodies of rows have
abbrev pub rows_bytes : List Row → ℕ
rows_bytes rows = sum_by (λ row. row.length) rows
