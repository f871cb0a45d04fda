-- Why a new message is refused: the notices of the standard, in the order in which they are looked for
-- (core.telegram.org/mtproto/service_messages_about_messages, "Notice of Ignored Error Message").
use Rattle.std.specs.Prelude.{ℕ, ◌+◌, ◌/◌, ◌%◌, ◌^◌, ◌==◌, ◌&&◌, nat_lt, nat_le, Bool, true, false, if◌then◌else◌, Option, Some, None}
use Rattle.std.specs.List.{list_any}
use Rattle.std.specs.Option.{option_or}
use Rattle.salt_line.specs.Rows.{Row, since, until}
use Rattle.salt_line.specs.Line.{Line}
use Rattle.id_window.specs.declared.cross.Cross.{Cross}
use Rattle.id_window.specs.declared.cross.Cross.TheVariants.{None as Apart, Low, High}
use Rattle.msg_ids.specs.Counters.{is_odd}
use Rattle.id_window.specs.History.{History, floor, crosses}
use Rattle.service_tl.specs.declared.lists.Message.{Message}
use Rattle.inbox.specs.declared.kind.Kind.{Kind}
use Rattle.inbox.specs.declared.kind.Kind.TheVariants.{Container, Unlawful, Acknowledgement, Call}
use Rattle.inbox.specs.Kinds.{kind_of}

-- how a message came: in an envelope at this moment, to a session with this line of salts, under this salt; or inside
-- a container, which has a moment and a salt already
pub data Way : Type 0 where
  InEnvelope : (now : ℕ) → (line : Line) → (salt : ℕ) → Way
  InContainer : Way

-- ---- by its number

-- 20: the number isn't above the greatest one that is forgotten, so that no one can say whether it came before.
-- 18: a client's number has two low bits that are 0.
abbrev pub by_number : ℕ → ℕ → Option ℕ
by_number floor number =
    if nat_le number floor then Some 20
    else if number % 4 == 0 then None
    else Some 18

-- ---- by its envelope

-- the second in which a number was made
abbrev pub second_of : ℕ → ℕ
second_of number = number / 2 ^ 32

-- the test of `IsValidSalt`
abbrev pub is_row_of : ℕ → ℕ → ℕ → Row → Bool
is_row_of start now salt row = row.word == salt && (nat_le (since start row.period) now && nat_lt now (until start row.period))

abbrev pub is_valid_salt : Line → ℕ → ℕ → Bool
is_valid_salt line now salt = if salt == 0 then false else list_any (is_row_of line.start now salt) line.rows

-- 16: the number is more than 300 seconds old. 17: it is more than 30 seconds ahead. 48: the salt isn't valid.
-- These aren't looked for inside a container.
abbrev pub by_envelope : Way → ℕ → Option ℕ
by_envelope InContainer number = None
by_envelope (InEnvelope now line salt) number =
    if nat_lt (second_of number + 300) now then Some 16
    else if nat_lt (now + 30) (second_of number) then Some 17
    else if is_valid_salt line now salt then None
    else Some 48

-- ---- by its sequence number

-- containers and acknowledgements need no acknowledgement, so that their seq is even
abbrev pub needs_even : Kind → Bool
needs_even Container = true
needs_even Unlawful = true
needs_even Acknowledgement = true
needs_even _ = false

-- a call needs one, so that its seq is odd
abbrev pub needs_odd : Kind → Bool
needs_odd Call = true
needs_odd _ = false

-- 34: an even seq was expected. 35: an odd one was.
abbrev pub by_parity : Kind → ℕ → Option ℕ
by_parity kind seq = if is_odd seq then (if needs_even kind then Some 34 else None) else (if needs_odd kind then Some 35 else None)

-- 32: the seq is too low for the accepted messages below the number. 33: it is too high for those above.
abbrev pub by_neighbours : Cross → Option ℕ
by_neighbours Low = Some 32
by_neighbours High = Some 33
by_neighbours Apart = None

-- ---- by its body

-- 64: a container that isn't lawful
abbrev pub by_body : Kind → Option ℕ
by_body Unlawful = Some 64
by_body _ = None

-- ---- the whole

-- the first of these that is there
abbrev pub first_code : Option ℕ → ℕ → Cross → ℕ → ℕ → Kind → Option ℕ
first_code envelope floor cross number seq kind =
    option_or (by_number floor number)
    (option_or envelope
    (option_or (by_parity kind seq)
    (option_or (by_neighbours cross)
    (by_body kind))))

-- the code with which a message whose number isn't kept is refused, where it is
abbrev pub refusal : Way → History → Message → Option ℕ
refusal way history message =
    first_code (by_envelope way message.number) (floor history) (crosses message.number message.seq history) message.number message.seq (kind_of message)
