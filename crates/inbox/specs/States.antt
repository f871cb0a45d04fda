-- State bytes (core.telegram.org/mtproto/service_messages_about_messages, "Informational Message regarding Status of
-- Messages").
use Rattle.std.specs.Prelude.{ℕ, nat_le, if◌then◌else◌, Option, Some, None}
use Rattle.id_window.specs.declared.mark.Mark.{Mark}
use Rattle.id_window.specs.declared.mark.Mark.TheVariants.{Waiting, Replied, Acked, Dropped}
use Rattle.id_window.specs.Marks.{Marks}
use Rattle.id_window.specs.History.{History, found, floor, greatest}

-- 4: "message received". With 32: the query "is being processed or processing has already been completed", and with
-- 64 more: a "content-related response to message" was "already generated".
abbrev pub state_of_mark : Mark → ℕ
state_of_mark Waiting = 36
state_of_mark (Replied ok) = 100
state_of_mark (Acked ok) = 100
state_of_mark (Dropped ok) = 100
state_of_mark _ = 4

-- 1: "nothing is known about the message", since the number is too low and forgotten. 2: "message not received", the
-- number is "within the range" of those that are kept. 3: the number is "too high", and the message certainly wasn't
-- received.
abbrev pub state_by : Option Mark → ℕ → ℕ → ℕ → ℕ
state_by (Some mark) floor greatest number = state_of_mark mark
state_by None floor greatest number = if nat_le number floor then 1 else if nat_le number greatest then 2 else 3

abbrev pub state_byte : History → Marks → ℕ → ℕ
state_byte history marks number = state_by (found number history marks) (floor history) (greatest history) number
