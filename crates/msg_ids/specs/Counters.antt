-- Message identifiers and sequence numbers (core.telegram.org/mtproto/description, "Message Identifier" and
-- "Message Sequence Number").
use Rattle.std.specs.Prelude.{ℕ, ◌+◌, ◌-◌, ◌*◌, ◌/◌, ◌%◌, ◌==◌, ◌^◌, ◌<◌, ◌≤◌, ◌⊎◌, Bool, true, false, min, max}
use Rattle.msg_ids.specs.Moments.{latest_moment}

-- what a sender has given so far: its last number, 0 before the first, and how many content-related messages it made
pub record Counters : Type 0 where
  pub last : ℕ
  pub content_messages : ℕ

-- a sender that gave no number
abbrev pub none_given : Counters
none_given = record { last = 0; content_messages = 0 }

-- "Exact unixtime * 2^32", but always above the number before, and a multiple of 4: the next number
abbrev pub next_number : ℕ → ℕ → ℕ
next_number last now = max (last + 4) (now * 2 ^ 32)

-- 1 for a content-related message, which needs an acknowledgement, and 0 for any other
abbrev pub one_if_content : Bool → ℕ
one_if_content true = 1
one_if_content false = 0

-- "twice the number of content-related messages created prior to this message, incremented by one if the current
-- message is content-related"
abbrev pub seq_of : ℕ → Bool → ℕ
seq_of content_before content = 2 * content_before + one_if_content content

-- as the seq of a content-related message is, and the message identifier of each message from the server
abbrev pub is_odd : ℕ → Bool
is_odd number = number % 2 == 1

-- the greatest multiple of 4 of 64 bits
abbrev pub greatest_number : ℕ
greatest_number = 2 ^ 64 - 4

-- how many content-related messages a sender makes at most, so that a seq has 31 bits
abbrev pub most_content_messages : ℕ
most_content_messages = 2 ^ 30

-- there is a next number at this moment
abbrev pub HasNext : Counters → ℕ → Type 0
HasNext counters now =
    (next_number counters.last now ≤ greatest_number) × (counters.content_messages < most_content_messages)

-- there is none: it would be too great, or there are too many content-related messages before it
abbrev pub IsSpent : Counters → ℕ → Type 0
IsSpent counters now =
    (greatest_number < next_number counters.last now) ⊎ (most_content_messages ≤ counters.content_messages)

-- the counters after a message at this moment
abbrev pub after_next : Counters → ℕ → Bool → Counters
after_next counters now content = record {
  last = next_number counters.last now;
  content_messages = counters.content_messages + one_if_content content;
}

-- how many further numbers there are at least, whatever the moments: the content-related messages left, or the
-- multiples of 4 left after the last number where this is fewer, the last number taken as no less than that of the
-- latest moment
unfoldable pub room : Counters → ℕ
room counters =
    min (most_content_messages - counters.content_messages)
    ((greatest_number - max counters.last (latest_moment * 2 ^ 32)) / 4)
