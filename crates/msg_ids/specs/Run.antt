-- All that a sender gives.
use Rattle.std.specs.Prelude.{◌≡◌, ℕ, ◌<◌, ◌≤◌, ◌%◌, Bool, ◌&&◌, nat_lt, nat_le, if◌then◌else◌, List, [], ◌∷◌}
use Rattle.msg_ids.specs.Counters.{Counters, next_number, seq_of, after_next, greatest_number, most_content_messages}

-- an asking for a number: the moment, and whether the message is content-related
pub record Asking : Type 0 where
  pub now : ℕ
  pub content : Bool

-- what a message is given
pub record Given : Type 0 where
  pub number : ℕ
  pub seq : ℕ

-- the test of `HasNext`
abbrev pub has_next : Counters → ℕ → Bool
has_next counters now =
    nat_le (next_number counters.last now) greatest_number
    && nat_lt counters.content_messages most_content_messages

-- what is given to these askings in order, from these counters on; one that finds no next number is given nothing
abbrev pub given : Counters → List Asking → List Given
given counters [] = []
given counters (asking ∷ askings) =
    if has_next counters asking.now
    then record {
      number = next_number counters.last asking.now;
      seq = seq_of counters.content_messages asking.content;
    } ∷ given (after_next counters asking.now asking.content) askings
    else given counters askings

-- one message before another: its number is below the other's, and its seq is no greater
abbrev pub IsBefore : Given → Given → Type 0
IsBefore one other = (one.number < other.number) × (one.seq ≤ other.seq)

-- a number that a client may give: its two low bits are 0
abbrev pub IsFourfold : ℕ → Type 0
IsFourfold number = number % 4 ≡ 0
