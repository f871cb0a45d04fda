-- What a client learns when the server tells of a new session, and how a session ends
-- (core.telegram.org/mtproto/service_messages, "New Session Creation Notification").
use Rattle.std.specs.Prelude.{ℕ, ◌/◌, ◌^◌, ◌==◌, ◌&&◌, not, nat_le, Bool, true, if◌then◌else◌, Option, Some, None, [], ◌∷◌, ◌++◌, length, map}
use Rattle.std.specs.List.{list_any}
use Rattle.call_table.specs.declared.call.Fate.{Fate}
use Rattle.call_table.specs.declared.call.Fate.TheVariants as fate
use Rattle.call_table.specs.declared.call.Cause.TheVariants as cause
use Rattle.call_table.specs.declared.call.Under.{Under}
use Rattle.call_table.specs.declared.call.Under.TheVariants.{Zero, One, More}
use Rattle.call_table.specs.Table.{State, Name, Call, living_name, settled, under_of}
use Rattle.call_table.specs.Table as table
use Rattle.client_rules.specs.Client.{Client, Needed, calls_of, with_calls, with_binding, is_open}

-- ---- the server's time

-- the seconds of a number
abbrev pub seconds_of : ℕ → ℕ
seconds_of number = number / 2 ^ 32

-- the clock is taken over from a packet with this outer number
abbrev pub with_clock : ℕ → Client → Client
with_clock outer client = record client { clock = record { there = seconds_of outer; here = client.now } }

-- ---- calls

-- each call that isn't decided becomes what its state says, where it says something
abbrev pub settled_if : Option Fate → Call → Call
settled_if None call = call
settled_if (Some fate) call = settled fate call

abbrev pub each_becomes : (Call → Option Fate) → Client → Client
each_becomes fate client = with_calls (map (λ call. settled_if (fate call) call) (calls_of client)) client

-- ---- the end

abbrev pub fate_at_end : State → Option Fate
fate_at_end table.Sent = Some (fate.Unknown cause.Ended)
fate_at_end table.Queued = Some (fate.Refused 0)
fate_at_end table.Held = Some (fate.Refused 0)
fate_at_end _ = None

-- it isn't known what became of calls that are sent, and the others never execute
abbrev pub ended : Client → Client
ended client = record (each_becomes (λ call. fate_at_end call.state) client) { has_ended = true }

-- ---- a new unique number

-- most unique numbers that are learnt in a session
abbrev pub learnt_max : ℕ
learnt_max = 1024

-- A call that is sent, by the salts under which its living number went: under 0 alone it was refused, or will be, and goes
-- under a new number. Where the number is the first one that is learnt, a call that went under the given salt and no other
-- but 0 stays sent: it came to this session. Of any other it isn't known what the former session did.
abbrev pub fate_under : Bool → ℕ → Under → Option Fate
fate_under is_first salt Zero = Some fate.Queue
fate_under is_first salt (One other) =
    if is_first && other == salt then None else Some (fate.Unknown cause.Session)
fate_under is_first salt More = Some (fate.Unknown cause.Session)

abbrev pub fate_learning : Bool → ℕ → Option Name → Option Fate
fate_learning is_first salt None = None
fate_learning is_first salt (Some name) = fate_under is_first salt (under_of name.salts)

-- the number is learnt with its salt, a binding is needed again, and what was remembered of the former session is forgotten
abbrev pub learns : ℕ → ℕ → Client → Client
learns unique salt client =
    let settled = each_becomes (λ call. fate_learning (not (is_open client)) salt (living_name call)) client in
    record (with_binding Needed settled) {
      learnt = client.learnt ++ unique ∷ [];
      salt = salt;
      asked = None;
      table = record settled.table { packets = [] };
    }

-- a number that is learnt already changes nothing; one past the most ends the client
abbrev pub learn : ℕ → ℕ → ℕ → Client → Client
learn outer unique salt client =
    if list_any (λ learnt. learnt == unique) client.learnt then client
    else if nat_le learnt_max (length client.learnt) then ended client
    else with_clock outer (learns unique salt client)
