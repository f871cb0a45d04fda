-- A client: its keys, its present session and the former ones, what it learnt of the server's session, its numbers, its
-- calls, and what waits to be sent (core.telegram.org/mtproto/description, "Session", "Server Salt" and "Message
-- Identifier"; core.telegram.org/mtproto/pfs).
use Rattle.std.specs.Prelude.{ℕ, ◌+◌, ◌-◌, max, Bool, true, false, Option, None, option_map, List, []}
use Rattle.std.specs.List.{list_any}
use Rattle.service_tl.specs.declared.lists.Message.{Message}
use Rattle.msg_ids.specs.Moments.{moment_of}
use Rattle.msg_ids.specs.Counters.{Counters, none_given, next_number, seq_of, after_next}
use Rattle.call_table.specs.declared.call.CallNo.{CallNo}
use Rattle.call_table.specs.Table.{Call, Table, no_calls, changed, is_in}
use Rattle.call_table.specs.declared.call.Group.TheVariants.{Outstanding}

-- ---- a temporary key

-- the binding of a temporary key to a permanent one: it is needed, was asked for by this message, waits for another
-- session, holds, or was refused
pub data Binding : Type 0 where
  Needed : Binding
  Asked : Message → Binding
  Held : Binding
  Bound : Binding
  Refused : ℕ → Binding

-- a temporary key is bound to a permanent key, up to a moment; the message that asks for it may have to be sent again, alone
pub record Temporary : Type 0 where
  pub perm : ℕ
  pub expires : ℕ
  pub binding : Binding
  pub is_alone : Bool

abbrev pub temporary_of : ℕ → ℕ → Temporary
temporary_of perm expires = record { perm = perm; expires = expires; binding = Needed; is_alone = false }

-- something becomes of a binding, and nothing is to be sent again of it
abbrev pub bound_so : Binding → Temporary → Temporary
bound_so binding temporary = record temporary { binding = binding; is_alone = false }

-- ---- what waits to be sent

-- how messages fared, by a byte for each, that a request asked for
pub record States : Type 0 where
  pub request : ℕ
  pub info : List ℕ

-- what waits beside acknowledgements and calls: the states that the server asked for, the answers that it is asked to
-- send again, a wish to ask for the states of calls, a ping, how many salts are asked for, a former session to destroy
pub record Waiting : Type 0 where
  pub told : Option States
  pub resent : List ℕ
  pub states : Bool
  pub ping : Option ℕ
  pub salts : Option ℕ
  pub destroyed : Option ℕ

abbrev pub nothing_waits : Waiting
nothing_waits = record { told = None; resent = []; states = false; ping = None; salts = None; destroyed = None }

-- the last request for states, by its number and those that it asks about
pub record StateRequest : Type 0 where
  pub number : ℕ
  pub numbers : List ℕ

-- ---- the client

-- the server's time at a moment of the client's own
pub record Clock : Type 0 where
  pub there : ℕ
  pub here : ℕ

-- A client: its key, and what makes it a temporary one; its present session number and the former ones; the salt, and the
-- unique numbers that it learnt of this session; the greatest moment that it was given, its clock and its numbers; what
-- waits; the last request for states; its calls with acknowledgements and remembered packets; and whether it ended.
pub record Client : Type 0 where
  pub key : ℕ
  pub temporary : Option Temporary
  pub session : ℕ
  pub former : List ℕ
  pub salt : ℕ
  pub learnt : List ℕ
  pub now : ℕ
  pub clock : Clock
  pub counters : Counters
  pub waiting : Waiting
  pub asked : Option StateRequest
  pub table : Table
  pub has_ended : Bool

-- a client in a session of this number
abbrev pub fresh_client : ℕ → Option Temporary → ℕ → Client
fresh_client key temporary session =
    record {
      key = key;
      temporary = temporary;
      session = session;
      former = [];
      salt = 0;
      learnt = [];
      now = 0;
      clock = record { there = 0; here = 0 };
      counters = none_given;
      waiting = nothing_waits;
      asked = None;
      table = no_calls;
      has_ended = false;
    }

-- it learnt a unique number of its session; before, it is opening
abbrev pub is_open : Client → Bool
is_open client = list_any (λ unique. true) client.learnt

-- something becomes of its binding, where its key is a temporary one
abbrev pub with_binding : Binding → Client → Client
with_binding binding client = record client { temporary = option_map (bound_so binding) client.temporary }

-- ---- its calls

abbrev pub calls_of : Client → List Call
calls_of client = client.table.calls

abbrev pub with_calls : List Call → Client → Client
with_calls calls client = record client { table = record client.table { calls = calls } }

-- a call is changed
abbrev pub with_call : CallNo → (Call → Call) → Client → Client
with_call call change client = with_calls (changed call change (calls_of client)) client

-- a call is sent
abbrev pub has_sent : Client → Bool
has_sent client = list_any (is_in Outstanding) (calls_of client)

-- ---- its time and its numbers

-- a moment is given to it
abbrev pub at_moment : ℕ → Client → Client
at_moment now client = record client { now = max client.now now }

-- the server's time now, as far as the client knows
abbrev pub time_of : Client → ℕ
time_of client = moment_of (client.clock.there + (client.now - client.clock.here))

-- its next message, with this body; a content-related one needs an acknowledgement
abbrev pub numbered : Bool → List ℕ → Client → Message
numbered is_content body client =
    record {
      number = next_number client.counters.last (time_of client);
      seq = seq_of client.counters.content_messages is_content;
      body = body;
    }

abbrev pub after_message : Bool → Client → Client
after_message is_content client = record client { counters = after_next client.counters (time_of client) is_content }
