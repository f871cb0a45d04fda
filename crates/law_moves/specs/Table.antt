-- What the two ends of all sessions keep, and what they made: the parts of a world. Sessions, salts and message identifiers are those of
-- "Mobile Protocol: Detailed Description" (Terminology), items those of "Service Messages" and "Service Messages about Messages"
use Rattle.std.specs.Prelude.{ℕ, ◌==◌, Bool, ◌&&◌, List, Option}

-- the bytes of a call, or of its result
abbrev pub Text : Type 0
Text = List ℕ

-- which call: its client, and its place among that client's calls in the order of submission, from 0
pub record CallId : Type 0 where
  pub client : ℕ
  pub place : ℕ

abbrev pub call_at : ℕ → ℕ → CallId
call_at client place = record { client = client; place = place }

abbrev pub same_call : CallId → CallId → Bool
same_call one other = (one.client == other.client) && (one.place == other.place)

-- why it isn't known whether a call ran: its server session was lost, its client renewed or ended, or the server forgot its number
pub data Cause : Type 0 where
  ServerSessionLost : Cause
  Renewed : Cause
  Ended : Cause
  Forgotten : Cause

pub data State : Type 0 where
  Queued : State
  Sent : State
  Held : State
  Done : (reply : Text) → State
  Refused : (code : ℕ) → State
  Unknown : (cause : Cause) → State

-- A name of a call: a session number and a message number. Beside it stand the time of its first sending and what its client had learnt
-- by then. The salts that it was sent under stand on the messages
pub record Name : Type 0 where
  pub session : ℕ
  pub number : ℕ
  pub first : ℕ
  pub known : List ℕ

-- a call, its names from the newest to the oldest
pub record Call : Type 0 where
  pub body : Text
  pub state : State
  pub names : List Name

-- a client: its session numbers, its salt, and the unique numbers that it has learnt for its present session number
pub record Client : Type 0 where
  pub present : ℕ
  pub former : List ℕ
  pub salt : ℕ
  pub learnt : List ℕ
  pub ended : Bool

-- whether a server session was made, stands, or was lost, and when that was
pub data Status : Type 0 where
  Unmade : Status
  Standing : Status
  Lost : (at : ℕ) → Status

-- what a server session decided for good on a message: it accepted it as this call, or as no call, or refused it with a notice
pub data Outcome : Type 0 where
  AcceptedCall : (body : Text) → Outcome
  AcceptedOther : Outcome
  Noticed : (code : ℕ) → Outcome

pub record Judged : Type 0 where
  pub number : ℕ
  pub outcome : Outcome

-- a server session, the time at which it was made, its salts, what it judged, and the numbers that it has forgotten
pub record ServerSession : Type 0 where
  pub session : ℕ
  pub made : ℕ
  pub status : Status
  pub salts : List ℕ
  pub judged : List Judged
  pub forgotten : List ℕ

-- A message of a packet up: the packet's session number and salt, its own number, and the call's body where it is one. Beside it stands what
-- its client had learnt when it made the packet
pub record Message : Type 0 where
  pub session : ℕ
  pub salt : ℕ
  pub number : ℕ
  pub call : Option Text
  pub known : List ℕ

-- The items of a packet down that matter here: `new_session_created` (Service Messages, New Session Creation Notification), `rpc_result`
-- (Response to an RPC query), `bad_msg_notification` and `bad_server_salt` (Service Messages about Messages, Notice of Ignored Error Message)
pub data Item : Type 0 where
  NewSession : (unique salt : ℕ) → Item
  Result : (number : ℕ) (reply : Text) → Item
  Notice : (number code : ℕ) → Item
  WrongSalt : (number salt : ℕ) → Item

-- a packet down: the unique number of the server session that made it, and its items in order
pub record Packet : Type 0 where
  pub server : ℕ
  pub items : List Item

-- an execution: the unique number of the server session, the message number, the request and the reply
pub record Entry : Type 0 where
  pub server : ℕ
  pub number : ℕ
  pub request : Text
  pub reply : Text
