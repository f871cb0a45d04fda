-- A world: all clients, calls and server sessions, and all that was ever made.
use Rattle.std.specs.Prelude.{ℕ, ◌≡◌, ◌≢◌, ◌<◌, ◌≤◌, false, List, [], ◌⊎◌}
use Rattle.std.specs.List.{Contains}
use Rattle.law_moves.specs.Table.{CallId, Call, Client, ServerSession, Message, Packet, Entry, Name, Outcome, Judged}
use Rattle.law_moves.specs.Table.State.{Refused}
use Rattle.law_moves.specs.Table.Status.{Unmade, Standing, Lost}
use Rattle.law_moves.specs.Table.Outcome.{AcceptedCall, AcceptedOther, Noticed}

-- Clients are told apart by numbers of their own, calls by their client and their place among its calls, server sessions by their unique
-- numbers. The messages of packets up and the packets down are kept for good: a packet that is lost is one that nobody takes. The time is
-- the count of moves so far. `submitted` says how many calls each client was given
pub record World : Type 0 where
  pub time : ℕ
  pub clients : ℕ → Client
  pub submitted : ℕ → ℕ
  pub calls : CallId → Call
  pub servers : ℕ → ServerSession
  pub ups : List Message
  pub downs : List Packet
  pub entries : List Entry

-- a client that wasn't made yet has session number 0
abbrev pub no_client : Client
no_client = record { present = 0; former = []; salt = 0; learnt = []; ended = false }

-- a call that wasn't submitted yet has no name, and is never sent
abbrev pub no_call : Call
no_call = record { body = []; state = Refused 0; names = [] }

abbrev pub no_server : ServerSession
no_server = record { session = 0; made = 0; status = Unmade; salts = []; judged = []; forgotten = [] }

-- the empty world
abbrev pub start : World
start =
    record {
      time = 0;
      clients = λ client. no_client;
      submitted = λ client. 0;
      calls = λ call. no_call;
      servers = λ unique. no_server;
      ups = [];
      downs = [];
      entries = [];
    }

-- the session number is the client's present one or a former one
abbrev pub Owns : Client → ℕ → Type 0
Owns client session = (session ≢ 0) × ((session ≡ client.present) ⊎ Contains client.former session)

-- the message was sent under this name
abbrev pub IsUnder : Name → Message → Type 0
IsUnder name message = (message.session ≡ name.session) × (message.number ≡ name.number)

-- the server session stands now, or was lost after this time
abbrev pub StandsAfter : ServerSession → ℕ → Type 0
StandsAfter server time = (server.status ≡ Standing) ⊎ ((at : ℕ) × (server.status ≡ Lost at) × (time < at))

-- the server session was lost before this time
abbrev pub LostBefore : ServerSession → ℕ → Type 0
LostBefore server time = (at : ℕ) × (server.status ≡ Lost at) × (at < time)

-- the server session was made before this time and stood then
abbrev pub StoodAt : ServerSession → ℕ → Type 0
StoodAt server time = (server.made < time) × StandsAfter server time

-- an outcome that accepts
abbrev pub IsAccepted : Outcome → Type 0
IsAccepted (AcceptedCall body) = Unit {0}
IsAccepted AcceptedOther = Unit {0}
IsAccepted (Noticed code) = ⊥

-- the server session has accepted a message
abbrev pub HasAccepted : ServerSession → Type 0
HasAccepted server = (judged : Judged) × Contains server.judged judged × IsAccepted judged.outcome

-- a number of this session number was given that isn't below this one
abbrev pub WasGiven : List Message → ℕ → ℕ → Type 0
WasGiven ups session number = (message : Message) × Contains ups message × (message.session ≡ session) × (number ≤ message.number)

-- the name of some call has this session number and this number
abbrev pub IsName : (CallId → Call) → ℕ → ℕ → Type 0
IsName calls session number =
    (call : CallId) × (name : Name) × Contains (calls call).names name × (name.session ≡ session) × (name.number ≡ number)
