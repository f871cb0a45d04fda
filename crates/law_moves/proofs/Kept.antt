-- What every move keeps, in groups by the parts of a world that they read: a move that leaves these parts hands the group on.
use Rattle.std.specs.Prelude.{ℕ, ◌≡◌, ◌≢◌, ◌<◌, ◌≤◌, true, false, List, [], ◌∷◌, length, Some, ◌⊎◌}
use Rattle.std.specs.List.{Contains}
use Rattle.law_moves.specs.Table.{CallId, Text, Cause, State, Name, Call, Client, Message, Item, Judged, ServerSession, Packet, Entry, Outcome}
use Rattle.law_moves.specs.Table.Cause.{ServerSessionLost, Renewed, Ended, Forgotten}
use Rattle.law_moves.specs.Table.State.{Queued, Sent, Held, Done, Refused, Unknown}
use Rattle.law_moves.specs.Table.Status.{Unmade, Standing, Lost}
use Rattle.law_moves.specs.Table.Outcome.{AcceptedCall, AcceptedOther, Noticed}
use Rattle.law_moves.specs.World.{World, Owns, LostBefore, IsUnder, StandsAfter, IsAccepted, HasAccepted, WasGiven}
use Rattle.law_moves.specs.After.{LEARNT_MAX}
use Rattle.law_moves.specs.Lawful.{MaySay, BeginsNew}
use Rattle.law_moves.specs.Once.{AtMostOne, older_names, OnLast, HadTwo, WasForgotten}

-- the salt is of a server session among these
abbrev pub SaltAmong : (ℕ → ServerSession) → List ℕ → ℕ → Type 0
SaltAmong servers known salt = (unique : ℕ) × Contains (servers unique).salts salt × Contains known unique

-- what stands behind an outcome: the message that was judged
abbrev pub Backs : Message → ℕ → ServerSession → Outcome → Type 0
Backs message unique server (AcceptedCall body) =
    (message.call ≡ Some body) × Contains server.salts message.salt × Contains message.known unique
Backs message unique server AcceptedOther = Contains server.salts message.salt × Contains message.known unique
Backs message unique server (Noticed code) = code ≢ 20

abbrev pub IsBacked : List Message → ℕ → ServerSession → Judged → Type 0
IsBacked ups unique server judged =
    (message : Message)
    × Contains ups message
    × (message.session ≡ server.session)
    × (message.number ≡ judged.number)
    × Backs message unique server judged.outcome

-- the server session, if of the name's session number, has not accepted the name, and cannot accept it any more
abbrev pub IsShut : List Message → Name → ServerSession → Type 0
IsShut ups name server =
    ((judged : Judged) → Contains server.judged judged → judged.number ≡ name.number → IsAccepted judged.outcome → ⊥)
    × (server.status ≡ Standing
    → ((judged : Judged) × Contains server.judged judged × (judged.number ≡ name.number))
    ⊎ ((message : Message) → Contains ups message → IsUnder name message → Contains server.salts message.salt → ⊥))

-- no server session has accepted the name, and none ever will
abbrev pub Dead : (ℕ → ServerSession) → List Message → Name → Type 0
Dead servers ups name = (unique : ℕ) → (servers unique).session ≡ name.session → IsShut ups name (servers unique)

abbrev pub AllDead : (ℕ → ServerSession) → List Message → List Name → Type 0
AllDead servers ups names = (name : Name) → Contains names name → Dead servers ups name

-- a living name: of the present session number, and nothing was learnt since its first sending
abbrev pub Lives : Client → Name → Type 0
Lives client name = (name.session ≡ client.present) × (name.known ≡ client.learnt)

abbrev pub HasCause : Client → (ℕ → ServerSession) → List Name → Cause → Type 0
HasCause client servers names ServerSessionLost = OnLast (HadTwo servers) names
HasCause client servers names Renewed = OnLast (λ name. Contains client.former name.session) names
HasCause client servers names Ended = client.ended ≡ true
HasCause client servers names Forgotten = OnLast (WasForgotten servers) names

-- the entry is of one of these names
abbrev pub IsOfNames : (ℕ → ServerSession) → List Name → Entry → Type 0
IsOfNames servers names entry =
    (name : Name) × Contains names name × (((servers entry.server).session ≡ name.session) × (entry.number ≡ name.number))

-- what holds of a client's call in this state
abbrev pub Fits : Client → (ℕ → ServerSession) → List Message → List Entry → List Name → State → Type 0
Fits client servers ups entries names Queued = AllDead servers ups names
Fits client servers ups entries names Sent = OnLast (Lives client) names
Fits client servers ups entries names Held = AllDead servers ups names
Fits client servers ups entries names (Done reply) =
    (entry : Entry) × Contains entries entry × IsOfNames servers names entry × (entry.reply ≡ reply)
Fits client servers ups entries names (Refused code) = AllDead servers ups names
Fits client servers ups entries names (Unknown cause) = HasCause client servers names cause

abbrev pub IsSameName : Name → Name → Type 0
IsSameName name other = (name.session ≡ other.session) × (name.number ≡ other.number)

-- no two of the names are the same
abbrev pub AreApart : List Name → Type 0
AreApart [] = Unit {0}
AreApart (name ∷ older) = ((other : Name) → Contains older other → IsSameName name other → ⊥) × AreApart older

-- Server sessions of one session number follow one another. All moves so far were before this time
pub record Servers (now : ℕ) (servers : ℕ → ServerSession) : Type 0 where
  pub made_before : (unique : ℕ) → (servers unique).status ≢ Unmade → (servers unique).made < now
  pub session_nonzero : (unique : ℕ) → (servers unique).status ≢ Unmade → (servers unique).session ≢ 0
  pub lost_before : (unique at : ℕ) → (servers unique).status ≡ Lost at → ((servers unique).made < at) × (at < now)
  pub following : (one other : ℕ)
      → one ≢ other
      → (servers one).status ≢ Unmade
      → (servers other).status ≢ Unmade
      → (servers one).session ≡ (servers other).session
      → LostBefore (servers one) (servers other).made ⊎ LostBefore (servers other) (servers one).made
  -- one that wasn't made has nothing
  pub unmade : (unique : ℕ)
      → (servers unique).status ≡ Unmade
      → ((servers unique).salts ≡ []) × ((servers unique).judged ≡ []) × ((servers unique).forgotten ≡ [])
  -- no salt is 0, and none is of two
  pub salts_nonzero : (unique : ℕ) → Contains (servers unique).salts 0 → ⊥
  pub salts_apart : (one other salt : ℕ) → Contains (servers one).salts salt → Contains (servers other).salts salt → one ≡ other

-- what was judged, forgotten and executed
pub record Outcomes (servers : ℕ → ServerSession) (ups : List Message) (entries : List Entry) : Type 0 where
  pub backed : (unique : ℕ) (judged : Judged)
      → Contains (servers unique).judged judged → IsBacked ups unique (servers unique) judged
  pub judged_once : (unique : ℕ) (one other : Judged)
      → Contains (servers unique).judged one
      → Contains (servers unique).judged other
      → one.number ≡ other.number
      → one ≡ other
  pub forgotten_given : (unique number : ℕ)
      → Contains (servers unique).forgotten number → WasGiven ups (servers unique).session number
  pub entry_judged : (entry : Entry)
      → Contains entries entry
      → Contains (servers entry.server).judged (record { number = entry.number; outcome = AcceptedCall entry.request })
  pub entry_once : (unique number : ℕ)
      → AtMostOne (λ (entry : Entry). (entry.server ≡ unique) × (entry.number ≡ number)) entries

-- the salts that messages have
abbrev pub Messages : (ℕ → ServerSession) → List Message → Type 0
Messages servers ups =
    (message : Message)
    → Contains ups message
    → ((message.known ≡ []) × (message.salt ≡ 0)) ⊎ SaltAmong servers message.known message.salt

-- a session number has one owner
pub record Owners (owns : ℕ → ℕ → Type 0) (ups : List Message) (names : CallId → List Name) : Type 0 where
  pub once : (one other session : ℕ) → owns one session → owns other session → one ≡ other
  pub of_message : (message : Message) → Contains ups message → (client : ℕ) × owns client message.session
  pub of_name : (call : CallId) (name : Name) → Contains (names call) name → owns call.client name.session

-- what clients have learnt
pub record Clients (clients : ℕ → Client) (servers : ℕ → ServerSession) (ups : List Message) : Type 0 where
  pub salted : (client : ℕ)
      → (((clients client).learnt ≡ []) × ((clients client).salt ≡ 0)) ⊎ SaltAmong servers (clients client).learnt (clients client).salt
  pub learnt : (client unique : ℕ)
      → Contains (clients client).learnt unique
      → ((servers unique).session ≡ (clients client).present) × ((servers unique).status ≢ Unmade)
  pub bounded : (client : ℕ) → length (clients client).learnt ≤ LEARNT_MAX
  -- what the maker of a message had learnt under the present session number is still learnt
  pub knows : (message : Message) (client unique : ℕ)
      → Contains ups message
      → message.session ≡ (clients client).present
      → Contains message.known unique
      → Contains (clients client).learnt unique
  -- one that wasn't made has nothing
  pub unmade : (client : ℕ)
      → (clients client).present ≡ 0 → ((clients client).former ≡ []) × ((clients client).ended ≡ false)

-- names and the messages under them
pub record Names (now : ℕ) (ups : List Message) (names : CallId → List Name) : Type 0 where
  pub sent : (call : CallId) (name : Name)
      → Contains (names call) name → (message : Message) × Contains ups message × IsUnder name message
  pub first : (call : CallId) (name : Name) → Contains (names call) name → name.first < now
  pub known : (call : CallId) (name : Name) (message : Message)
      → Contains (names call) name → Contains ups message → IsUnder name message → message.known ≡ name.known
  pub of_one : (one other : CallId) (name same : Name)
      → Contains (names one) name → Contains (names other) same → IsSameName name same → one ≡ other
  pub apart : (call : CallId) → AreApart (names call)

-- a message under a name carries the call's body, and a message that carries a body is under a name of such a call
pub record Bodies (ups : List Message) (names : CallId → List Name) (bodies : CallId → Text) : Type 0 where
  pub of_name : (call : CallId) (name : Name) (message : Message)
      → Contains (names call) name → Contains ups message → IsUnder name message → message.call ≡ Some (bodies call)
  pub of_message : (message : Message) (body : Text)
      → Contains ups message
      → message.call ≡ Some body
      → (call : CallId) × (name : Name) × Contains (names call) name × IsUnder name message × (body ≡ bodies call)

-- what server sessions have to do with names
pub record Takers (servers : ℕ → ServerSession) (ups : List Message) (names : CallId → List Name) : Type 0 where
  -- whom a name knew was made before its first sending
  pub known : (call : CallId) (name : Name) (unique : ℕ)
      → Contains (names call) name
      → Contains name.known unique
      → ((servers unique).made < name.first) × ((servers unique).status ≢ Unmade)
  -- one that has judged or forgotten its number stands after that
  pub judged : (call : CallId) (name : Name) (unique : ℕ) (judged : Judged)
      → Contains (names call) name
      → (servers unique).session ≡ name.session
      → Contains (servers unique).judged judged
      → judged.number ≡ name.number
      → StandsAfter (servers unique) name.first
  pub forgotten : (call : CallId) (name : Name) (unique : ℕ)
      → Contains (names call) name
      → (servers unique).session ≡ name.session
      → Contains (servers unique).forgotten name.number
      → StandsAfter (servers unique) name.first
  pub replaced : (call : CallId) → AllDead servers ups (older_names (names call))

-- each call fits its state, and one that wasn't submitted has nothing
pub record Calls (clients : ℕ → Client) (servers : ℕ → ServerSession) (ups : List Message) (entries : List Entry) (submitted : ℕ → ℕ) (calls : CallId → Call) : Type 0 where
  pub unsubmitted : (call : CallId)
      → submitted call.client ≤ call.place → ((calls call).names ≡ []) × ((calls call).state ≡ Refused 0)
  pub fits : (call : CallId) → Fits (clients call.client) servers ups entries (calls call).names (calls call).state

-- packets down say what their server sessions may say
pub record Packets (w : World) : Type 0 where
  pub says : (packet : Packet) (item : Item) → Contains w.downs packet → Contains packet.items item → MaySay w packet.server item
  pub made : (packet : Packet) → Contains w.downs packet → (w.servers packet.server).status ≢ Unmade
  pub begins : (packet : Packet) → Contains w.downs packet → HasAccepted (w.servers packet.server) ⊎ BeginsNew packet.items

-- all moves so far were before this time
pub record Kept (now : ℕ) (w : World) : Type 0 where
  pub servers : Servers now w.servers
  pub outcomes : Outcomes w.servers w.ups w.entries
  pub messages : Messages w.servers w.ups
  pub owners : Owners (λ client session. Owns (w.clients client) session) w.ups (λ call. (w.calls call).names)
  pub clients : Clients w.clients w.servers w.ups
  pub names : Names now w.ups (λ call. (w.calls call).names)
  pub bodies : Bodies w.ups (λ call. (w.calls call).names) (λ call. (w.calls call).body)
  pub takers : Takers w.servers w.ups (λ call. (w.calls call).names)
  pub calls : Calls w.clients w.servers w.ups w.entries w.submitted w.calls
  pub packets : Packets w
