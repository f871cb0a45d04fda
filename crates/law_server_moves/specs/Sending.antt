-- What goes out of a session, as packets of the law on moves.
use Rattle.std.specs.Prelude.{◌≡◌, ◌≢◌, ◌<◌, ◌^◌, ◌⊎◌, ⊤, true, ℕ, List, [], ◌∷◌}
use Rattle.std.specs.List.{AllByRecursion, Contains, flat_map}
use Rattle.service_tl.specs.declared.item.Item.{Item}
use Rattle.service_tl.specs.declared.item.Item.TheVariants.{NewSessionCreated}
use Rattle.service_tl.specs.declared.lists.Message.{Message}
use Rattle.service_tl.specs.Items.{spelling_of}
use Rattle.law_server_bounds.specs.Small.{IsSmallJudgement, IsSmallRow}
use Rattle.server_rules.specs.Server.{Name, Reply, Session, has_accepted, name_of}
use Rattle.law_moves.specs.Table as moves
use Rattle.law_moves.specs.World.{World}
use Rattle.law_client.specs.Packets.{item_there}
use Rattle.packing.specs.Packing.{groups, packed}
use Rattle.salt_line.specs.Line.{Line}
use Rattle.server_rules.specs.Event.{Envelope, Owed, State}
use Rattle.server_rules.specs.Sending.{messages_by}
use Rattle.law_moves.specs.Table.Status.{Unmade}
use Rattle.law_server_moves.specs.Servers.{AreApart, HasSalt, Past, with_lost}
use Rattle.law_server_moves.specs.Events.{AreLost, EventStands, lined}
use Rattle.law_server_moves.specs.Speaking.{IsPlain}

-- the numbers of an item fit their places: 64 bits, and a notice's code 32
abbrev pub IsSmall : moves.Item → Type 0
IsSmall (moves.Item.NewSession unique salt) = (unique < 2 ^ 64) × (salt < 2 ^ 64)
IsSmall (moves.Item.Result call content) = call < 2 ^ 64
IsSmall (moves.Item.Notice number code) = (number < 2 ^ 64) × (code < 2 ^ 32)
IsSmall (moves.Item.WrongSalt number salt) = (number < 2 ^ 64) × (salt < 2 ^ 64)

-- so do those that a session may say: its unique number, its salts, and those of what it judged and answered
pub record IsFit (session : Session) : Type 0 where
  pub unique : session.unique < 2 ^ 64
  pub salts : AllByRecursion IsSmallRow session.salts.rows
  pub history : AllByRecursion IsSmallJudgement session.history
  pub replies : AllByRecursion (λ (reply : Reply). reply.call < 2 ^ 64) session.replies

-- each message spells its item, which is no container
abbrev pub AreSpelt : List Message → List Item → Type 0
AreSpelt [] [] = ⊤
AreSpelt [] (item ∷ items) = ⊥
AreSpelt (message ∷ messages) [] = ⊥
AreSpelt (message ∷ messages) (item ∷ items) = (message.body ≡ spelling_of item) × IsPlain item × AreSpelt messages items

-- the messages went out there together: a packet of that server session has what matters of the items that they spell,
-- and the numbers of these fit their places
pub record IsSpoken (w : World) (unique : ℕ) (group : List Message) : Type 0 where
  pub items : List Item
  pub spelt : AreSpelt group items
  pub there : Contains w.downs (record { server = unique; items = flat_map item_there items })
  pub small : AllByRecursion IsSmall (flat_map item_there items)

-- the first of them is the session's `new_session_created`, with one of its salts
abbrev pub IsFirstNew : Session → List Message → Type 0
IsFirstNew session [] = ⊥
IsFirstNew session (message ∷ messages) =
    (first salt : ℕ) × (message.body ≡ spelling_of (NewSessionCreated first session.unique salt)) × HasSalt session salt

-- the session has accepted a message, or these begin so
abbrev pub MayGo : Session → List Message → Type 0
MayGo session group = (has_accepted session ≡ true) ⊎ IsFirstNew session group

-- so may all that it owes, packet by packet
abbrev pub MayAllGo : List Owed → Session → Type 0
MayAllGo owed session = AllByRecursion (MayGo session) (groups (messages_by (name_of session) owed))

-- A packet went out there: the messages that it has in it went out together from a server session of its session number.
pub record WentOut (w : World) (envelope : Envelope) : Type 0 where
  pub unique : ℕ
  pub group : List Message
  pub body : envelope.body ≡ packed group
  pub spoken : IsSpoken w unique group
  pub made : (w.servers unique).status ≢ Unmade
  pub session : (w.servers unique).session ≡ envelope.session

-- An event has come so far that all was said by these sessions and packets went out: the server stands there, with those of
-- the sessions that are lost by now; the others are as they were then, and no two have one
-- session number.
pub record EventEnds {S : Type 0} (w : World) (past : Past) (lines : Name → Line) (said : List Session) (state : State S) : Type 0 where
  pub more : List Session
  pub stands : EventStands w (with_lost more past) lines state
  pub lost : AreLost (lined lines) said state.sessions more
  pub kept : AllByRecursion (Contains said) state.sessions
  pub apart : AreApart said
  pub out : AllByRecursion (λ sent. WentOut w sent.envelope) state.sent
