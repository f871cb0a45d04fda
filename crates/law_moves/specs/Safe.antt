-- Why it is at most once: what salts, numbers and server sessions have to do with one another.
use Rattle.std.specs.Prelude.{ℕ, ◌≡◌, ◌≢◌, ◌<◌, ◌≤◌, length, Bool, false, List, [], ◌∷◌, ◌++◌, ◌⊎◌}
use Rattle.std.specs.List.{Contains}
use Rattle.law_moves.specs.Table.{CallId, Name, Message, Judged, Packet, Item}
use Rattle.law_moves.specs.Table.State.{Sent}
use Rattle.law_moves.specs.Table.Status.{Standing}
use Rattle.law_moves.specs.Table.Item.{NewSession, Result, Notice, WrongSalt}
use Rattle.law_moves.specs.World.{World, IsUnder, IsAccepted, StoodAt}
use Rattle.law_moves.specs.After.{after_items, LEARNT_MAX}

-- the salt is one of a server session of this session number that is among these
abbrev pub IsSaltOf : World → ℕ → List ℕ → ℕ → Type 0
IsSaltOf w session learnt salt =
    (unique : ℕ) × Contains (w.servers unique).salts salt × Contains learnt unique × ((w.servers unique).session ≡ session)

pub record Salts (w : World) : Type 0 where
  -- a client that has learnt nothing has salt 0
  pub nothing_learnt : (client : ℕ) → (w.clients client).learnt ≡ [] → (w.clients client).salt ≡ 0
  -- else its salt is one of a learnt server session of its present session number
  pub learnt : (client : ℕ)
      → (w.clients client).learnt ≢ []
      → IsSaltOf w (w.clients client).present (w.clients client).learnt (w.clients client).salt
  -- it never learns more than it has room for
  pub bounded : (client : ℕ) → length (w.clients client).learnt ≤ LEARNT_MAX
  -- a server session that accepted a message was learnt before the message's packet was made
  pub accepted : (unique : ℕ) (judged : Judged)
      → Contains (w.servers unique).judged judged
      → IsAccepted judged.outcome
      → (message : Message)
      × Contains w.ups message
      × (message.session ≡ (w.servers unique).session)
      × (message.number ≡ judged.number)
      × Contains (w.servers unique).salts message.salt
      × Contains message.known unique

-- sent under salt 0 alone
abbrev pub IsUnsalted : World → Name → Type 0
IsUnsalted w name = (message : Message) → Contains w.ups message → IsUnder name message → message.salt ≡ 0

-- each salt that it was sent under is one of a server session that was made before its first sending
abbrev pub IsSaltedBefore : World → Name → Type 0
IsSaltedBefore w name =
    (message : Message)
    → Contains w.ups message
    → IsUnder name message
    → (unique : ℕ) × Contains (w.servers unique).salts message.salt × ((w.servers unique).made < name.first)

pub record Numbers (w : World) : Type 0 where
  -- a living name is one of the client's present session number
  pub present : (call : CallId) (name : Name) (older : List Name)
      → (w.calls call).state ≡ Sent
      → (w.calls call).names ≡ name ∷ older
      → name.session ≡ (w.clients call.client).present
  -- it was sent under salt 0 alone by a client that has learnt nothing; or nothing was learnt since its first sending, and all its salts are
  -- of server sessions that were made before that
  pub living : (call : CallId) (name : Name) (older : List Name)
      → (w.calls call).state ≡ Sent
      → (w.calls call).names ≡ name ∷ older
      → (((w.clients call.client).learnt ≡ []) × IsUnsalted w name)
      ⊎ (((w.clients call.client).learnt ≡ name.known) × IsSaltedBefore w name)

-- the item is a notice on this number
abbrev pub IsNoticeOn : ℕ → Item → Type 0
IsNoticeOn number (NewSession named salt) = ⊥
IsNoticeOn number (Result other reply) = ⊥
IsNoticeOn number (Notice other code) = other ≡ number
IsNoticeOn number (WrongSalt other salt) = other ≡ number

pub record OneTaker (w : World) : Type 0 where
  -- of the server sessions of one session number at most one was made before a time and stood then
  pub one : (time unique other : ℕ)
      → (w.servers unique).session ≡ (w.servers other).session
      → StoodAt (w.servers unique) time
      → StoodAt (w.servers other) time
      → unique ≡ other
  -- the one of a name's first sending alone has accepted the name
  pub accepted : (call : CallId) (name : Name) (unique : ℕ) (judged : Judged)
      → Contains (w.calls call).names name
      → (w.servers unique).session ≡ name.session
      → Contains (w.servers unique).judged judged
      → judged.number ≡ name.number
      → IsAccepted judged.outcome
      → StoodAt (w.servers unique) name.first
  -- it alone can accept the name
  pub can_accept : (call : CallId) (name : Name) (unique : ℕ) (message : Message)
      → Contains (w.calls call).names name
      → Contains w.ups message
      → IsUnder name message
      → (w.servers unique).session ≡ name.session
      → (w.servers unique).status ≡ Standing
      → Contains (w.servers unique).salts message.salt
      → StoodAt (w.servers unique) name.first
  -- a notice that reaches the call while the name lives, at a client that hasn't ended, comes from it
  pub noticed : (client : ℕ) (call : CallId) (name : Name) (older : List Name) (packet : Packet) (before rest : List Item) (item : Item) (takes : List Bool)
      → Contains w.downs packet
      → (w.servers packet.server).session ≡ (w.clients client).present
      → packet.items ≡ before ++ item ∷ rest
      → IsNoticeOn name.number item
      → ((after_items w client before takes).clients client).ended ≡ false
      → call.client ≡ client
      → ((after_items w client before takes).calls call).state ≡ Sent
      → ((after_items w client before takes).calls call).names ≡ name ∷ older
      → StoodAt (w.servers packet.server) name.first
