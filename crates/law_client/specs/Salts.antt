-- Where a client's salt comes from (core.telegram.org/mtproto/description, "Server Salt";
-- core.telegram.org/mtproto/service_messages_about_messages, "Notice of Ignored Error Message").
use Rattle.std.specs.Prelude.{◌≡◌, ◌≢◌, ◌⊎◌, ℕ, Bool, true, false, None, Some, List, ◌∷◌, ◌++◌, fold}
use Rattle.std.specs.List.{AllByRecursion}
use Rattle.envelope.specs.declared.parts.Envelope.{Envelope}
use Rattle.service_tl.specs.declared.item.Item.{Item}
use Rattle.service_tl.specs.declared.item.Item.TheVariants.{BadServerSalt, NewSessionCreated}
use Rattle.service_tl.specs.declared.lists.Message.{Message}
use Rattle.service_tl.specs.ItemOf.{item_of}
use Rattle.call_table.specs.Table.{inner_of, owner}
use Rattle.client_rules.specs.Client.{Client, at_moment, calls_of}
use Rattle.client_rules.specs.Events.{Event, Renew, Run, Take, run_of}
use Rattle.client_rules.specs.Sending.{Setting}
use Rattle.client_rules.specs.Taking.{has_asked, is_for, message_in, messages_of, takes_message}

-- a number is the client's own: an outstanding call's, its binding's, or that of a packet that it remembers
abbrev pub IsOwn : ℕ → Client → Type 0
IsOwn about client =
    (owner about (calls_of client) ≢ None) ⊎ (has_asked about client.temporary ≡ true) ⊎ (inner_of about client.table.packets ≢ None)

-- the notice of a wrong salt, about a number of this client, has this salt as the right one
pub record IsNotice (salt : ℕ) (item : Item) (client : Client) : Type 0 where
  pub about : ℕ
  pub seq : ℕ
  pub code : ℕ
  pub is : item ≡ BadServerSalt about seq code salt
  pub own : IsOwn about client

-- a new session has this salt
pub record IsCreation (salt : ℕ) (item : Item) : Type 0 where
  pub first : ℕ
  pub unique : ℕ
  pub is : item ≡ NewSessionCreated first unique salt

-- another session isn't begun
abbrev pub goes_on : Event → Bool
goes_on Renew = false
goes_on _ = true

abbrev pub GoesOn : Event → Type 0
GoesOn event = goes_on event ≡ true

-- A message of a packet that came among these events, at a client that had been run from this start, behind which the client
-- began no other session; and of its item, by the client that it came to, this holds.
pub record CameIn {S : Type 0} (setting : Setting S) (start : Run S) (events : List Event) (P : Item → Client → Type 0) : Type 0 where
  pub before : List Event
  pub after : List Event
  pub now : ℕ
  pub envelope : Envelope
  pub whole : events ≡ before ++ Take now (Some envelope) ∷ after
  pub stays : AllByRecursion GoesOn after
  -- the client before the packet, and the messages of it
  pub client : Client
  pub its : client ≡ at_moment now (run_of setting start before).client
  pub looked_at : is_for client envelope ≡ true
  pub front : List Message
  pub message : Message
  pub rest : List Message
  pub messages : messages_of (message_in envelope) ≡ front ++ message ∷ rest
  pub item : P (item_of message.body) (fold (takes_message envelope.number) client front)

-- the salt of an opening client is 0 until the notice of a wrong salt, about a number of its own, gave another
abbrev pub IsOpeningSalt : {S : Type 0} → Setting S → Run S → List Event → ℕ → Type 0
IsOpeningSalt setting start events salt = (salt ≡ 0) ⊎ CameIn setting start events (IsNotice salt)

-- that of an open client came with a new session or with such a notice
abbrev pub IsOpenSalt : {S : Type 0} → Setting S → Run S → List Event → ℕ → Type 0
IsOpenSalt setting start events salt =
    CameIn setting start events (λ item client. IsCreation salt item) ⊎ CameIn setting start events (IsNotice salt)
