-- What a session says while it has accepted nothing: "the server has begun a new session"
-- (core.telegram.org/mtproto/service_messages, "New Session Creation Notification").
use Rattle.std.specs.Prelude.{◌≡◌, ℕ, false, List}
use Rattle.std.specs.List.{All}
use Rattle.service_tl.specs.declared.item.Item.TheVariants.{NewSessionCreated}
use Rattle.service_tl.specs.declared.lists.Message.{Message}
use Rattle.service_tl.specs.Items.{spelling_of}
use Rattle.inbox.specs.Inbox.{was_heard}
use Rattle.law_server.specs.Start.{BeginsWith}
use Rattle.law_server.specs.Lives.{Life}

-- the body is a `new_session_created` with these numbers
abbrev pub NamesSession : ℕ → ℕ → List ℕ → Type 0
NamesSession first unique body = (salt : ℕ) × (body ≡ spelling_of (NewSessionCreated first unique salt))

-- a packet with this body begins with it: its body is that, or is a container whose first message has it
abbrev pub SaysNew : ℕ → ℕ → List ℕ → Type 0
SaysNew first unique body = (message : Message) × NamesSession first unique message.body × BeginsWith message body

-- as long as the life has accepted nothing, each packet that it made begins with its `new_session_created`
abbrev pub IsAnnounced : Life → Type 0
IsAnnounced life = was_heard life.history ≡ false → All (λ packet. SaysNew life.first life.unique packet.envelope.body) life.packets
