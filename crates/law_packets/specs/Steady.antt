-- What a client keeps between events, by which each packet of a flush may be sealed
-- (core.telegram.org/mtproto/description, "Encrypted Message").
use Rattle.std.specs.Prelude.{◌≡◌, ◌<◌, ◌≤◌, ◌^◌, ⊤, ℕ, Bool, true, Option, Some, None, List, length}
use Rattle.std.specs.List.{AllByRecursion}
use Rattle.octets.specs.Bytes.{HasBytes, IsBytes}
use Rattle.service_tl.specs.declared.lists.Message.{Message}
use Rattle.service_tl.specs.Words.{IsWords}
use Rattle.temp_keys.specs.declared.binding.Inner.{Inner}
use Rattle.envelope.specs.Packet.{IsEnvelope, IsPadding, body_max}
use Rattle.call_table.specs.Table.{Call, Name}
use Rattle.client_rules.specs.Asking.{body_bytes_max}
use Rattle.client_rules.specs.Client.{Asked, Binding, Client, States, Temporary}
use Rattle.client_rules.specs.Events.{Event, Submit, Take}
use Rattle.client_rules.specs.Flush.{Answer, Nothing, Sends, Spent}
use Rattle.client_rules.specs.Sending.{Packet, Setting}

-- ---- what is kept

-- A message that may go: its numbers fit their places, and its body is bytes, whole words, and so short that a container of it
-- alone isn't too long.
pub record IsMessage (message : Message) : Type 0 where
  pub number : message.number < 2 ^ 64
  pub seq : message.seq < 2 ^ 32
  pub bytes : IsBytes message.body
  pub words : IsWords message.body
  pub short : length message.body ≤ 1044456

-- a name of a call has such a number and seq
pub record IsNamed (name : Name) : Type 0 where
  pub number : name.message.number < 2 ^ 64
  pub seq : name.message.seq < 2 ^ 32

pub record IsCall (call : Call) : Type 0 where
  pub bytes : IsBytes call.body
  pub words : IsWords call.body
  pub short : length call.body ≤ body_bytes_max
  pub names : AllByRecursion IsNamed call.names

-- the message that asked for a binding may go again
abbrev pub IsAsking : Binding → Type 0
IsAsking (Asked message) = IsMessage message
IsAsking _ = ⊤

abbrev pub IsTemporary : Option Temporary → Type 0
IsTemporary None = ⊤
IsTemporary (Some temporary) = IsAsking temporary.binding

-- the states that wait to be told are bytes
abbrev pub IsTold : Option States → Type 0
IsTold None = ⊤
IsTold (Some states) = IsBytes states.info

-- A client between two events: its key is a known one, its key, session number and salt have 64 bits, and what it may send
-- again or has to tell is such.
pub record IsSteady (known : ℕ → Bool) (client : Client) : Type 0 where
  pub is_known : known client.key ≡ true
  pub key : client.key < 2 ^ 64
  pub session : client.session < 2 ^ 64
  pub salt : client.salt < 2 ^ 64
  pub temporary : IsTemporary client.temporary
  pub told : IsTold client.waiting.told
  pub calls : AllByRecursion IsCall client.table.calls

-- ---- in what it acts, and what comes

-- words that are drawn have 64 bits, and binding messages are bytes
pub record IsFit {S : Type 0} (setting : Setting S) : Type 0 where
  pub words : (draw : S) → (setting.step draw).0 < 2 ^ 64
  pub bindings : (perm number : ℕ) (random padding : List ℕ) (inner : Inner) → HasBytes 16 random → HasBytes 8 padding
      → IsBytes (setting.binding_message perm random number inner padding)

-- the body of a call, and that of an envelope that comes, are bytes
abbrev pub IsFair : Event → Type 0
IsFair (Submit body after) = IsBytes body
IsFair (Take now (Some envelope)) = IsBytes envelope.body
IsFair _ = ⊤

-- ---- what goes

-- a packet that may be sealed under a known key
pub record IsSealable (known : ℕ → Bool) (packet : Packet) : Type 0 where
  pub lawful : IsEnvelope packet.envelope
  pub short : length packet.envelope.body ≤ body_max
  pub key : known packet.envelope.key ≡ true
  pub padded : IsPadding (length packet.envelope.body) packet.padding

-- the packet of a flush, where it gives one, is such
abbrev pub MayGo : (ℕ → Bool) → Answer → Type 0
MayGo known Nothing = ⊤
MayGo known Spent = ⊤
MayGo known (Sends packet) = IsSealable known packet
