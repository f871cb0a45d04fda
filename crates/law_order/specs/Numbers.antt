-- The numbers of all packets of a world, by the session numbers under which they went, and notice 19
-- (core.telegram.org/mtproto/description, "Message Identifier"; core.telegram.org/mtproto/service_messages_about_messages,
-- "Notice of Ignored Error Message").
use Rattle.std.specs.Prelude.{◌≡◌, ℕ, List}
use Rattle.std.specs.List.{AllByRecursion, Contains}
use Rattle.service_tl.specs.declared.lists.Message.{Message}
use Rattle.envelope.specs.declared.parts.Dir.TheVariants.{Up, Down}
use Rattle.envelope.specs.declared.parts.Envelope.{Envelope}
use Rattle.client_rules.specs.Taking.{message_in}
use Rattle.law_order.specs.Given.{AreOnce, IsMadeOf}
use Rattle.law_order.specs.Apart.{IsQuietBody}
use Rattle.world_rules.specs.World.{Packet, World}

-- ---- numbers

-- an envelope is made of some of these messages, and is the envelope of one of them
pub record IsGiven (given : List Message) (envelope : Envelope) : Type 0 where
  pub messages : List Message
  pub made : IsMadeOf messages envelope
  pub among : AllByRecursion (Contains given) messages
  pub outer : Contains given (message_in envelope)

-- so is a packet up under this session number
abbrev pub IsGivenUnder : ℕ → List Message → Packet → Type 0
IsGivenUnder session given packet = packet.dir ≡ Up → packet.envelope.session ≡ session → IsGiven given packet.envelope

-- the messages of all packets up under a session number: no number is that of two of them
pub record AreGivenOnce (bag : List Packet) (session : ℕ) : Type 0 where
  pub given : List Message
  pub once : AreOnce given
  pub packets : AllByRecursion (IsGivenUnder session given) bag

-- whichever the session number is, over all packets that were ever made
abbrev pub GivesOnce : {S V : Type 0} → World S V → Type 0
GivesOnce world = (session : ℕ) → AreGivenOnce world.bag session

-- ---- notices

-- a packet down has no notice 19
abbrev pub IsQuietPacket : Packet → Type 0
IsQuietPacket packet = packet.dir ≡ Down → IsQuietBody packet.envelope.body

-- so is each packet down that was ever made
abbrev pub SaysNo19 : {S V : Type 0} → World S V → Type 0
SaysNo19 world = AllByRecursion IsQuietPacket world.bag
