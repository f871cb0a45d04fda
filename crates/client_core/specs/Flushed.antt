-- What a flush answers, beside the definition's answer.
use Rattle.std.specs.Prelude.{◌≡◌, ℕ, nat_lt, Bool, true, false, Option, Some, None, List, [], ⊤}
use Rattle.auth_keys.specs.declared.ring.RingKey.{RingKey}
use Rattle.auth_keys.specs.Rings.{entry_of, key_in}
use Rattle.temp_keys.specs.declared.binding.Inner.{Inner}
use Rattle.temp_keys.specs.Messages.{binding_message}
use Rattle.envelope.specs.declared.parts.Dir.TheVariants.{Up}
use Rattle.envelope.specs.Packet.{Lock, Sealed}
use Rattle.client_rules.specs.Sending.{Setting, Packet}
use Rattle.msg_ids.specs.Counters.{room}
use Rattle.client_rules.specs.Client.{Client, at_moment}
use Rattle.client_rules.specs.Flush.{Answer, Flushed, Nothing, Spent, Sends, flush, is_due, room_min}
use Rattle.client_core.specs.Kept.{Contents, Stands}
use Rattle.client_core.specs.declared.flush.Flush.{Flush}
use Rattle.client_core.specs.declared.flush.Flush.TheVariants as told

-- the binding message under a key, where there is this key
abbrev pub binding_under : Option (List ℕ) → List ℕ → ℕ → Inner → List ℕ → List ℕ
binding_under None random number inner padding = []
binding_under (Some key) random number inner padding = binding_message key random number inner padding

-- in what a client acts: how words are drawn, and a ring that has its permanent key
abbrev pub setting_of : {S : Type 0} → (S → ℕ × S) → List RingKey → Setting S
setting_of step keys =
    record { step = step; binding_message = λ perm. binding_under (key_in (entry_of perm keys)) }

-- the bytes are the packet, sealed upwards under the key of the ring that its envelope names
abbrev pub IsSealed : Lock → List RingKey → Packet → List ℕ → Type 0
IsSealed lock keys packet bytes = Sealed lock keys Up packet.envelope packet.padding bytes

-- what is told is the answer, unless memory ran out
abbrev pub TellsFlush : Lock → List RingKey → Answer → Flush → Type 0
TellsFlush lock keys Nothing told.Nothing = ⊤
TellsFlush lock keys Spent told.Spent = ⊤
TellsFlush lock keys (Sends packet) (told.Packet bytes) = IsSealed lock keys packet bytes
TellsFlush lock keys answer told.Memory = ⊤
TellsFlush lock keys answer other = ⊥

-- ---- what a flush does

-- a packet was sent: the answer, what stands for the client then, and the draw are the definition's
pub record Sent {S : Type 0} (lock : Lock) (keys : List RingKey) (due : Flushed S) (bytes : List ℕ) (core : Contents) (draw : S) : Type 0 where
  pub answer : TellsFlush lock keys due.answer (told.Packet bytes)
  pub client : Stands core due.client
  pub drawn : draw ≡ due.draw

-- why a flush answers so: whether something is due, and whether there may be too few numbers for it
abbrev pub CauseOf : Bool → Bool → Flush → Type 0
CauseOf due few told.Nothing = due ≡ false
CauseOf due few told.Spent = (due ≡ true) × (few ≡ true)
CauseOf due few (told.Packet bytes) = (due ≡ true) × (few ≡ false)
CauseOf due few told.Memory = ⊤

-- what it leaves: by an answer the definition's client and draw, and where memory ran out all as it was
abbrev pub Leaves : {S : Type 0} → Flush → Contents → S → Client → S → Flushed S → Type 0
Leaves told.Memory core draw client before due = Stands core client × (draw ≡ before)
Leaves other core draw client before due = Stands core due.client × (draw ≡ due.draw)

-- A flush of this client at a moment, that answers and leaves so.
pub record Flushes {S : Type 0} (setting : Setting S) (lock : Lock) (keys : List RingKey) (now : ℕ) (client : Client) (before : S) (answer : Flush) (core : Contents) (draw : S) : Type 0 where
  pub told : TellsFlush lock keys (flush setting now client before).answer answer
  pub leaves : Leaves answer core draw client before (flush setting now client before)
  pub cause : CauseOf (is_due setting (at_moment now client) before) (nat_lt (room client.counters) room_min) answer
