-- What goes out of a server: sealed packets (core.telegram.org/mtproto/description, "Encrypted Message").
use Rattle.std.specs.Prelude.{◌≡◌, ℕ, List, [], ◌∷◌, ◌++◌, length, ⊤}
use Rattle.draws.specs.Draws.{draw_after, next_bytes, words_for}
use Rattle.service_tl.specs.declared.lists.Message.{Message}
use Rattle.auth_keys.specs.declared.ring.RingKey.{RingKey}
use Rattle.envelope.specs.declared.parts.Dir.TheVariants.{Down}
use Rattle.envelope.specs.declared.parts.Envelope.{Envelope}
use Rattle.envelope.specs.Packet.{Lock, Sealed}
use Rattle.server_rules.specs.Event.{Envelope as InPacket, Sent}
use Rattle.server_rules.specs.Sending.{padding_bytes}
use Rattle.server_output.specs.declared.outs.Out.{Out}
use Rattle.server_output.specs.declared.outs.Header.{Header}

-- what goes out, in order, and for how many more packets there is room
pub record Going : Type 0 where
  pub outs : List Out
  pub room : ℕ

-- ---- the packets of a session

-- a message goes out under the session's header
abbrev pub in_packet : Header → Message → InPacket
in_packet header message =
    record {
      key = header.key;
      salt = header.salt;
      session = header.session;
      number = message.number;
      seq = message.seq;
      body = message.body;
    }

-- with a padding that is drawn
abbrev pub one_sent : {S : Type 0} → (S → ℕ × S) → Header → Message → S → Sent
one_sent step header message draw =
    record { envelope = in_packet header message; padding = next_bytes step (padding_bytes (length message.body)) draw }

abbrev pub draw_after_one : {S : Type 0} → (S → ℕ × S) → Message → S → S
draw_after_one step message draw = draw_after step (words_for (padding_bytes (length message.body))) draw

-- several go out one after the other; and the draw after that
abbrev pub sent_of : {S : Type 0} → (S → ℕ × S) → Header → List Message → S → List Sent
sent_of step header [] draw = []
sent_of step header (message ∷ messages) draw =
    one_sent step header message draw ∷ sent_of step header messages (draw_after_one step message draw)

abbrev pub draw_after_sent : {S : Type 0} → (S → ℕ × S) → List Message → S → S
draw_after_sent step [] draw = draw
draw_after_sent step (message ∷ messages) draw = draw_after_sent step messages (draw_after_one step message draw)

-- ---- what goes out is what was sent

-- an envelope, as a seal takes it
abbrev pub sealed_envelope : InPacket → Envelope
sealed_envelope envelope =
    record {
      key = envelope.key;
      salt = envelope.salt;
      session = envelope.session;
      number = envelope.number;
      seq = envelope.seq;
      body = envelope.body;
    }

-- this goes out for that packet: its envelope, sealed with its padding, for its session
pub record IsSent (lock : Lock) (ring : List RingKey) (sent : Sent) (out : Out) : Type 0 where
  pub key : out.key ≡ sent.envelope.key
  pub session : out.session ≡ sent.envelope.session
  pub sealed : Sealed lock ring Down (sealed_envelope sent.envelope) sent.padding out.packet

-- these go out for those packets, one for one and in order
abbrev pub AreSent : Lock → List RingKey → List Sent → List Out → Type 0
AreSent lock ring [] [] = ⊤
AreSent lock ring (one ∷ others) (out ∷ outs) = IsSent lock ring one out × AreSent lock ring others outs
AreSent lock ring [] (out ∷ outs) = ⊥
AreSent lock ring (one ∷ others) [] = ⊥

-- what went out before stays, and behind it goes what is sent now
pub record GoesOn (lock : Lock) (ring : List RingKey) (sent : List Sent) (before after : List Out) : Type 0 where
  pub outs : List Out
  pub behind : after ≡ before ++ outs
  pub are : AreSent lock ring sent outs
