-- In what a client acts, and what it sends (core.telegram.org/mtproto/description, "Encrypted Message";
-- core.telegram.org/method/auth.bindTempAuthKey).
use Rattle.std.specs.Prelude.{ℕ, List, length}
use Rattle.draws.specs.Draws.{draw_after, next_bytes, word_after, words_for}
use Rattle.service_tl.specs.declared.lists.Message.{Message}
use Rattle.service_tl.specs.declared.item.Item.TheVariants.{AuthBindTempAuthKey}
use Rattle.service_tl.specs.Items.{spelling_of}
use Rattle.temp_keys.specs.declared.binding.Inner.{Inner}
use Rattle.envelope.specs.declared.parts.Envelope.{Envelope}
use Rattle.envelope.specs.Packet.{least_padding}
use Rattle.client_rules.specs.Client.{Client, Temporary}

-- how words are drawn; and the binding message under a permanent key, by 16 random bytes, its number, what it says, and 8
-- further random bytes
pub record Setting (S : Type 0) : Type 0 where
  pub step : S → ℕ × S
  pub binding_message : ℕ → List ℕ → ℕ → Inner → List ℕ → List ℕ

-- a packet: its envelope and its padding
pub record Packet : Type 0 where
  pub envelope : Envelope
  pub padding : List ℕ

-- the message goes out under the client's session number and salt, with padding that is drawn
abbrev pub packet_of : {S : Type 0} → Setting S → Client → S → Message → Packet
packet_of setting client draw message =
    record {
      envelope = record {
        key = client.key;
        salt = client.salt;
        session = client.session;
        number = message.number;
        seq = message.seq;
        body = message.body;
      };
      padding = next_bytes setting.step (least_padding (length message.body)) draw;
    }

abbrev pub draw_after_packet : {S : Type 0} → Setting S → S → Message → S
draw_after_packet setting draw message = draw_after setting.step (words_for (least_padding (length message.body))) draw

-- ---- a binding call

-- what it says, with the nonce that is drawn first
abbrev pub inner_of : {S : Type 0} → Setting S → Client → Temporary → S → Inner
inner_of setting client temporary draw =
    record {
      nonce = word_after setting.step 0 draw;
      temp = client.key;
      perm = temporary.perm;
      session = client.session;
      expires = temporary.expires;
    }

-- its body under this number: behind the nonce, two words and a third are drawn for the binding message
abbrev pub binding_body : {S : Type 0} → Setting S → Client → Temporary → ℕ → S → List ℕ
binding_body setting client temporary number draw =
    let inner = inner_of setting client temporary draw in
    let random = next_bytes setting.step 16 (draw_after setting.step 1 draw) in
    let padding = next_bytes setting.step 8 (draw_after setting.step 3 draw) in
    spelling_of (AuthBindTempAuthKey inner.perm inner.nonce inner.expires
    (setting.binding_message inner.perm random number inner padding))

abbrev pub draw_after_binding : {S : Type 0} → Setting S → S → S
draw_after_binding setting draw = draw_after setting.step 4 draw
