-- A binding that is asked for: scaffolding of private functions, and no promise.
use Rattle.std.specs.Prelude.{◌≡◌, ℕ, ◌≤◌, [], List, Option, Some, None, if◌then◌else◌, true}
use Rattle.draws.specs.Draws.{draw_after, next_bytes, word_after}
use Rattle.service_tl.specs.declared.lists.Message.{Message}
use Rattle.service_tl.specs.declared.item.Item.TheVariants.{AuthBindTempAuthKey}
use Rattle.service_tl.specs.Items.{spelling_of}
use Rattle.temp_keys.specs.declared.binding.Inner.{Inner}
use Rattle.temp_keys.specs.Messages.{binding_message}
use Rattle.client_rules.specs.Client.{Client, Temporary, numbered, temporary_of}
use Rattle.client_rules.specs.Filling.{is_needed}
use Rattle.client_rules.specs.Sending.{Setting, binding_body}
use Rattle.msg_ids.specs.Counters.{next_number, seq_of}
use Rattle.client_core.specs.declared.asking.BindRoom.{BindRoom}
use Rattle.client_core.specs.declared.rebinding.Needed.{Needed}

-- how many bytes the body of a binding call has
abbrev pub bind_body_bytes : ℕ
bind_body_bytes = 132

-- there is room for a binding message, its plain text and the body of the call
abbrev pub HasRoom : BindRoom → Type 0
HasRoom room =
    ((room.message.bytes ≡ []) × (104 ≤ room.message.room)) × ((room.plain.bytes ≡ []) × (80 ≤ room.plain.room))
    × ((room.body.bytes ≡ []) × (bind_body_bytes ≤ room.body.room))

-- no room, as where no binding is asked for
abbrev pub HasNoRoom : BindRoom → Type 0
HasNoRoom room = (room.message.room ≡ 0) × ((room.plain.room ≡ 0) × (room.body.room ≡ 0))

-- what a temporary key needs whose binding is needed
abbrev pub needed_of : Option Temporary → Option Needed
needed_of None = None
needed_of (Some temporary) = if is_needed temporary.binding then Some (record { perm = temporary.perm; expires = temporary.expires }) else None

-- the message that asks for it
abbrev pub asking_message : {S : Type 0} → Setting S → Client → Needed → S → Message
asking_message setting client needed draw =
    let unsaid = numbered true [] client in
    record unsaid { body = binding_body setting client (temporary_of needed.perm needed.expires) unsaid.number draw }

-- what it says, with a nonce
abbrev pub asked_inner : Client → Needed → ℕ → Inner
asked_inner client needed nonce =
    record { nonce = nonce; temp = client.key; perm = needed.perm; session = client.session; expires = needed.expires }

-- the message under a permanent key, at a moment
abbrev pub asked_message : {S : Type 0} → (S → ℕ × S) → List ℕ → ℕ → Client → Needed → S → Message
asked_message step key at client needed draw =
    let number = next_number client.counters.last at in
    let nonce = word_after step 0 draw in
    let behind = draw_after step 1 draw in
    record {
      number = number;
      seq = seq_of client.counters.content_messages true;
      body = spelling_of (AuthBindTempAuthKey needed.perm nonce needed.expires
          (binding_message key (next_bytes step 16 behind) number (asked_inner client needed nonce) (next_bytes step 8 (draw_after step 2 behind))));
    }
