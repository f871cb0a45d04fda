-- How many bytes what is said has, and that these are whole words.
use Rattle.std.proofs.Common.{◌≡◌, ◌∙◌, ap, ℕ, ◌+◌, ◌*◌, ◌≤◌, Option, Some, None, List, [], ◌∷◌, ◌++◌, length, refl, arith, length-append}
use Rattle.std.specs.Prelude.{⊤}
use Rattle.std.specs.List.{flat_map}
use Rattle.byteorder.specs.Endian.{little_bytes}
use Rattle.tl_codec.specs.Standard.{bytes_max}
use Rattle.tl_codec.specs.Spelling.{string_size, Form, Int, Long, Raw, Bytes, Longs, Truth, Tag, Of, Fits, spelling, size_of}
use Rattle.service_tl.specs.Fields.{Field, Plain, Rest, Salts, Bodies, Holds, field_spelling}
use Rattle.service_tl.specs.Items.{Values, fields_spelling, spelling_of}
use Rattle.service_tl.specs.Words.{ItemIsWords}
use Rattle.service_tl.specs.Schema.{rpc_drop_answer, get_future_salts, ping, destroy_session, msgs_ack, msgs_state_req, msgs_state_info, msg_resend_req, invoke_after_msg, auth_bind_temp_auth_key}
use Rattle.service_tl.specs.declared.item.Item.TheVariants.{AuthBindTempAuthKey}
use Rattle.client_core.specs.declared.saying.Outgoing.{Outgoing}
use Rattle.client_core.specs.declared.saying.Outgoing.TheVariants.{Acks, Told, Resent, States, Pings, Salts as SaltsSaid, Destroys, Drops}
use Rattle.client_rules.specs.Filling.{body_behind}
use Rattle.client_core.specs.Calling.{wrap_bytes}
use Rattle.client_core.specs.Draft.{CanBeSaid, item_of, said_bytes}

abbrev field_bytes : (field : Field) → Holds field → ℕ
field_bytes (Plain form) value = size_of form value
field_bytes Rest bytes = length bytes
field_bytes Salts rows = length (field_spelling Salts rows)
field_bytes Bodies messages = length (field_spelling Bodies messages)

abbrev fields_bytes : (fields : List Field) → Values fields → ℕ
fields_bytes [] values = 0
fields_bytes (field ∷ fields) values = field_bytes field values.0 + fields_bytes fields values.1

-- what a value needs, so that it has the size that is counted
abbrev IsCounted : (form : Form) → Of form → Type 0
IsCounted (Raw size) bytes = length bytes ≡ size
IsCounted Bytes content = length content ≤ bytes_max
IsCounted other value = ⊤

abbrev FieldIsCounted : (field : Field) → Holds field → Type 0
FieldIsCounted (Plain form) value = IsCounted form value
FieldIsCounted other value = ⊤

abbrev AreCounted : (fields : List Field) → Values fields → Type 0
AreCounted [] values = ⊤
AreCounted (field ∷ fields) values = FieldIsCounted field values.0 × AreCounted fields values.1

longs-size : (numbers : List ℕ) → length (flat_map (little_bytes 8) numbers) ≡ 8 * length numbers
longs-size [] = refl
longs-size (number ∷ numbers) = omega (arith, length-append (little_bytes 8 number) (flat_map (little_bytes 8) numbers), longs-size numbers)

module _ (sizes : (form : Form) (value : Of form) → Fits form value → length (spelling form value) ≡ size_of form value) where
  form-size : (form : Form) (value : Of form) → IsCounted form value → length (spelling form value) ≡ size_of form value
  unfolding spelling
  form-size Int value counted = refl
  form-size Long value counted = refl
  form-size (Raw size) value counted = counted
  form-size Bytes value counted = sizes Bytes value counted
  form-size Longs value counted = omega (arith, longs-size value)
  form-size Truth value counted = refl
  form-size (Tag number) value counted = refl

  field-size : (field : Field) (value : Holds field) → FieldIsCounted field value → length (field_spelling field value) ≡ field_bytes field value
  field-size (Plain form) value counted = form-size form value counted
  field-size Rest value counted = refl
  field-size Salts value counted = refl
  field-size Bodies value counted = refl

  fields-size : (fields : List Field) (values : Values fields) → AreCounted fields values → length (fields_spelling fields values) ≡ fields_bytes fields values
  fields-size [] values counted = refl
  fields-size (field ∷ fields) values counted =
      omega (arith, length-append (field_spelling field values.0) (fields_spelling fields values.1), field-size field values.0 counted.0, fields-size fields values.1 counted.1)

  pub boxed-size : (number : ℕ) (fields : List Field) (values : Values fields) → AreCounted fields values
      → length (spelling Int number ++ fields_spelling fields values) ≡ 4 + fields_bytes fields values
  boxed-size number fields values counted =
      omega (arith, length-append (spelling Int number) (fields_spelling fields values), form-size Int number tt, fields-size fields values counted)

  pub said-size : (said : Outgoing) → CanBeSaid said → length (spelling_of (item_of said)) ≡ said_bytes said
  said-size (Acks ids) can = omega (arith, boxed-size msgs_ack.number msgs_ack.fields (ids.now, tt) (tt, tt))
  said-size (Told request info) can = omega (arith, boxed-size msgs_state_info.number msgs_state_info.fields (request, (info.now, tt)) (tt, (omega (arith, can), tt)))
  said-size (Resent ids) can = omega (arith, boxed-size msg_resend_req.number msg_resend_req.fields (ids.now, tt) (tt, tt))
  said-size (States ids) can = omega (arith, boxed-size msgs_state_req.number msgs_state_req.fields (ids.now, tt) (tt, tt))
  said-size (Pings id) can = boxed-size ping.number ping.fields (id, tt) (tt, tt)
  said-size (SaltsSaid count) can = boxed-size get_future_salts.number get_future_salts.fields (count, tt) (tt, tt)
  said-size (Destroys session) can = boxed-size destroy_session.number destroy_session.fields (session, tt) (tt, tt)
  said-size (Drops number) can = boxed-size rpc_drop_answer.number rpc_drop_answer.fields (number, tt) (tt, tt)

  pub call-size : (wrap : Option ℕ) (body : List ℕ) → length (body_behind wrap body) ≡ wrap_bytes wrap + length body
  call-size None body = omega arith
  call-size (Some number) body = omega (arith, boxed-size invoke_after_msg.number invoke_after_msg.fields (number, (body, tt)) (tt, (tt, tt)))

  pub bind-size : (perm nonce expires : ℕ) (message : List ℕ) → length message ≡ 104 → length (spelling_of (AuthBindTempAuthKey perm nonce expires message)) ≡ 132
  bind-size perm nonce expires message size =
      boxed-size auth_bind_temp_auth_key.number auth_bind_temp_auth_key.fields (perm, (nonce, (expires, (message, tt)))) (tt, (tt, (tt, (omega (arith, size), tt))))
      ∙ ap (λ n. 4 + (8 + (8 + (4 + (string_size n + 0))))) size

pub said-is_words : (said : Outgoing) → ItemIsWords (item_of said)
said-is_words (Acks ids) = (tt, tt)
said-is_words (Told request info) = (tt, (tt, tt))
said-is_words (Resent ids) = (tt, tt)
said-is_words (States ids) = (tt, tt)
said-is_words (Pings id) = (tt, tt)
said-is_words (SaltsSaid count) = (tt, tt)
said-is_words (Destroys session) = (tt, tt)
said-is_words (Drops number) = (tt, tt)

pub said-few : (said : Outgoing) → CanBeSaid said → said_bytes said ≤ 65548
said-few (Acks ids) can = omega (arith, can)
said-few (Told request info) can = grind (arith, can)
said-few (Resent ids) can = omega (arith, can)
said-few (States ids) can = omega (arith, can)
said-few (Pings id) can = omega arith
said-few (SaltsSaid count) can = omega arith
said-few (Destroys session) can = omega arith
said-few (Drops number) can = omega arith
