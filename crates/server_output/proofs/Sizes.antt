-- How many bytes what is said has, and that these are whole words.
use Rattle.std.proofs.Common.{◌≡◌, ℕ, ◌+◌, ◌*◌, ◌<◌, ◌≤◌, ◌^◌, List, [], ◌∷◌, ◌++◌, length, map, refl, arith, length-append, lit<}
use Rattle.std.specs.List.{flat_map, AllByRecursion}
use Rattle.std.proofs.lemmas.List.{length-map}
use Rattle.tl_codec.specs.Spelling.{Form, Int, Long, Of, Fits, spelling, size_of}
use Rattle.service_tl.specs.declared.lists.FutureSalt.{FutureSalt}
use Rattle.service_tl.specs.Sizes.{SaltFits}
use Rattle.service_tl.specs.Fields.{Field, Plain, Rest, Salts, Bodies, Holds, FieldFits, salt_row, field_spelling}
use Rattle.service_tl.specs.Items.{Values, FieldsFit, ItemFits, fields_spelling, spelling_of}
use Rattle.service_tl.specs.Words.{ItemIsWords}
use Rattle.service_tl.specs.Schema.{rpc_result, future_salts, pong, destroy_session_ok, destroy_session_none, new_session_created, msgs_ack, msgs_state_info, bad_msg_notification, bad_server_salt}
use Rattle.server_rules.specs.Rows.{future_salt_of}
use Rattle.server_output.specs.declared.said.Outgoing.{Outgoing}
use Rattle.server_output.specs.declared.said.Outgoing.TheVariants.{NewSession, Acks, Notice, BadSalt, Pinged, Salts as SaltsSaid, States, Ended, NoSession, Result}
use Rattle.server_output.specs.Items.{CanBeSaid, item_of, said_bytes}

abbrev field_bytes : (field : Field) → Holds field → ℕ
field_bytes (Plain form) value = size_of form value
field_bytes Rest bytes = length bytes
field_bytes Salts rows = 4 + 16 * length rows
field_bytes Bodies messages = length (field_spelling Bodies messages)

abbrev fields_bytes : (fields : List Field) → Values fields → ℕ
fields_bytes [] values = 0
fields_bytes (field ∷ fields) values = field_bytes field values.0 + fields_bytes fields values.1

module _ (sizes : (form : Form) (value : Of form) → Fits form value → length (spelling form value) ≡ size_of form value) where
  salt-size : (row : FutureSalt) → SaltFits row → length (salt_row row) ≡ 16
  salt-size row fits =
      omega (
        arith,
        length-append (spelling Int row.valid_since) (spelling Int row.valid_until ++ spelling Long row.salt),
        length-append (spelling Int row.valid_until) (spelling Long row.salt),
        sizes Int row.valid_since fits.0,
        sizes Int row.valid_until fits.1,
        sizes Long row.salt fits.2,
      )

  salts-size : (rows : List FutureSalt) → AllByRecursion SaltFits rows → length (flat_map salt_row rows) ≡ 16 * length rows
  salts-size [] fits = refl
  salts-size (row ∷ rows) fits = omega (arith, length-append (salt_row row) (flat_map salt_row rows), salt-size row fits.0, salts-size rows fits.1)

  field-size : (field : Field) (value : Holds field) → FieldFits field value → length (field_spelling field value) ≡ field_bytes field value
  field-size (Plain form) value fits = sizes form value fits
  field-size Rest value fits = refl
  field-size Salts value fits = omega (arith, length-append (spelling Int (length value)) (flat_map salt_row value), sizes Int (length value) fits.0, salts-size value fits.1)
  field-size Bodies value fits = refl

  fields-size : (fields : List Field) (values : Values fields) → FieldsFit fields values → length (fields_spelling fields values) ≡ fields_bytes fields values
  fields-size [] values fits = refl
  fields-size (field ∷ fields) values fits =
      omega (arith, length-append (field_spelling field values.0) (fields_spelling fields values.1), field-size field values.0 fits.0, fields-size fields values.1 fits.1)

  pub boxed-size : (number : ℕ) (fields : List Field) (values : Values fields) → number < 2 ^ 32 → FieldsFit fields values
      → length (spelling Int number ++ fields_spelling fields values) ≡ 4 + fields_bytes fields values
  boxed-size number fields values small fits =
      omega (arith, length-append (spelling Int number) (fields_spelling fields values), sizes Int number small, fields-size fields values fits)

  pub said-size : (said : Outgoing) → ItemFits (item_of said) → length (spelling_of (item_of said)) ≡ said_bytes said
  said-size (NewSession first unique salt) fits = boxed-size new_session_created.number new_session_created.fields (first, (unique, (salt, tt))) (lit< tt) fits
  said-size (Acks ids) fits = omega (arith, boxed-size msgs_ack.number msgs_ack.fields (ids.now, tt) (lit< tt) fits)
  said-size (Notice number seq code) fits = boxed-size bad_msg_notification.number bad_msg_notification.fields (number, (seq, (code, tt))) (lit< tt) fits
  said-size (BadSalt number seq salt) fits = boxed-size bad_server_salt.number bad_server_salt.fields (number, (seq, (48, (salt, tt)))) (lit< tt) fits
  said-size (Pinged message ping) fits = boxed-size pong.number pong.fields (message, (ping, tt)) (lit< tt) fits
  said-size (SaltsSaid request now rows) fits =
      omega (arith, boxed-size future_salts.number future_salts.fields (request, (now, (map future_salt_of rows.now, tt))) (lit< tt) fits, length-map rows.now future_salt_of)
  said-size (States request info) fits = omega (arith, boxed-size msgs_state_info.number msgs_state_info.fields (request, (info.now, tt)) (lit< tt) fits)
  said-size (Ended session) fits = boxed-size destroy_session_ok.number destroy_session_ok.fields (session, tt) (lit< tt) fits
  said-size (NoSession session) fits = boxed-size destroy_session_none.number destroy_session_none.fields (session, tt) (lit< tt) fits
  said-size (Result call content) fits = omega (arith, boxed-size rpc_result.number rpc_result.fields (call, (content.now, tt)) (lit< tt) fits)

-- what is said has whole words where the content of a result has
pub said-is_words : (said : Outgoing) → CanBeSaid said → ItemIsWords (item_of said)
said-is_words (NewSession first unique salt) can = (tt, (tt, (tt, tt)))
said-is_words (Acks ids) can = (tt, tt)
said-is_words (Notice number seq code) can = (tt, (tt, (tt, tt)))
said-is_words (BadSalt number seq salt) can = (tt, (tt, (tt, (tt, tt))))
said-is_words (Pinged message ping) can = (tt, (tt, tt))
said-is_words (SaltsSaid request now rows) can = (tt, (tt, (tt, tt)))
said-is_words (States request info) can = (tt, (tt, tt))
said-is_words (Ended session) can = (tt, tt)
said-is_words (NoSession session) can = (tt, tt)
said-is_words (Result call content) can = (tt, (can.words, tt))

-- and it isn't too long
pub said-short : (said : Outgoing) → CanBeSaid said → said_bytes said ≤ 1044480
said-short (NewSession first unique salt) can = omega arith
said-short (Acks ids) can = omega (arith, can)
said-short (Notice number seq code) can = omega arith
said-short (BadSalt number seq salt) can = omega arith
said-short (Pinged message ping) can = omega arith
said-short (SaltsSaid request now rows) can = omega (arith, can.0)
said-short (States request info) can = grind (arith, can)
said-short (Ended session) can = omega arith
said-short (NoSession session) can = omega arith
said-short (Result call content) can = can.short
