-- A spelling of fields that are whole words is whole words.
use Rattle.std.proofs.Common.{◌≡◌, ℕ, ◌+◌, ◌-◌, ◌%◌, cond, ltb, List, [], ◌∷◌, ◌++◌, length, Option, Some, None, refl, ap, ◌∙◌, arith, length-append}
use Rattle.std.specs.List.{flat_map, AllByRecursion}
use Rattle.std.proofs.lemmas.Bool.{ltb-true}
use Rattle.tl_codec.specs.Spelling.{Form, Int, Long, Raw, Bytes, Longs, Truth, Tag, Of, Fits, spelling, size_of}
use Rattle.service_tl.specs.declared.item.Item.{Item}
use Rattle.service_tl.specs.declared.lists.FutureSalt.{FutureSalt}
use Rattle.service_tl.specs.declared.lists.Message.{Message}
use Rattle.service_tl.specs.Sizes.{SaltFits}
use Rattle.service_tl.specs.Fields.{Field, Plain, Rest, Salts, Bodies, Holds, MessageFits, FieldFits, salt_row, message_row, field_spelling}
use Rattle.service_tl.specs.Items.{Values, Filled, filled, FieldsFit, FilledFits, ItemFits, fields_spelling, filled_spelling, spelling_of}
use Rattle.service_tl.specs.Words.{IsWords, HasWords, FieldIsWords, FieldsAreWords, FilledIsWords, ItemIsWords}
use Rattle.service_tl.proofs.Table.{StandsIn, stands}

joined : (x y : List ℕ) → IsWords x → IsWords y → IsWords (x ++ y)
joined x y a b = omega (arith, length-append x y, a, b)

padded : (whole : ℕ) → (whole + (4 - whole % 4) % 4) % 4 ≡ 0
padded whole = omega arith

size_words : (form : Form) (value : Of form) → FieldIsWords (Plain form) value → size_of form value % 4 ≡ 0
size_words Int value words = refl
size_words Long value words = refl
size_words (Raw size) value words = words
size_words Bytes value words = padded (cond (ltb (length value) 254) 1 4 + length value)
size_words Longs value words = omega arith
size_words Truth value words = refl
size_words (Tag number) value words = refl

module _ (sizes : (form : Form) (value : Of form) → Fits form value → length (spelling form value) ≡ size_of form value) where
  value_words : (form : Form) (value : Of form) → Fits form value → FieldIsWords (Plain form) value → IsWords (spelling form value)
  value_words form value fits words = ap (λ (n : ℕ). n % 4) (sizes form value fits) ∙ size_words form value words

  salt_words : (row : FutureSalt) → SaltFits row → IsWords (salt_row row)
  salt_words row fits = joined _ _ (value_words Int row.valid_since fits.0 tt) (joined _ _ (value_words Int row.valid_until fits.1 tt) (value_words Long row.salt fits.2 tt))

  salts_words : (rows : List FutureSalt) → AllByRecursion SaltFits rows → IsWords (flat_map salt_row rows)
  salts_words [] fits = refl
  salts_words (row ∷ rows) fits = joined (salt_row row) (flat_map salt_row rows) (salt_words row fits.0) (salts_words rows fits.1)

  message_words : (message : Message) → MessageFits message → HasWords message → IsWords (message_row message)
  message_words message fits words =
      joined _ _ (value_words Long message.number fits.0 tt) (joined _ _ (value_words Int message.seq fits.1 tt) (joined _ _ (value_words Int (length message.body) fits.2 tt) words))

  messages_words : (messages : List Message) → AllByRecursion MessageFits messages → AllByRecursion HasWords messages → IsWords (flat_map message_row messages)
  messages_words [] fits words = refl
  messages_words (message ∷ messages) fits words =
      joined (message_row message) (flat_map message_row messages) (message_words message fits.0 words.0) (messages_words messages fits.1 words.1)

  field_words : (field : Field) (value : Holds field) → FieldFits field value → FieldIsWords field value → IsWords (field_spelling field value)
  field_words (Plain form) value fits words = value_words form value fits words
  field_words Rest value fits words = words
  field_words Salts value fits words = joined _ _ (value_words Int (length value) fits.0 tt) (salts_words value fits.1)
  field_words Bodies value fits words = joined _ _ (value_words Int (length value) fits.0 tt) (messages_words value fits.1 words)

  fields_words : (fields : List Field) (values : Values fields) → FieldsFit fields values → FieldsAreWords fields values → IsWords (fields_spelling fields values)
  fields_words [] values fits words = refl
  fields_words (field ∷ fields) values fits words =
      joined (field_spelling field values.0) (fields_spelling fields values.1) (field_words field values.0 fits.0 words.0) (fields_words fields values.1 fits.1 words.1)

  filled_words : (item : Item) (of : Option Filled) → StandsIn item of → FilledFits of → FilledIsWords of → IsWords (filled_spelling of)
  filled_words item (Some of) stands fits words =
      joined (spelling Int of.row.number) (fields_spelling of.row.fields of.values) (value_words Int of.row.number (ltb-true _ _ stands.row.small) tt) (fields_words of.row.fields of.values fits words)
  filled_words item None stands fits words = absurd fits

  pub item_words : (item : Item) → ItemFits item → ItemIsWords item → IsWords (spelling_of item)
  item_words item fits words = filled_words item (filled item) (stands item) fits words
