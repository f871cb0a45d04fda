-- What a body is, said of the whole text and not field by field.
use Rattle.std.specs.Prelude.{◌≡◌, ℕ, List, [], ◌∷◌, ◌++◌}
use Rattle.octets.specs.Bytes.{IsBytes}
use Rattle.tl_codec.specs.Spelling.{Int, Reads, spelling}
use Rattle.service_tl.specs.declared.item.Item.TheVariants.{Broken}
use Rattle.service_tl.specs.Fields.{Field, Plain, Rest, Salts, Bodies, Holds, FieldFits, field_spelling}
use Rattle.service_tl.specs.Schema.{Row}
use Rattle.service_tl.specs.Items.{Values, made}
use Rattle.service_tl.specs.ItemOf.{item_of}

-- The whole text is the field. Strings may have the long form and any padding; the rest is as it stands.
abbrev pub ReadsField : (field : Field) → Holds field → List ℕ → Type 0
ReadsField (Plain form) value text = Reads form value text
ReadsField Rest bytes text = text ≡ bytes
ReadsField Salts rows text = FieldFits Salts rows × (text ≡ field_spelling Salts rows)
ReadsField Bodies messages text = FieldFits Bodies messages × (text ≡ field_spelling Bodies messages)

-- the whole text is the fields, one after the other, and nothing more
abbrev pub ReadsFields : (fields : List Field) → Values fields → List ℕ → Type 0
ReadsFields [] values text = text ≡ []
ReadsFields (field ∷ fields) values text =
    (front rest : List ℕ) × ReadsField field values.0 front × ReadsFields fields values.1 rest × (text ≡ front ++ rest)

-- a body that begins with a number
abbrev pub behind : ℕ → List ℕ → List ℕ
behind number text = spelling Int number ++ text

-- fields that are spelt right behind a row's constructor make that row's item
abbrev pub IsRead : Row → Type 0
IsRead row = (values : Values row.fields) (text : List ℕ) → ReadsFields row.fields values text → item_of (behind row.number text) ≡ made row.fields row.item values

-- a text that isn't spelt right behind a row's constructor is broken
abbrev pub IsBroken : Row → Type 0
IsBroken row = (text : List ℕ) → IsBytes text → ((values : Values row.fields) → ReadsFields row.fields values text → ⊥) → item_of (behind row.number text) ≡ Broken row.number
