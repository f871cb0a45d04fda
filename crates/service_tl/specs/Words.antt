-- Bodies of whole words of 4 bytes, of which an envelope is made (core.telegram.org/mtproto/description,
-- "Encrypted Message"): which items have such a spelling.
use Rattle.std.specs.Prelude.{◌≡◌, ◌%◌, ℕ, List, [], ◌∷◌, length, Option, Some, None, ⊤}
use Rattle.std.specs.List.{AllByRecursion}
use Rattle.tl_codec.specs.Spelling.{Raw}
use Rattle.service_tl.specs.declared.item.Item.{Item}
use Rattle.service_tl.specs.declared.lists.Message.{Message}
use Rattle.service_tl.specs.Fields.{Field, Plain, Rest, Salts, Bodies, Holds}
use Rattle.service_tl.specs.Items.{Values, Filled, filled}

abbrev pub IsWords : List ℕ → Type 0
IsWords text = length text % 4 ≡ 0

abbrev pub HasWords : Message → Type 0
HasWords message = IsWords message.body

-- All fields are whole words by their form, but raw bytes, the rest of a body and the bodies of a
-- container, which stand there as they are.
abbrev pub FieldIsWords : (field : Field) → Holds field → Type 0
FieldIsWords (Plain (Raw size)) value = size % 4 ≡ 0
FieldIsWords (Plain other) value = ⊤
FieldIsWords Rest bytes = IsWords bytes
FieldIsWords Salts rows = ⊤
FieldIsWords Bodies messages = AllByRecursion HasWords messages

abbrev pub FieldsAreWords : (fields : List Field) → Values fields → Type 0
FieldsAreWords [] values = ⊤
FieldsAreWords (field ∷ fields) values = FieldIsWords field values.0 × FieldsAreWords fields values.1

abbrev pub FilledIsWords : Option Filled → Type 0
FilledIsWords (Some filled) = FieldsAreWords filled.row.fields filled.values
FilledIsWords None = ⊤

-- an item whose rest, or whose messages' bodies, are whole words
abbrev pub ItemIsWords : Item → Type 0
ItemIsWords item = FilledIsWords (filled item)
