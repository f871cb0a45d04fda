-- The fields of service items: TL values, and the three forms that stand in items alone.
use Rattle.std.specs.Prelude.{◌<◌, ◌^◌, ℕ, zero, suc, List, [], ◌∷◌, ◌++◌, length, Result, Ok, ⊤}
use Rattle.std.specs.List.{flat_map, AllByRecursion}
use Rattle.tl_codec.specs.declared.fault.TlFault.{TlFault}
use Rattle.tl_codec.specs.Spelling.{Form, Int, Long, Raw, Of, Fits, spelling}
use Rattle.tl_codec.specs.Reading.{◌>>=◌, read_at}
use Rattle.service_tl.specs.declared.lists.FutureSalt.{FutureSalt}
use Rattle.service_tl.specs.declared.lists.Message.{Message}
use Rattle.service_tl.specs.Sizes.{SaltFits}

-- a TL value, the rest of the body, a bare vector of bare salts, one of bare messages
pub data Field : Type 0 where
  Plain : Form → Field
  Rest : Field
  Salts : Field
  Bodies : Field

abbrev pub Holds : Field → Type 0
Holds (Plain form) = Of form
Holds Rest = List ℕ
Holds Salts = List FutureSalt
Holds Bodies = List Message

-- ---- spelling

-- valid_since:int valid_until:int salt:long
abbrev pub salt_row : FutureSalt → List ℕ
salt_row row = spelling Int row.valid_since ++ (spelling Int row.valid_until ++ spelling Long row.salt)

-- msg_id:long seqno:int bytes:int body
abbrev pub message_row : Message → List ℕ
message_row message = spelling Long message.number ++ (spelling Int message.seq ++ (spelling Int (length message.body) ++ message.body))

-- a bare vector has its count and its items
abbrev pub field_spelling : (field : Field) → Holds field → List ℕ
field_spelling (Plain form) value = spelling form value
field_spelling Rest bytes = bytes
field_spelling Salts rows = spelling Int (length rows) ++ flat_map salt_row rows
field_spelling Bodies messages = spelling Int (length messages) ++ flat_map message_row messages

-- ---- what has a spelling

abbrev pub MessageFits : Message → Type 0
MessageFits message = (message.number < 2 ^ 64) × (message.seq < 2 ^ 32) × (length message.body < 2 ^ 32)

abbrev pub FieldFits : (field : Field) → Holds field → Type 0
FieldFits (Plain form) value = Fits form value
FieldFits Rest bytes = ⊤
FieldFits Salts rows = (length rows < 2 ^ 32) × AllByRecursion SaltFits rows
FieldFits Bodies messages = (length messages < 2 ^ 32) × AllByRecursion MessageFits messages

-- ---- reading: the value at the front and the text after it, or the first fault

unfoldable pub salt_at : List ℕ → Result (FutureSalt × List ℕ) TlFault
salt_at text = do
  since ← read_at Int text
  until ← read_at Int since.1
  salt ← read_at Long until.1
  Ok (record { valid_since = since.0; valid_until = until.0; salt = salt.0 }, salt.1)

unfoldable pub message_at : List ℕ → Result (Message × List ℕ) TlFault
message_at text = do
  number ← read_at Long text
  seq ← read_at Int number.1
  bytes ← read_at Int seq.1
  body ← read_at (Raw bytes.0) bytes.1
  Ok (record { number = number.0; seq = seq.0; body = body.0 }, body.1)

-- `count` items, one after the other
unfoldable pub items_at : {A : Type 0} → (List ℕ → Result (A × List ℕ) TlFault) → ℕ → List ℕ → Result (List A × List ℕ) TlFault
items_at item_at zero text = Ok ([], text)
items_at item_at (suc count) text = do
  first ← item_at text
  others ← items_at item_at count first.1
  Ok (first.0 ∷ others.0, others.1)

unfoldable pub vector_at : {A : Type 0} → (List ℕ → Result (A × List ℕ) TlFault) → List ℕ → Result (List A × List ℕ) TlFault
vector_at item_at text = do
  count ← read_at Int text
  items_at item_at count.0 count.1

abbrev pub field_at : (field : Field) → List ℕ → Result (Holds field × List ℕ) TlFault
field_at (Plain form) text = read_at form text
field_at Rest text = Ok (text, [])
field_at Salts text = vector_at salt_at text
field_at Bodies text = vector_at message_at text
