-- Scaffolding, and no promise: what the contracts of private functions cite. An item is written as a
-- constructor's number and four parts, the fields and what fills them up; it is read field by field.
use Rattle.std.specs.Prelude.{◌≡◌, ◌+◌, ◌*◌, ℕ, List, [], ◌∷◌, ◌++◌, length, sum_by, Result, Ok, Err, ⊤}
use Rattle.tl_codec.specs.declared.fault.TlFault.{TlFault}
use Rattle.tl_codec.specs.declared.fault.TlFault.TheVariants.{Memory}
use Rattle.tl_codec.specs.Spelling as form
use Rattle.tl_codec.specs.Spelling.{spelling, Fits}
use Rattle.service_tl.specs.declared.lists.Message.{Message}
use Rattle.service_tl.specs.declared.parts.Part.{Part}
use Rattle.service_tl.specs.declared.parts.Part.TheVariants.{Int, Long, Bytes, Longs, Rest, Salts, Bodies, End}
use Rattle.service_tl.specs.Fields as field
use Rattle.service_tl.specs.Fields.{FieldFits, field_spelling}

-- ---- writing

abbrev pub part_spelling : Part → List ℕ
part_spelling (Int value) = spelling form.Int value
part_spelling (Long value) = spelling form.Long value
part_spelling (Bytes content) = spelling form.Bytes content.now
part_spelling (Longs numbers) = spelling form.Longs numbers.now
part_spelling (Rest content) = content.now
part_spelling (Salts rows) = field_spelling field.Salts rows.now
part_spelling (Bodies messages) = field_spelling field.Bodies messages.now
part_spelling End = []

abbrev pub parts_spelling : List Part → List ℕ
parts_spelling [] = []
parts_spelling (part ∷ parts) = part_spelling part ++ parts_spelling parts

-- the parts behind a constructor's number
abbrev pub boxed : ℕ → List Part → List ℕ
boxed number parts = spelling form.Int number ++ parts_spelling parts

-- the room that a part takes, in bytes
abbrev pub message_size : Message → ℕ
message_size message = 16 + length message.body

abbrev pub part_size : Part → ℕ
part_size (Int value) = 4
part_size (Long value) = 8
part_size (Bytes content) = form.string_size (length content.now)
part_size (Longs numbers) = 8 + 8 * length numbers.now
part_size (Rest content) = length content.now
part_size (Salts rows) = 4 + 16 * length rows.now
part_size (Bodies messages) = 4 + sum_by message_size messages.now
part_size End = 0

abbrev pub parts_size : List Part → ℕ
parts_size [] = 0
parts_size (part ∷ parts) = part_size part + parts_size parts

-- the part fits the field that it is written as
abbrev pub PartFits : Part → Type 0
PartFits (Int value) = Fits form.Int value
PartFits (Long value) = Fits form.Long value
PartFits (Bytes content) = Fits form.Bytes content.now
PartFits (Longs numbers) = Fits form.Longs numbers.now
PartFits (Rest content) = ⊤
PartFits (Salts rows) = FieldFits field.Salts rows.now
PartFits (Bodies messages) = FieldFits field.Bodies messages.now
PartFits End = ⊤

-- ---- reading

-- What a read answered and what it left are what stands at the front of the text, unless memory ran out.
-- After a failure nothing more is read, so nothing is said of what it left.
abbrev pub Answers : {X : Type 0} → Result X TlFault → List ℕ → Result (X × List ℕ) TlFault → Type 0
Answers (Ok value) new read = read ≡ Ok (value, new)
Answers (Err Memory) new read = ⊤
Answers (Err fault) new read = read ≡ Err fault
