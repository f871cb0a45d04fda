-- A body is an item exactly where its text is that item's fields.
use Rattle.std.proofs.Common.{◌≡◌, ℕ, true, List, [], ◌∷◌, ◌++◌, Some, Ok, refl, ap, ◌∙◌}
use Rattle.std.specs.List.{AllByRecursion}
use Rattle.std.proofs.lemmas.Bool.{ltb-true}
use Rattle.std.proofs.lemmas.List.{append-nil}
use Rattle.tl_codec.specs.Spelling.{Form, Int, Of, Spells}
use Rattle.tl_codec.specs.Reading.{Takes, read_at}
use Rattle.service_tl.specs.Fields.{Field, Plain, Rest, Salts, Bodies, field_spelling, MessageFits, salt_row, message_row, salt_at, message_at, vector_at}
use Rattle.service_tl.specs.Sizes.{SaltFits}
use Rattle.service_tl.specs.Schema.{Makes, Row, schema, fields_at, item_in}
use Rattle.service_tl.specs.Items.{Values, made}
use Rattle.service_tl.specs.Exact.{ReadsFields, IsRead}
use Rattle.service_tl.proofs.Table.{is_last, IsRow, of_rows, each_row}
use Rattle.service_tl.proofs.Again.{value_again, salt_again, message_again, vector_again}

module _ (again : (form : Form) (value : Of form) (text rest : List ℕ) → Spells form value text → read_at form (text ++ rest) ≡ Ok (value, rest)) (taken_again : (form : Form) (value : Of form) (text rest : List ℕ) → Takes form value text rest → read_at form text ≡ Ok (value, rest)) where
  fields_read : (fields : List Field) (item : Makes fields) (values : Values fields) (text : List ℕ) → is_last fields ≡ true → ReadsFields fields values text → fields_at fields item text ≡ Ok (made fields item values, [])
  fields_read [] item values text last reads = ap (λ (x : List ℕ). Ok (item, x)) reads
  fields_read (Plain form ∷ fields) item values text last reads =
      rw (taken_again form values.0 text reads.1 (reads.0, reads.2, reads.4)) (fields_read fields (item values.0) values.1 reads.1 last reads.3)
  fields_read (Rest ∷ []) item values text last reads =
      let same : text ≡ values.0 = reads.4 ∙ ap (λ (x : List ℕ). reads.0 ++ x) reads.3 ∙ append-nil reads.0 ∙ reads.2 in
      ap (λ (x : List ℕ). Ok (item x, [])) same
  fields_read (Rest ∷ field ∷ fields) item values text last reads = absurd cc
  fields_read (Salts ∷ fields) item values text last reads =
      let spelt : text ≡ field_spelling Salts values.0 ++ reads.1 = reads.4 ∙ ap (λ (x : List ℕ). x ++ reads.1) reads.2.1 in
      let first = ap (vector_at salt_at) spelt ∙ vector_again again salt_at salt_row SaltFits (salt_again again) values.0 reads.1 reads.2.0.0 reads.2.0.1 in
      rw first (fields_read fields (item values.0) values.1 reads.1 last reads.3)
  fields_read (Bodies ∷ fields) item values text last reads =
      let spelt : text ≡ field_spelling Bodies values.0 ++ reads.1 = reads.4 ∙ ap (λ (x : List ℕ). x ++ reads.1) reads.2.1 in
      let first = ap (vector_at message_at) spelt ∙ vector_again again message_at message_row MessageFits (message_again again) values.0 reads.1 reads.2.0.0 reads.2.0.1 in
      rw first (fields_read fields (item values.0) values.1 reads.1 last reads.3)

  pub row_read : (row : Row) → IsRow row → IsRead row
  row_read row is values text reads =
      let read = value_again again Int row.number text (ltb-true _ _ is.small) in
      let found : item_in schema row.number text ≡ Ok (Some (made row.fields row.item values), []) = is.found text ∙ rw (fields_read row.fields row.item values text is.last reads) refl in
      rw (read, is.other, found) refl

  pub each_read : AllByRecursion IsRead schema
  each_read = of_rows IsRead row_read schema each_row
