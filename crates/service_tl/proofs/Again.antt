-- What was written of an item is read again: one lemma for each form of field, and one for a row.
use Rattle.std.proofs.Common.{◌≡◌, ℕ, suc, ◌^◌, ◌<◌, true, List, [], ◌∷◌, ◌++◌, length, Option, Some, None, Result, Ok, refl, ap, ◌∙◌, append_assoc}
use Rattle.std.proofs.lemmas.Bool.{ltb-true}
use Rattle.std.specs.List.{flat_map, AllByRecursion}
use Rattle.std.proofs.lemmas.List.{append-nil}
use Rattle.tl_codec.specs.declared.fault.TlFault.{TlFault}
use Rattle.tl_codec.specs.Spelling.{Form, Int, Long, Raw, Of, Fits, Spells, spelling}
use Rattle.tl_codec.specs.Reading.{read_at}
use Rattle.service_tl.specs.declared.item.Item.{Item}
use Rattle.service_tl.specs.declared.lists.FutureSalt.{FutureSalt}
use Rattle.service_tl.specs.declared.lists.Message.{Message}
use Rattle.service_tl.specs.Fields.{Field, Plain, Rest, Salts, Bodies, MessageFits, salt_row, message_row, salt_at, message_at, items_at, vector_at}
use Rattle.service_tl.specs.Sizes.{SaltFits}
use Rattle.service_tl.specs.Schema.{Makes, schema, fields_at, item_in}
use Rattle.service_tl.specs.Items.{Values, made, Filled, filled, fields_spelling, filled_spelling, FieldsFit, FilledFits, spelling_of, ItemFits}
use Rattle.service_tl.specs.ItemOf.{item_of}
use Rattle.service_tl.proofs.Table.{is_last, IsRow, StandsIn, stands}

module _ (again : (form : Form) (value : Of form) (text rest : List ℕ) → Spells form value text → read_at form (text ++ rest) ≡ Ok (value, rest)) where
  pub value_again : (form : Form) (value : Of form) (rest : List ℕ) → Fits form value → read_at form (spelling form value ++ rest) ≡ Ok (value, rest)
  value_again form value rest fits = again form value (spelling form value) rest (fits, refl)

  pub salt_again : (row : FutureSalt) (rest : List ℕ) → SaltFits row → salt_at (salt_row row ++ rest) ≡ Ok (row, rest)
  unfolding salt_at
  salt_again row rest fits =
      let since = spelling Int row.valid_since in
      let until = spelling Int row.valid_until in
      let salt = spelling Long row.salt in
      let regrouped : salt_row row ++ rest ≡ since ++ (until ++ (salt ++ rest)) = append_assoc since (until ++ salt) rest ∙ ap (λ (x : List ℕ). since ++ x) (append_assoc until salt rest) in
      ap salt_at regrouped ∙ rw (value_again Int row.valid_since (until ++ (salt ++ rest)) fits.0, value_again Int row.valid_until (salt ++ rest) fits.1, value_again Long row.salt rest fits.2) refl

  raw_again : (body rest : List ℕ) → read_at (Raw (length body)) (body ++ rest) ≡ Ok (body, rest)
  unfolding spelling
  raw_again body rest = again (Raw (length body)) body body rest (refl, refl)

  pub message_again : (message : Message) (rest : List ℕ) → MessageFits message → message_at (message_row message ++ rest) ≡ Ok (message, rest)
  unfolding message_at
  message_again message rest fits =
      let number = spelling Long message.number in
      let seq = spelling Int message.seq in
      let bytes = spelling Int (length message.body) in
      let regrouped : message_row message ++ rest ≡ number ++ (seq ++ (bytes ++ (message.body ++ rest))) =
      append_assoc number (seq ++ (bytes ++ message.body)) rest
      ∙ ap (λ (x : List ℕ). number ++ x) (append_assoc seq (bytes ++ message.body) rest)
      ∙ ap (λ (x : List ℕ). number ++ (seq ++ x)) (append_assoc bytes message.body rest) in
      ap message_at regrouped
      ∙ rw (value_again Long message.number (seq ++ (bytes ++ (message.body ++ rest))) fits.0, value_again Int message.seq (bytes ++ (message.body ++ rest)) fits.1, value_again Int (length message.body) (message.body ++ rest) fits.2, raw_again message.body rest) refl

  items_again : {A : Type 0} (item_at : List ℕ → Result (A × List ℕ) TlFault) (row : A → List ℕ) (Fit : A → Type 0)
      → ((x : A) (rest : List ℕ) → Fit x → item_at (row x ++ rest) ≡ Ok (x, rest))
      → (items : List A) (rest : List ℕ) → AllByRecursion Fit items → items_at item_at (length items) (flat_map row items ++ rest) ≡ Ok (items, rest)
  unfolding items_at
  items_again item_at row Fit one [] rest fits = refl
  items_again item_at row Fit one (x ∷ items) rest fits =
      let regrouped : flat_map row (x ∷ items) ++ rest ≡ row x ++ (flat_map row items ++ rest) = append_assoc (row x) (flat_map row items) rest in
      ap (items_at item_at (suc (length items))) regrouped ∙ rw (one x (flat_map row items ++ rest) fits.0, items_again item_at row Fit one items rest fits.1) refl

  pub vector_again : {A : Type 0} (item_at : List ℕ → Result (A × List ℕ) TlFault) (row : A → List ℕ) (Fit : A → Type 0)
      → ((x : A) (rest : List ℕ) → Fit x → item_at (row x ++ rest) ≡ Ok (x, rest))
      → (items : List A) (rest : List ℕ) → length items < 2 ^ 32 → AllByRecursion Fit items → vector_at item_at ((spelling Int (length items) ++ flat_map row items) ++ rest) ≡ Ok (items, rest)
  unfolding vector_at
  vector_again item_at row Fit one items rest few fits =
      let regrouped = append_assoc (spelling Int (length items)) (flat_map row items) rest in
      ap (vector_at item_at) regrouped ∙ rw (value_again Int (length items) (flat_map row items ++ rest) few) (items_again item_at row Fit one items rest fits)

  fields_again : (fields : List Field) (item : Makes fields) (values : Values fields) → is_last fields ≡ true → FieldsFit fields values → fields_at fields item (fields_spelling fields values) ≡ Ok (made fields item values, [])
  fields_again [] item values last fits = refl
  fields_again (Plain form ∷ fields) item values last fits = rw (value_again form values.0 (fields_spelling fields values.1) fits.0) (fields_again fields (item values.0) values.1 last fits.1)
  fields_again (Rest ∷ []) item values last fits = ap (λ (x : List ℕ). Ok (item x, [])) (append-nil values.0)
  fields_again (Rest ∷ field ∷ fields) item values last fits = absurd cc
  fields_again (Salts ∷ fields) item values last fits = rw (vector_again salt_at salt_row SaltFits salt_again values.0 (fields_spelling fields values.1) fits.0.0 fits.0.1) (fields_again fields (item values.0) values.1 last fits.1)
  fields_again (Bodies ∷ fields) item values last fits = rw (vector_again message_at message_row MessageFits message_again values.0 (fields_spelling fields values.1) fits.0.0 fits.0.1) (fields_again fields (item values.0) values.1 last fits.1)

  -- an item of a row
  filled_again : (of : Filled) → IsRow of.row → FieldsFit of.row.fields of.values → item_of (filled_spelling (Some of)) ≡ made of.row.fields of.row.item of.values
  filled_again of row fits =
      let text = fields_spelling of.row.fields of.values in
      let read = value_again Int of.row.number text (ltb-true _ _ row.small) in
      let found : item_in schema of.row.number text ≡ Ok (Some (made of.row.fields of.row.item of.values), []) =
      row.found text ∙ rw (fields_again of.row.fields of.row.item of.values row.last fits) refl in
      rw (read, row.other, found) refl

  item_in_again : (item : Item) (of : Option Filled) → StandsIn item of → FilledFits of → item_of (filled_spelling of) ≡ item
  item_in_again item (Some of) stands fits = filled_again of stands.row fits ∙ stands.same
  item_in_again item None stands fits = absurd fits

  pub item_again : (item : Item) → ItemFits item → item_of (spelling_of item) ≡ item
  item_again item fits = item_in_again item (filled item) (stands item) fits
