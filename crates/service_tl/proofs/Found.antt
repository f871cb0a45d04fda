-- What is read of a text is what the text is.
use Rattle.std.proofs.Common.{◌≡◌, ℕ, zero, suc, ◌+◌, ◌^◌, ◌<◌, Bool, true, false, cond, eqb, inl, inr, List, [], ◌∷◌, ◌++◌, length, drop, Option, Some, None, Result, Ok, Err, refl, sym, ap, subst, ◌∙◌, append_assoc, arith}
use Rattle.std.specs.List.{flat_map, AllByRecursion}
use Rattle.std.proofs.lemmas.Bool.{ne_eqb, ltb-true}
use Rattle.std.proofs.lemmas.List.{append-nil, drop_at, get_or-drop}
use Rattle.tl_codec.specs.declared.fault.TlFault.{TlFault}
use Rattle.octets.specs.Bytes.{IsBytes}
use Rattle.tl_codec.specs.Spelling.{Form, Int, Long, Raw, Bytes, Longs, Truth, Tag, Of, Fits, Spells, Reads, spelling}
use Rattle.tl_codec.specs.Reading.{◌>>=◌, Takes, read_at}
use Rattle.service_tl.specs.declared.item.Item.{Item}
use Rattle.service_tl.specs.declared.item.Item.TheVariants.{Packed, Broken}
use Rattle.service_tl.specs.declared.lists.FutureSalt.{FutureSalt}
use Rattle.service_tl.specs.declared.lists.Message.{Message}
use Rattle.service_tl.specs.Fields.{Field, Plain, Rest, Salts, Bodies, Holds, FieldFits, field_spelling, MessageFits, salt_row, message_row, salt_at, message_at, items_at, vector_at, field_at}
use Rattle.service_tl.specs.Sizes.{SaltFits}
use Rattle.service_tl.specs.Schema.{Makes, Row, schema, gzip_packed, fields_at, item_in}
use Rattle.service_tl.specs.Items.{Values, made, Filled, filled, FieldsFit, FilledFits, ItemFits, IsShort, AreShort, FilledIsWritable, IsWritable, IsOfSchema}
use Rattle.service_tl.specs.ItemOf.{whole, item_behind, item_after, item_of}
use Rattle.service_tl.specs.Exact.{ReadsField, ReadsFields, IsBroken}
use Rattle.service_tl.proofs.Table.{IsRow, of_rows, each_row, MakesFit, each_fit}
use Rattle.service_tl.proofs.Again.{value_again}

-- the value of a step that did not fail
bind_ok : {A B : Type 0} (r : Result A TlFault) (f : A → Result B TlFault) (y : B) → (r >>= f) ≡ Ok y → (x : A) × (r ≡ Ok x) × (f x ≡ Ok y)
bind_ok (Ok x) f y e = (x, refl, e)
bind_ok (Err d) f y e = absurd cc

ok_is : {A : Type 0} (x y : A) → ◌≡◌ {A = Result A TlFault} (Ok x) (Ok y) → x ≡ y
ok_is x y e = cc

IsBytes-after : (text front rest : List ℕ) → text ≡ front ++ rest → IsBytes text → IsBytes rest
IsBytes-after text front rest e fits =
    let same : drop (length front) text ≡ rest = ap (drop (length front)) e ∙ drop_at front rest (length front) refl in
    subst IsBytes same (λ i. rw get_or-drop (fits (length front + i)))

-- what was read from the front
record Found (fit : Type 0) (text front rest : List ℕ) : Type 0 where
  fits : fit
  parts : text ≡ front ++ rest
  after : IsBytes rest

then : (a x b y c : List ℕ) → a ≡ x ++ b → b ≡ y ++ c → a ≡ (x ++ y) ++ c
then a x b y c p q = p ∙ ap (λ (t : List ℕ). x ++ t) q ∙ sym (append_assoc x y c)

-- whether a read to the end is an item
verdict : (number : ℕ) (read : Result (Item × List ℕ) TlFault) → ((item : Item) → read ≡ Ok (item, []) → ⊥) → whole number (read >>= λ x. Ok (Some x.0, x.1)) ≡ Broken number
verdict number (Ok (item, [])) none = absurd (none item refl)
verdict number (Ok (item, byte ∷ rest)) none =
    let more : eqb (suc (length rest)) 0 ≡ false = ne_eqb _ _ (λ same. omega arith) in
    rw more refl
verdict number (Err fault) none = refl

-- a value that was read fits
reads_fits : (form : Form) (value : Of form) (text : List ℕ) → Reads form value text → Fits form value
reads_fits Int value text reads = reads.0
reads_fits Long value text reads = reads.0
reads_fits (Raw size) value text reads = reads.0
reads_fits Bytes value text reads = elim reads.2 [ inl short ↦ omega (arith, short.0) | inr long ↦ long.0 ]
reads_fits Longs value text reads = reads.0
reads_fits Truth value text reads = reads.0
reads_fits (Tag number) value text reads = reads.0

-- a value that fits isn't too long
short_fit : (field : Field) (value : Holds field) → FieldFits field value → IsShort field value
short_fit (Plain Bytes) value fits = fits
short_fit (Plain Longs) value fits = fits.0
short_fit (Plain Int) value fits = tt
short_fit (Plain Long) value fits = tt
short_fit (Plain (Raw size)) value fits = tt
short_fit (Plain Truth) value fits = tt
short_fit (Plain (Tag number)) value fits = tt
short_fit Rest value fits = tt
short_fit Salts value fits = tt
short_fit Bodies value fits = tt

fields_short : (fields : List Field) (values : Values fields) → FieldsFit fields values → AreShort fields values
fields_short [] values fits = tt
fields_short (field ∷ fields) values fits = (short_fit field values.0 fits.0, fields_short fields values.1 fits.1)

filled_short : (of : Option Filled) → FilledFits of → FilledIsWritable of
filled_short (Some of) fits = fields_short of.row.fields of.values fits
filled_short None fits = fits

pub fits_writable : (item : Item) → ItemFits item → IsWritable item
fits_writable item fits = filled_short (filled item) fits

-- ---- whether an item that was read fits

abbrev FitsIfRead : Item → Type 0
FitsIfRead item = IsOfSchema item → ItemFits item

read_fits : (number : ℕ) (read : Result (Item × List ℕ) TlFault) → ((x : Item) → read ≡ Ok (x, []) → FitsIfRead x) → FitsIfRead (whole number (read >>= λ x. Ok (Some x.0, x.1)))
read_fits number (Ok (item, [])) fits of_schema = fits item refl of_schema
read_fits number (Ok (item, byte ∷ rest)) fits of_schema =
    let more : eqb (suc (length rest)) 0 ≡ false = ne_eqb _ _ (λ same. omega arith) in
    absurd (rw more at of_schema)
read_fits number (Err fault) fits of_schema = absurd of_schema

chosen_fits : (test : Bool) (number : ℕ) (read : Result (Item × List ℕ) TlFault) (others : Result (Option Item × List ℕ) TlFault)
    → ((x : Item) → read ≡ Ok (x, []) → FitsIfRead x) → FitsIfRead (whole number others) → FitsIfRead (whole number (cond test (read >>= λ x. Ok (Some x.0, x.1)) others))
chosen_fits true number read others fits next = read_fits number read fits
chosen_fits false number read others fits next = next

packed_or : (test : Bool) (item : Item) → FitsIfRead item → FitsIfRead (cond test Packed item)
packed_or true item fits of_schema = absurd of_schema
packed_or false item fits of_schema = fits of_schema

behind_fits : (number : ℕ) (text : List ℕ) → FitsIfRead (whole number (item_in schema number text)) → FitsIfRead (item_behind number text)
behind_fits number text fits = packed_or (eqb number gzip_packed) (whole number (item_in schema number text)) fits

after_fits : (read : Result (ℕ × List ℕ) TlFault) → ((number : ℕ) (text : List ℕ) → read ≡ Ok (number, text) → FitsIfRead (item_behind number text)) → FitsIfRead (item_after read)
after_fits (Ok (number, text)) fits of_schema = fits number text refl of_schema
after_fits (Err fault) fits of_schema = absurd of_schema

module _ (again : (form : Form) (value : Of form) (text rest : List ℕ) → Spells form value text → read_at form (text ++ rest) ≡ Ok (value, rest)) (taken : (form : Form) (value : Of form) (text rest : List ℕ) → IsBytes text → read_at form text ≡ Ok (value, rest) → Takes form value text rest) where
  int_found : (value : ℕ) (text rest : List ℕ) → IsBytes text → read_at Int text ≡ Ok (value, rest) → Found (value < 2 ^ 32) text (spelling Int value) rest
  int_found value text rest bytes e =
      let t = taken Int value text rest bytes e in
      let parts : text ≡ spelling Int value ++ rest = t.2 ∙ ap (λ (x : List ℕ). x ++ rest) t.1.1 in
      record { fits = t.1.0; parts = parts; after = IsBytes-after text (spelling Int value) rest parts bytes }

  long_found : (value : ℕ) (text rest : List ℕ) → IsBytes text → read_at Long text ≡ Ok (value, rest) → Found (value < 2 ^ 64) text (spelling Long value) rest
  long_found value text rest bytes e =
      let t = taken Long value text rest bytes e in
      let parts : text ≡ spelling Long value ++ rest = t.2 ∙ ap (λ (x : List ℕ). x ++ rest) t.1.1 in
      record { fits = t.1.0; parts = parts; after = IsBytes-after text (spelling Long value) rest parts bytes }

  raw_found : (size : ℕ) (value text rest : List ℕ) → IsBytes text → read_at (Raw size) text ≡ Ok (value, rest) → Found (length value ≡ size) text value rest
  unfolding spelling
  raw_found size value text rest bytes e =
      let t = taken (Raw size) value text rest bytes e in
      let parts : text ≡ value ++ rest = t.2 ∙ ap (λ (x : List ℕ). x ++ rest) t.1.1 in
      record { fits = t.1.0; parts = parts; after = IsBytes-after text value rest parts bytes }

  salt_found : (text : List ℕ) (row : FutureSalt) (rest : List ℕ) → IsBytes text → salt_at text ≡ Ok (row, rest) → Found (SaltFits row) text (salt_row row) rest
  unfolding salt_at
  salt_found text row rest bytes e =
      let a = bind_ok (read_at Int text) (λ since. read_at Int since.1 >>= λ until. read_at Long until.1 >>= λ salt. Ok (record { valid_since = since.0; valid_until = until.0; salt = salt.0 }, salt.1)) (row, rest) e in
      let b = bind_ok (read_at Int a.0.1) (λ until. read_at Long until.1 >>= λ salt. Ok (record { valid_since = a.0.0; valid_until = until.0; salt = salt.0 }, salt.1)) (row, rest) a.2 in
      let d = bind_ok (read_at Long b.0.1) (λ salt. Ok (record { valid_since = a.0.0; valid_until = b.0.0; salt = salt.0 }, salt.1)) (row, rest) b.2 in
      let since = int_found a.0.0 text a.0.1 bytes a.1 in
      let until = int_found b.0.0 a.0.1 b.0.1 since.after b.1 in
      let salt = long_found d.0.0 b.0.1 d.0.1 until.after d.1 in
      let value : FutureSalt = record { valid_since = a.0.0; valid_until = b.0.0; salt = d.0.0 } in
      let tail = then a.0.1 (spelling Int b.0.0) b.0.1 (spelling Long d.0.0) d.0.1 until.parts salt.parts in
      let whole : text ≡ salt_row value ++ d.0.1 = then text (spelling Int a.0.0) a.0.1 (spelling Int b.0.0 ++ spelling Long d.0.0) d.0.1 since.parts tail in
      let read : FutureSalt × List ℕ = (value, d.0.1) in
      let found : Found (SaltFits read.0) text (salt_row read.0) read.1 = record { fits = (since.fits, until.fits, salt.fits); parts = whole; after = salt.after } in
      subst (λ (p : FutureSalt × List ℕ). Found (SaltFits p.0) text (salt_row p.0) p.1) {x = read} (ok_is read (row, rest) d.2) found

  message_found : (text : List ℕ) (message : Message) (rest : List ℕ) → IsBytes text → message_at text ≡ Ok (message, rest) → Found (MessageFits message) text (message_row message) rest
  unfolding message_at
  message_found text message rest bytes e =
      let a = bind_ok (read_at Long text) (λ number. read_at Int number.1 >>= λ seq. read_at Int seq.1 >>= λ size. read_at (Raw size.0) size.1 >>= λ body. Ok (record { number = number.0; seq = seq.0; body = body.0 }, body.1)) (message, rest) e in
      let b = bind_ok (read_at Int a.0.1) (λ seq. read_at Int seq.1 >>= λ size. read_at (Raw size.0) size.1 >>= λ body. Ok (record { number = a.0.0; seq = seq.0; body = body.0 }, body.1)) (message, rest) a.2 in
      let d = bind_ok (read_at Int b.0.1) (λ size. read_at (Raw size.0) size.1 >>= λ body. Ok (record { number = a.0.0; seq = b.0.0; body = body.0 }, body.1)) (message, rest) b.2 in
      let g = bind_ok (read_at (Raw d.0.0) d.0.1) (λ body. Ok (record { number = a.0.0; seq = b.0.0; body = body.0 }, body.1)) (message, rest) d.2 in
      let number = long_found a.0.0 text a.0.1 bytes a.1 in
      let seq = int_found b.0.0 a.0.1 b.0.1 number.after b.1 in
      let size = int_found d.0.0 b.0.1 d.0.1 seq.after d.1 in
      let body = raw_found d.0.0 g.0.0 d.0.1 g.0.1 size.after g.1 in
      let value : Message = record { number = a.0.0; seq = b.0.0; body = g.0.0 } in
      let len : d.0.0 ≡ length g.0.0 = sym body.fits in
      let sized : b.0.1 ≡ spelling Int (length g.0.0) ++ d.0.1 = size.parts ∙ ap (λ (n : ℕ). spelling Int n ++ d.0.1) len in
      let tail = then b.0.1 (spelling Int (length g.0.0)) d.0.1 g.0.0 g.0.1 sized body.parts in
      let middle = then a.0.1 (spelling Int b.0.0) b.0.1 (spelling Int (length g.0.0) ++ g.0.0) g.0.1 seq.parts tail in
      let whole : text ≡ message_row value ++ g.0.1 = then text (spelling Long a.0.0) a.0.1 (spelling Int b.0.0 ++ (spelling Int (length g.0.0) ++ g.0.0)) g.0.1 number.parts middle in
      let read : Message × List ℕ = (value, g.0.1) in
      let short : length g.0.0 < 2 ^ 32 = subst (λ (n : ℕ). n < 2 ^ 32) len size.fits in
      let found : Found (MessageFits read.0) text (message_row read.0) read.1 = record { fits = (number.fits, seq.fits, short); parts = whole; after = body.after } in
      subst (λ (p : Message × List ℕ). Found (MessageFits p.0) text (message_row p.0) p.1) {x = read} (ok_is read (message, rest) g.2) found

  module _ {A : Type 0} (item_at : List ℕ → Result (A × List ℕ) TlFault) (row : A → List ℕ) (Fit : A → Type 0) (one : (text : List ℕ) (x : A) (rest : List ℕ) → IsBytes text → item_at text ≡ Ok (x, rest) → Found (Fit x) text (row x) rest) where
    items_found : (count : ℕ) (text : List ℕ) (items : List A) (rest : List ℕ) → IsBytes text → items_at item_at count text ≡ Ok (items, rest) → Found ((length items ≡ count) × AllByRecursion Fit items) text (flat_map row items) rest
    unfolding items_at
    items_found zero text items rest bytes e =
        let read : List A × List ℕ = ([], text) in
        let found : Found ((length read.0 ≡ 0) × AllByRecursion Fit read.0) text (flat_map row read.0) read.1 = record { fits = (refl, tt); parts = refl; after = bytes } in
        subst (λ (p : List A × List ℕ). Found ((length p.0 ≡ 0) × AllByRecursion Fit p.0) text (flat_map row p.0) p.1) {x = read} (ok_is read (items, rest) e) found
    items_found (suc count) text items rest bytes e =
        let a = bind_ok (item_at text) (λ first. items_at item_at count first.1 >>= λ others. Ok (first.0 ∷ others.0, others.1)) (items, rest) e in
        let b = bind_ok (items_at item_at count a.0.1) (λ others. Ok (a.0.0 ∷ others.0, others.1)) (items, rest) a.2 in
        let first = one text a.0.0 a.0.1 bytes a.1 in
        let others = items_found count a.0.1 b.0.0 b.0.1 first.after b.1 in
        let read : List A × List ℕ = (a.0.0 ∷ b.0.0, b.0.1) in
        let found : Found ((length read.0 ≡ suc count) × AllByRecursion Fit read.0) text (flat_map row read.0) read.1 = record { fits = (ap suc others.fits.0, (first.fits, others.fits.1)); parts = then text (row a.0.0) a.0.1 (flat_map row b.0.0) b.0.1 first.parts others.parts; after = others.after } in
        subst (λ (p : List A × List ℕ). Found ((length p.0 ≡ suc count) × AllByRecursion Fit p.0) text (flat_map row p.0) p.1) {x = read} (ok_is read (items, rest) b.2) found

    vector_found : (text : List ℕ) (items : List A) (rest : List ℕ) → IsBytes text → vector_at item_at text ≡ Ok (items, rest) → Found ((length items < 2 ^ 32) × AllByRecursion Fit items) text (spelling Int (length items) ++ flat_map row items) rest
    unfolding vector_at
    vector_found text items rest bytes e =
        let a = bind_ok (read_at Int text) (λ count. items_at item_at count.0 count.1) (items, rest) e in
        let count = int_found a.0.0 text a.0.1 bytes a.1 in
        let all = items_found a.0.0 a.0.1 items rest count.after a.2 in
        let len : a.0.0 ≡ length items = sym all.fits.0 in
        let counted : text ≡ spelling Int (length items) ++ a.0.1 = count.parts ∙ ap (λ (n : ℕ). spelling Int n ++ a.0.1) len in
        record { fits = (subst (λ (n : ℕ). n < 2 ^ 32) len count.fits, all.fits.1); parts = then text (spelling Int (length items)) a.0.1 (flat_map row items) rest counted all.parts; after = all.after }

  -- a field that was read is a front of the text, and its value fits
  field_found : (field : Field) (text : List ℕ) (value : Holds field) (rest : List ℕ) → IsBytes text → field_at field text ≡ Ok (value, rest) → (front : List ℕ) × ReadsField field value front × (text ≡ front ++ rest) × IsBytes rest × FieldFits field value
  field_found (Plain form) text value rest bytes e =
      let t = taken form value text rest bytes e in (t.0, t.1, t.2, IsBytes-after text t.0 rest t.2 bytes, reads_fits form value t.0 t.1)
  field_found Rest text value rest bytes e =
      let same = ok_is {A = List ℕ × List ℕ} (text, []) (value, rest) e in
      subst (λ (p : List ℕ × List ℕ). (front : List ℕ) × ReadsField Rest p.0 front × (text ≡ front ++ p.1) × IsBytes p.1 × FieldFits Rest p.0) same (text, refl, sym (append-nil text), (λ i. omega arith), tt)
  field_found Salts text value rest bytes e =
      let found = vector_found salt_at salt_row SaltFits salt_found text value rest bytes e in
      (field_spelling Salts value, (found.fits, refl), found.parts, found.after, found.fits)
  field_found Bodies text value rest bytes e =
      let found = vector_found message_at message_row MessageFits message_found text value rest bytes e in
      (field_spelling Bodies value, (found.fits, refl), found.parts, found.after, found.fits)

  -- fields that were read are the text, fit, and made the item
  fields_found : (fields : List Field) (item : Makes fields) (text : List ℕ) (x : Item) → IsBytes text → fields_at fields item text ≡ Ok (x, []) → (values : Values fields) × ReadsFields fields values text × FieldsFit fields values × (made fields item values ≡ x)
  fields_found [] item text x bytes e =
      let same = ok_is {A = Item × List ℕ} (item, text) (x, []) e in
      (tt, ap (λ (p : Item × List ℕ). p.1) same, tt, ap (λ (p : Item × List ℕ). p.0) same)
  fields_found (field ∷ fields) item text x bytes e =
      let a = bind_ok (field_at field text) (λ value. fields_at fields (item value.0) value.1) (x, []) e in
      let first = field_found field text a.0.0 a.0.1 bytes a.1 in
      let others = fields_found fields (item a.0.0) a.0.1 x first.3 a.2 in
      ((a.0.0, others.0), (first.0, a.0.1, first.1, others.1, first.2), (first.4, others.2), others.3)

  pub row_broken : (row : Row) → IsRow row → IsBroken row
  row_broken row is text bytes none =
      let read = value_again again Int row.number text (ltb-true _ _ is.small) in
      let not_read : (x : Item) → fields_at row.fields row.item text ≡ Ok (x, []) → ⊥ = λ x e. let found = fields_found row.fields row.item text x bytes e in none found.0 found.1 in
      let broken = ap (whole row.number) (is.found text) ∙ verdict row.number (fields_at row.fields row.item text) not_read in
      rw (read, is.other) broken

  pub each_broken : AllByRecursion IsBroken schema
  each_broken = of_rows IsBroken row_broken schema each_row

  -- ---- what was read fits

  IsBytes-read : (body : List ℕ) (number : ℕ) (text : List ℕ) → IsBytes body → read_at Int body ≡ Ok (number, text) → IsBytes text
  IsBytes-read body number text bytes e = let found = int_found number body text bytes e in found.after

  row_fits : (row : Row) → MakesFit row → (text : List ℕ) → IsBytes text → (x : Item) → fields_at row.fields row.item text ≡ Ok (x, []) → FitsIfRead x
  row_fits row makes text bytes x e of_schema =
      let found = fields_found row.fields row.item text x bytes e in
      subst ItemFits found.3 (makes found.0 found.2)

  rows_fit : (rows : List Row) → AllByRecursion MakesFit rows → (number : ℕ) (text : List ℕ) → IsBytes text → FitsIfRead (whole number (item_in rows number text))
  rows_fit [] makes number text bytes of_schema = absurd of_schema
  rows_fit (row ∷ rows) makes number text bytes of_schema =
      chosen_fits (eqb number row.number) number (fields_at row.fields row.item text) (item_in rows number text) (row_fits row makes.0 text bytes) (rows_fit rows makes.1 number text bytes) of_schema

  pub body_fits : (body : List ℕ) → IsBytes body → FitsIfRead (item_of body)
  body_fits body bytes =
      after_fits (read_at Int body) (λ number text e. behind_fits number text (rows_fit schema each_fit number text (IsBytes-read body number text bytes e)))
