-- The rows of the schema: each is found by its number, and an item is made by one of them.
use Rattle.std.proofs.Common.{◌≡◌, ℕ, Bool, true, false, cond, eqb, ltb, List, [], ◌∷◌, Option, Some, None, Result, Ok, refl, eq-eqb, rules}
use Rattle.std.specs.Prelude.{⊤}
use Rattle.std.specs.List.{AllByRecursion}
use Rattle.tl_codec.specs.declared.fault.TlFault.{TlFault}
use Rattle.tl_codec.specs.Reading.{◌>>=◌}
use Rattle.service_tl.specs.declared.item.Item.{Item}
use Rattle.service_tl.specs.declared.item.Item.TheVariants.{Packed, Call, Broken}
use Rattle.service_tl.specs.Fields.{Field, Plain, Rest, Salts, Bodies}
use Rattle.service_tl.specs.Schema.{Row, schema, gzip_packed, fields_at, item_in}
use Rattle.service_tl.specs.Items.{Values, made, Filled, of, filled, FieldsFit, ItemFits}

-- the rest of a body is its last field
abbrev pub is_last : List Field → Bool
is_last [] = true
is_last (Rest ∷ []) = true
is_last (Rest ∷ field ∷ fields) = false
is_last (Plain form ∷ fields) = is_last fields
is_last (Salts ∷ fields) = is_last fields
is_last (Bodies ∷ fields) = is_last fields

-- what the fields of a row give
abbrev pub row_at : Row → List ℕ → Result (Option Item × List ℕ) TlFault
row_at row text = fields_at row.fields row.item text >>= λ x. Ok (Some x.0, x.1)

abbrev pub IsPlaced : List Row → Row → Type 0
IsPlaced rows row = (text : List ℕ) → item_in rows row.number text ≡ row_at row text

-- what a proof needs of a row
abbrev pub is_proper : Row → Bool
is_proper row = cond (ltb row.number 4294967296) (cond (eqb row.number gzip_packed) false (is_last row.fields)) false

pub record IsRow (row : Row) : Type 0 where
  pub small : ltb row.number 4294967296 ≡ true
  pub other : eqb row.number gzip_packed ≡ false
  pub last : is_last row.fields ≡ true
  pub found : IsPlaced schema row

-- ---- each row is found, since no number stands twice

is_apart : ℕ → List Row → Bool
is_apart number [] = true
is_apart number (row ∷ rows) = cond (eqb row.number number) false (is_apart number rows)

are_apart : List Row → Bool
are_apart [] = true
are_apart (row ∷ rows) = cond (is_apart row.number rows) (are_apart rows) false

are_proper : List Row → Bool
are_proper [] = true
are_proper (row ∷ rows) = cond (is_proper row) (are_proper rows) false

unless : (test value : Bool) → cond test false value ≡ true → (test ≡ false) × (value ≡ true)
unless true value e = absurd cc
unless false value e = (refl, e)

both : (test value : Bool) → cond test value false ≡ true → (test ≡ true) × (value ≡ true)
both true value e = (refl, e)
both false value e = absurd cc

placed_after : (first : Row) (rows others : List Row) → is_apart first.number others ≡ true → AllByRecursion (IsPlaced rows) others → AllByRecursion (IsPlaced (first ∷ rows)) others
unfolding is_apart
placed_after first rows [] apart placed = tt
placed_after first rows (row ∷ others) apart placed =
    let parts = unless (eqb row.number first.number) (is_apart first.number others) apart in
    ((λ text. rw parts.0 (placed.0 text)), placed_after first rows others parts.1 placed.1)

each_placed : (rows : List Row) → are_apart rows ≡ true → AllByRecursion (IsPlaced rows) rows
unfolding are_apart
each_placed [] apart = tt
each_placed (row ∷ rows) apart =
    let parts = both (is_apart row.number rows) (are_apart rows) apart in
    ((λ text. rw (eq-eqb row.number row.number refl) refl), placed_after row rows rows parts.0 (each_placed rows parts.1))

each_proper : (rows : List Row) → are_proper rows ≡ true → AllByRecursion (IsPlaced schema) rows → AllByRecursion IsRow rows
unfolding are_proper
each_proper [] proper placed = tt
each_proper (row ∷ rows) proper placed =
    let parts = both (is_proper row) (are_proper rows) proper in
    let small = both (ltb row.number 4294967296) (cond (eqb row.number gzip_packed) false (is_last row.fields)) parts.0 in
    let last = unless (eqb row.number gzip_packed) (is_last row.fields) small.1 in
    (record { small = small.0; other = last.0; last = last.1; found = placed.0 }, each_proper rows parts.1 placed.1)

pub each_row : AllByRecursion IsRow schema
unfolding schema are_apart is_apart are_proper
each_row = each_proper schema refl (each_placed schema refl)

-- a fact of each row that follows from being one
pub of_rows : (P : Row → Type 0) → ((row : Row) → IsRow row → P row) → (rows : List Row) → AllByRecursion IsRow rows → AllByRecursion P rows
of_rows P fact [] each = tt
of_rows P fact (row ∷ rows) each = (fact row each.0, of_rows P fact rows each.1)

-- ---- an item is made by the row that it is said to be of

pub record Stands (item : Item) (of : Filled) : Type 0 where
  pub row : IsRow of.row
  pub same : made of.row.fields of.row.item of.values ≡ item

abbrev pub StandsIn : Item → Option Filled → Type 0
StandsIn item (Some of) = Stands item of
StandsIn item None = ⊤

pub stands : (item : Item) → StandsIn item (filled item)
unfolding schema
stands Packed = tt
stands Call = tt
stands (Broken number) = tt
stands item = record { row = record { small = refl; other = refl; last = refl; found = λ text. refl }; same = refl }

-- and the item that a row makes of fitting values fits
abbrev pub MakesFit : Row → Type 0
MakesFit row = (values : Values row.fields) → FieldsFit row.fields values → ItemFits (made row.fields row.item values)

pub each_fit : AllByRecursion MakesFit schema
unfolding schema
each_fit = search rules
