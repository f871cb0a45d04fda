-- Rows of the schema, tried one family after the other.
use Rattle.std.proofs.Common.{◌≡◌, ℕ, Bool, true, false, cond, eqb, List, [], ◌∷◌, ◌++◌, Option, Some, None, Result, Ok, Err, sym, ap, subst, ◌∙◌}
use Rattle.tl_codec.specs.declared.fault.TlFault.{TlFault}
use Rattle.tl_codec.specs.declared.fault.TlFault.TheVariants.{Short, BadTag, TooMany, Extra, Memory}
use Rattle.tl_codec.specs.Reading.{◌>>=◌}
use Rattle.service_tl.specs.declared.item.Item.{Item}
use Rattle.service_tl.specs.Schema.{Row, fields_at, item_in}
use Rattle.service_tl.specs.Parts.{Answers}

some_item : Result (Item × List ℕ) TlFault → Result (Option Item × List ℕ) TlFault
some_item read = read >>= λ item. Ok (Some item.0, item.1)

not_some : (item : Item) (text new : List ℕ) → ◌≡◌ {A = Result (Option Item × List ℕ) TlFault} (Ok (Some item, text)) (Ok (None, new)) → ⊥
not_some item text new e =
    let pair : ◌≡◌ {A = Option Item × List ℕ} (Some item, text) (None, new) = cc in
    let option : ◌≡◌ {A = Option Item} (Some item) None = ap (λ (p : Option Item × List ℕ). p.0) pair in
    absurd cc

-- a row that was taken gave an item
taken : (read : Result (Item × List ℕ) TlFault) (new : List ℕ) → some_item read ≡ Ok (None, new) → ⊥
unfolding some_item
taken (Ok item) new e = not_some item.0 item.1 new e
taken (Err fault) new e = absurd cc

-- a family without the constructor leaves the text to the next
passes_row : (test : Bool) (read : Result (Item × List ℕ) TlFault) (others all : Result (Option Item × List ℕ) TlFault) (new : List ℕ) (next : Result (Option Item × List ℕ) TlFault)
    → (others ≡ Ok (None, new) → all ≡ next) → cond test (some_item read) others ≡ Ok (None, new) → cond test (some_item read) all ≡ next
passes_row true read others all new next go e = absurd (taken read new e)
passes_row false read others all new next go e = go e

same_text : (text new : List ℕ) (rows : List Row) (number : ℕ) → ◌≡◌ {A = Result (Option Item × List ℕ) TlFault} (Ok (None, text)) (Ok (None, new)) → item_in rows number text ≡ item_in rows number new
same_text text new rows number e =
    let pair : ◌≡◌ {A = Option Item × List ℕ} (None, text) (None, new) = cc in
    ap (λ (p : Option Item × List ℕ). item_in rows number p.1) pair

pub passes : (first others : List Row) (number : ℕ) (text new : List ℕ) → item_in first number text ≡ Ok (None, new) → item_in (first ++ others) number text ≡ item_in others number new
unfolding some_item
passes [] others number text new e = same_text text new others number e
passes (row ∷ rows) others number text new e =
    passes_row (eqb number row.number) (fields_at row.fields row.item text) (item_in rows number text) (item_in (rows ++ others) number text) new (item_in others number new) (passes rows others number text new) e

-- what a family found or met is what the rows from it on give
stops_row : (test : Bool) (read others all given : Result (Option Item × List ℕ) TlFault) → (others ≡ given → all ≡ given) → cond test read others ≡ given → cond test read all ≡ given
stops_row true read others all given go e = e
stops_row false read others all given go e = go e

pub finds : (first others : List Row) (number : ℕ) (text : List ℕ) (item : Item) (new : List ℕ) → item_in first number text ≡ Ok (Some item, new) → item_in (first ++ others) number text ≡ Ok (Some item, new)
finds [] others number text item new e = absurd (not_some item new text (sym e))
finds (row ∷ rows) others number text item new e =
    stops_row (eqb number row.number) (fields_at row.fields row.item text >>= λ x. Ok (Some x.0, x.1)) (item_in rows number text) (item_in (rows ++ others) number text) (Ok (Some item, new)) (finds rows others number text item new) e

meets : (first others : List Row) (number : ℕ) (text : List ℕ) (fault : TlFault) → item_in first number text ≡ Err fault → item_in (first ++ others) number text ≡ Err fault
meets [] others number text fault e = absurd cc
meets (row ∷ rows) others number text fault e =
    stops_row (eqb number row.number) (fields_at row.fields row.item text >>= λ x. Ok (Some x.0, x.1)) (item_in rows number text) (item_in (rows ++ others) number text) (Err fault) (meets rows others number text fault) e

pub ends : (first others : List Row) (number : ℕ) (text new : List ℕ) (fault : TlFault) → Answers {X = Option Item} (Err fault) new (item_in first number text) → Answers {X = Option Item} (Err fault) new (item_in (first ++ others) number text)
ends first others number text new Memory e = tt
ends first others number text new (Short need have) e = meets first others number text (Short need have) e
ends first others number text new (BadTag found) e = meets first others number text (BadTag found) e
ends first others number text new (TooMany count) e = meets first others number text (TooMany count) e
ends first others number text new (Extra bytes) e = meets first others number text (Extra bytes) e

-- ---- a walk through the families: all is what the rows from here on give

module _ (all : Result (Option Item × List ℕ) TlFault) (first others : List Row) (number : ℕ) (text : List ℕ) (so_far : all ≡ item_in (first ++ others) number text) where
  pub goes_past : (found : Option Item) (new : List ℕ) → item_in first number text ≡ Ok (found, new) → found ≡ None → all ≡ item_in others number new
  goes_past found new e none = so_far ∙ passes first others number text new (e ∙ ap (λ (option : Option Item). Ok (option, new)) none)

  pub finds_here : (found : Option Item) (item : Item) (new : List ℕ) → item_in first number text ≡ Ok (found, new) → found ≡ Some item → all ≡ Ok (Some item, new)
  finds_here found item new e some = so_far ∙ finds first others number text item new (e ∙ ap (λ (option : Option Item). Ok (option, new)) some)

  pub ends_here : (fault : TlFault) (new : List ℕ) → Answers {X = Option Item} (Err fault) new (item_in first number text) → Answers {X = Option Item} (Err fault) new all
  ends_here fault new e = subst (Answers {X = Option Item} (Err fault) new) (sym so_far) (ends first others number text new fault e)
