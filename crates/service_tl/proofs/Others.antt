-- Bodies that begin with no row's constructor.
use Rattle.std.proofs.Common.{◌≡◌, ℕ, suc, ◌^◌, ◌<◌, true, false, ltb, eqb, List, [], ◌∷◌, ◌++◌, length, map, Contains, None, Ok, refl, sym, subst, arith}
use Rattle.std.proofs.lemmas.Bool.{lt-ltb, ne_eqb}
use Rattle.std.proofs.lemmas.List.{length-append, get_or_at, get_or_append_left}
use Rattle.tl_codec.specs.Spelling.{Form, Int, Of, Spells}
use Rattle.tl_codec.specs.Reading.{read_at, number_at}
use Rattle.service_tl.specs.declared.item.Item.TheVariants.{Packed, Call}
use Rattle.service_tl.specs.Schema.{Row, schema, gzip_packed, service_numbers, item_in}
use Rattle.service_tl.specs.ItemOf.{item_of}
use Rattle.service_tl.specs.Exact.{behind}
use Rattle.service_tl.proofs.Again.{value_again}

held_further : (first : ℕ) (numbers : List ℕ) (number : ℕ) → Contains numbers number → Contains (first ∷ numbers) number
held_further first numbers number held = (suc held.0, omega (arith, held.1), held.2)

held_before : (numbers others : List ℕ) (number : ℕ) → Contains numbers number → Contains (numbers ++ others) number
held_before numbers others number held =
    (held.0, omega (arith, held.1, length-append numbers others), rw (get_or_append_left numbers others number held.0 held.1) held.2)

held_last : (numbers : List ℕ) (number : ℕ) → Contains (numbers ++ number ∷ []) number
held_last numbers number = (length numbers, omega (arith, length-append numbers (number ∷ [])), get_or_at numbers number [] number (length numbers) refl)

-- no row has the number
absent : (rows : List Row) (number : ℕ) (text : List ℕ) → (Contains (map (λ row. row.number) rows) number → ⊥) → item_in rows number text ≡ Ok (None, text)
absent [] number text none = refl
absent (row ∷ rows) number text none =
    let other : eqb number row.number ≡ false = ne_eqb _ _ (λ same. none (0, omega arith, sym same)) in
    rw other (absent rows number text (λ held. none (held_further row.number (map (λ row. row.number) rows) number held)))

module _ (again : (form : Form) (value : Of form) (text rest : List ℕ) → Spells form value text → read_at form (text ++ rest) ≡ Ok (value, rest)) where
  pub is_packed : (text : List ℕ) → item_of (behind gzip_packed text) ≡ Packed
  is_packed text = rw (value_again again Int gzip_packed text (omega arith)) refl

  pub is_call : (number : ℕ) (text : List ℕ) → number < 2 ^ 32 → (Contains service_numbers number → ⊥) → item_of (behind number text) ≡ Call
  unfolding service_numbers
  is_call number text small none =
      let numbers = map (λ (row : Row). row.number) schema in
      let packed : eqb number gzip_packed ≡ false = ne_eqb _ _ (λ same. none (subst (λ (n : ℕ). Contains (numbers ++ gzip_packed ∷ []) n) (sym same) (held_last numbers gzip_packed))) in
      let no_row = absent schema number text (λ held. none (held_before numbers (gzip_packed ∷ []) number held)) in
      rw (value_again again Int number text small, packed, no_row) refl

-- fewer than 4 bytes
pub is_short : (body : List ℕ) → length body < 4 → item_of body ≡ Call
unfolding number_at
is_short body lt = let lacks : ltb (length body) 4 ≡ true = lt-ltb _ _ lt in rw lacks refl
