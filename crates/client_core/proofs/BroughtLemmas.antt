-- A container brings nothing beside the messages inside it.
use Rattle.std.proofs.Common.{◌≡◌, ◌∙◌, ℕ, Bool, true, false, List, [], ◌∷◌, ◌++◌, length, take, drop, ap, refl, sym, Some, arith}
use Rattle.std.specs.Prelude.{◌==◌, ◌&&◌, nat_le, nat_lt, if◌then◌else◌, Result, Ok, Err}
use Rattle.std.specs.List.{AllByRecursion}
use Rattle.std.proofs.lemmas.Bool.{eqb-true}
use Rattle.std.proofs.lemmas.Bool.Decides.{nat_tests}
use Rattle.byteorder.specs.Endian.{little_number}
use Rattle.byteorder.specs.Numbers.{little_from-take}
use Rattle.tl_codec.specs.declared.fault.TlFault.{TlFault}
use Rattle.tl_codec.specs.declared.fault.TlFault.TheVariants.{Short}
use Rattle.tl_codec.specs.Spelling.{Int}
use Rattle.tl_codec.specs.Reading.{◌>>=◌, number_at, read_at}
use Rattle.service_tl.specs.declared.lists.Message.{Message}
use Rattle.service_tl.specs.declared.item.Item.TheVariants.{Broken, MsgContainer}
use Rattle.service_tl.specs.Fields.{Bodies, field_at}
use Rattle.service_tl.specs.Schema.{fields_at, schema}
use Rattle.service_tl.specs.ItemOf.{item_after, item_behind, item_of, whole}
use Rattle.containers.specs.Container.{begins_container, constructor}
use Rattle.client_core.specs.declared.brought.Brought.TheVariants as brought
use Rattle.client_core.specs.Brought.{brought_of}

whole_container : (read : Result (List Message × List ℕ) TlFault)
    → brought.Nothing ≡ brought_of (whole constructor ((read >>= λ value. fields_at [] (MsgContainer value.0) value.1) >>= λ item. Ok (Some item.0, item.1)))
whole_container (Err fault) = refl
whole_container (Ok (messages, rest)) =
    elim (length rest == 0) as (λ b. brought.Nothing ≡ brought_of (if b then MsgContainer messages else Broken constructor)) [ true ↦ refl | false ↦ refl ]

behind_container : (text : List ℕ) → brought.Nothing ≡ brought_of (item_behind constructor text)
unfolding schema
behind_container text = whole_container (field_at Bodies text)

both_of : (a b : Bool) → (a && b) ≡ true → (a ≡ true) × (b ≡ true)
both_of true b told = (refl, told)
both_of false b told = absurd (grind (arith, told))

abbrev front_if : Bool → List ℕ → Result (List ℕ × List ℕ) TlFault
front_if b body = if b then Err (Short 4 (length body)) else Ok (take 4 body, drop 4 body)

abbrev number_of_front : Result (List ℕ × List ℕ) TlFault → Result (ℕ × List ℕ) TlFault
number_of_front front = front >>= λ field. Ok (little_number 4 field.0, field.1)

abbrev read_of : ℕ → List ℕ → Result (ℕ × List ℕ) TlFault
read_of number rest = Ok (number, rest)

int_container : (body : List ℕ) → begins_container body ≡ true → read_at Int body ≡ Ok (constructor, drop 4 body)
unfolding begins_container number_at
int_container body told =
    let both = both_of (nat_le 4 (length body)) (little_number 4 body == constructor) told in
    let enough : nat_lt (length body) 4 ≡ false = grind (arith, nat_tests, both.0) in
    ap (λ b. number_of_front (front_if b body)) enough
    ∙ ap (λ n. read_of n (drop 4 body)) (little_from-take 0 4 4 body (omega arith) ∙ eqb-true _ _ both.1)

pub container_brings : (body : List ℕ) → begins_container body ≡ true → brought.Nothing ≡ brought_of (item_of body)
container_brings body told = behind_container (drop 4 body) ∙ ap (λ read. brought_of (item_after read)) (sym (int_container body told))

-- ---- one more that can be taken

pub all_more : {X : Type 0} (P : X → Type 0) (xs : List X) (y : X) → AllByRecursion P xs → P y → AllByRecursion P (xs ++ y ∷ [])
all_more P [] y h new = (new, tt)
all_more P (x ∷ xs) y h new = (h.0, all_more P xs y h.1 new)
