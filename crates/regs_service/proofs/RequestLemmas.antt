-- What is read as a request is that request as a whole text, and the other way round.
use Rattle.std.proofs.Common.{◌≡◌, ◌∙◌, sym, ap, subst, refl, inl, inr, arith, ℕ, Bool, true, false, eqb, ◌&&◌, Some, None, Result, Ok, Err, List, [], ◌∷◌, ◌++◌, length}
use Rattle.std.proofs.lemmas.Bool.{cases_Bool, cases_eq, eq-eqb, ne_eqb, eqb-true}
use Rattle.std.proofs.lemmas.List.{append-nil}
use Rattle.octets.specs.Bytes.{IsBytes}
use Rattle.tl_codec.specs.declared.fault.TlFault.{TlFault}
use Rattle.tl_codec.specs.Spelling.{Form, Of, Int, Long, Bytes}
use Rattle.tl_codec.specs.Reading.{Takes, read_at, ◌>>=◌}
use Rattle.regs_service.specs.Requests.{Asked, Add, Get, add_number, get_number, name_of, is_name, IsAdd, IsGet, IsTextOf, behind, whole, request_of}

none_left : (rest : List ℕ) → length rest ≡ 0 → rest ≡ []
none_left [] e = refl
none_left (x ∷ xs) e = absurd (omega arith)

both : (a b : Bool) → (a && b) ≡ true → (a ≡ true) × (b ≡ true)
both true b e = (refl, e)
both false b e = absurd (cc)

-- a request that is taken is one whose text ends there and whose name is one
ended : (one asked : Asked) (rest : List ℕ) → whole (Ok (one, rest)) ≡ Some asked → (rest ≡ []) × (is_name (name_of one) ≡ true) × (one ≡ asked)
ended one asked rest is = elim (cases_Bool (eqb (length rest) 0 && is_name (name_of one))) [
  | inl e ↦
      let same : Some one ≡ Some asked = rw e at is in
      let parts = both (eqb (length rest) 0) (is_name (name_of one)) e in
      (none_left rest (eqb-true _ _ parts.0), parts.1, cc)
  | inr e ↦ let none : None ≡ Some asked = rw e at is in absurd (cc)
]

abbrev pub Taken : Type 0
Taken = (form : Form) (value : Of form) (text rest : List ℕ) → IsBytes text → read_at form text ≡ Ok (value, rest) → Takes form value text rest

abbrev pub Read : Type 0
Read = (form : Form) (value : Of form) (text rest : List ℕ) → Takes form value text rest → read_at form text ≡ Ok (value, rest)

abbrev pub Back : Type 0
Back = (xs ys : List ℕ) → IsBytes (xs ++ ys) → IsBytes ys

-- what follows a value is a list of bytes
rest_bytes : Back → (form : Form) (value : Of form) (text rest : List ℕ) → IsBytes text → Takes form value text rest → IsBytes rest
rest_bytes back form value text rest bytes taken =
    let split : IsBytes (taken.0 ++ rest) = subst (λ (xs : List ℕ). IsBytes xs) taken.2 bytes in
    back taken.0 rest split

-- ---- what is taken

is_add : (name : List ℕ) (amount : ℕ) (text second third rest : List ℕ) → Takes Int add_number text second → Takes Bytes name second third → Takes Long amount third rest → rest ≡ [] → IsAdd name amount text
is_add name amount text second third rest head middle last end = record {
  number_part = head.0;
  name_part = middle.0;
  amount_part = last.0;
  whole = head.2 ∙ ap (λ xs. head.0 ++ xs) (middle.2 ∙ ap (λ xs. middle.0 ++ xs) (last.2 ∙ (ap (λ xs. last.0 ++ xs) end ∙ append-nil last.0)));
  reads_number = head.1;
  reads_name = middle.1;
  reads_amount = last.1;
}

is_get : (name : List ℕ) (text second rest : List ℕ) → Takes Int get_number text second → Takes Bytes name second rest → rest ≡ [] → IsGet name text
is_get name text second rest head middle end = record {
  number_part = head.0;
  name_part = middle.0;
  whole = head.2 ∙ ap (λ xs. head.0 ++ xs) (middle.2 ∙ (ap (λ xs. middle.0 ++ xs) end ∙ append-nil middle.0));
  reads_number = head.1;
  reads_name = middle.1;
}

at_amount : Taken → (asked : Asked) (text second third name : List ℕ) → IsBytes third → Takes Int add_number text second → Takes Bytes name second third → (r : Result (ℕ × List ℕ) TlFault) → read_at Long third ≡ r → whole (r >>= λ amount. Ok (Add name amount.0, amount.1)) ≡ Some asked → IsTextOf asked text
at_amount taken asked text second third name bytes head middle (Err fault) e is = absurd (cc)
at_amount taken asked text second third name bytes head middle (Ok (amount, rest)) e is =
    let end = ended (Add name amount) asked rest is in
    subst (λ (asked : Asked). IsTextOf asked text) end.2 (is_add name amount text second third rest head middle (taken Long amount third rest bytes e) end.0, end.1)

at_name : Taken → Back → (asked : Asked) (text second : List ℕ) (number : ℕ) → IsBytes second → Takes Int number text second → (r : Result (List ℕ × List ℕ) TlFault) → read_at Bytes second ≡ r → whole (r >>= λ name. behind number name) ≡ Some asked → IsTextOf asked text
at_name taken back asked text second number bytes head (Err fault) e is = absurd (cc)
at_name taken back asked text second number bytes head (Ok (name, third)) e is =
    let middle = taken Bytes name second third bytes e in
    elim (cases_eq number add_number) [
      | inl adds ↦
          let f : eqb number add_number ≡ true = eq-eqb _ _ adds in
          let is' : whole (read_at Long third >>= λ amount. Ok (Add name amount.0, amount.1)) ≡ Some asked = rw f at is in
          let head' : Takes Int add_number text second = subst (λ (n : ℕ). Takes Int n text second) adds head in
          at_amount taken asked text second third name (rest_bytes back Bytes name second third bytes middle) head' middle (read_at Long third) refl is'
      | inr other ↦
          let f : eqb number add_number ≡ false = ne_eqb _ _ other in
          elim (cases_eq number get_number) [
            | inl gets ↦
                let g : eqb number get_number ≡ true = eq-eqb _ _ gets in
                let is' : whole (Ok (Get name, third)) ≡ Some asked = rw (f, g) at is in
                let head' : Takes Int get_number text second = subst (λ (n : ℕ). Takes Int n text second) gets head in
                let end = ended (Get name) asked third is' in
                subst (λ (asked : Asked). IsTextOf asked text) end.2 (is_get name text second third head' middle end.0, end.1)
            | inr neither ↦
                let g : eqb number get_number ≡ false = ne_eqb _ _ neither in
                let none : None ≡ Some asked = rw (f, g) at is in
                absurd (cc)
          ]
    ]

at_number : Taken → Back → (asked : Asked) (text : List ℕ) → IsBytes text → (r : Result (ℕ × List ℕ) TlFault) → read_at Int text ≡ r → whole (r >>= λ number. read_at Bytes number.1 >>= λ name. behind number.0 name) ≡ Some asked → IsTextOf asked text
at_number taken back asked text bytes (Err fault) e is = absurd (cc)
at_number taken back asked text bytes (Ok (number, second)) e is =
    let head = taken Int number text second bytes e in
    at_name taken back asked text second number (rest_bytes back Int number text second bytes head) head (read_at Bytes second) refl is

pub is_taken : Taken → Back → (asked : Asked) (text : List ℕ) → IsBytes text → request_of text ≡ Some asked → IsTextOf asked text
is_taken taken back asked text bytes is = at_number taken back asked text bytes (read_at Int text) refl is

-- ---- what is read

add_read : Read → (name : List ℕ) (amount : ℕ) (text : List ℕ) → IsAdd name amount text → is_name name ≡ true → request_of text ≡ Some (Add name amount)
add_read read name amount text add named =
    let a = add.number_part in
    let b = add.name_part in
    let c = add.amount_part in
    let first : read_at Int (a ++ (b ++ c)) ≡ Ok (add_number, b ++ c) = read Int add_number (a ++ (b ++ c)) (b ++ c) (a, add.reads_number, refl) in
    let second : read_at Bytes (b ++ c) ≡ Ok (name, c) = read Bytes name (b ++ c) c (b, add.reads_name, refl) in
    let third : read_at Long c ≡ Ok (amount, []) = read Long amount c [] (c, add.reads_amount, sym (append-nil c)) in
    rw (add.whole, first, second, third, named) refl

get_read : Read → (name : List ℕ) (text : List ℕ) → IsGet name text → is_name name ≡ true → request_of text ≡ Some (Get name)
get_read read name text get named =
    let a = get.number_part in
    let b = get.name_part in
    let first : read_at Int (a ++ b) ≡ Ok (get_number, b) = read Int get_number (a ++ b) b (a, get.reads_number, refl) in
    let second : read_at Bytes b ≡ Ok (name, []) = read Bytes name b [] (b, get.reads_name, sym (append-nil b)) in
    rw (get.whole, first, second, named) refl

pub is_read : Read → (asked : Asked) (text : List ℕ) → IsTextOf asked text → request_of text ≡ Some asked
is_read read (Add name amount) text is = add_read read name amount text is.0 is.1
is_read read (Get name) text is = get_read read name text is.0 is.1

pub is_refused : Read → (asked : Asked) (text : List ℕ) → request_of text ≡ None → IsTextOf asked text → ⊥
is_refused read asked text none is = let some : None ≡ Some asked = sym none ∙ is_read read asked text is in cc

pub is_one : Read → (asked other : Asked) (text : List ℕ) → IsTextOf asked text → IsTextOf other text → asked ≡ other
is_one read asked other text is is' = let same : Some asked ≡ Some other = sym (is_read read asked text is) ∙ is_read read other text is' in cc
