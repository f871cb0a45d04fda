-- What is a call for the service is judged as a call.
use Rattle.std.proofs.Common.{◌≡◌, ◌∙◌, ℕ, eqb, ltb, Bool, true, false, Option, Some, Result, Ok, Err, List, [], ◌∷◌, length, take, ap, sym, subst, refl, arith, inl, inr}
use Rattle.std.specs.Prelude.{map, ◌⊎◌, ◌||◌}
use Rattle.std.specs.List.{list_any, AllByRecursion}
use Rattle.std.proofs.lemmas.Bool.{cases_Bool, cond-true, cond-false, cond_both, eqb-true, le-ltb, or_from, false≢true, true≢false}
use Rattle.std.proofs.lemmas.List.Folds.{list_any-append, list_any_at}
use Rattle.byteorder.specs.Endian.{little_number}
use Rattle.tl_codec.specs.declared.fault.TlFault.{TlFault}
use Rattle.tl_codec.specs.Reading.{◌>>=◌, raw_at, number_at}
use Rattle.service_tl.specs.declared.item.Item.{Item}
use Rattle.service_tl.specs.declared.item.Item.TheVariants.{MsgContainer, Packed, Broken}
use Rattle.service_tl.specs.Fields.{Field, Holds, field_at}
use Rattle.service_tl.specs.Schema.{Row, Makes, schema, service_numbers, gzip_packed, msgs_ack, fields_at, item_in}
use Rattle.service_tl.specs.ItemOf.{whole, item_behind, item_after, item_of}
use Rattle.containers.specs.Container.{begins_container}
use Rattle.inbox.specs.Kinds.{begins_acknowledgement, begins_call, calling_numbers}
use Rattle.service_tl.specs.Results.{constructor_of}
use Rattle.law_server.specs.Order.{is_for_service}
use Rattle.law_server.proofs.Judged.{IsService}

-- a constructor begins a call
abbrev BeginsCall : Option ℕ → Type 0
BeginsCall number = (begins_acknowledgement number ≡ false) × (begins_call number ≡ true)

-- no item of a row is a call for the service
abbrev NotService : (fields : List Field) → Makes fields → Type 0
NotService [] item = is_for_service item ≡ false
NotService (field ∷ fields) item = (value : Holds field) → NotService fields (item value)

abbrev then_item : Result (Item × List ℕ) TlFault → Result (Option Item × List ℕ) TlFault
then_item found = found >>= λ item. Ok (Some item.0, item.1)

whole-not : (number : ℕ) (item : Item) (text : List ℕ) → is_for_service item ≡ false → is_for_service (whole number (Ok (Some item, text))) ≡ false
whole-not number item text apart = cond_both (eqb (length text) 0) item (Broken number) (λ (item : Item). is_for_service item ≡ false) (λ is. apart) (λ is. refl)

bound-not : (field : Field) (fields : List Field) (item : Makes (field ∷ fields)) (number : ℕ) (read : Result (Holds field × List ℕ) TlFault) → NotService (field ∷ fields) item
    → ((value : Holds field) (text : List ℕ) → NotService fields (item value) → is_for_service (whole number (then_item (fields_at fields (item value) text))) ≡ false)
    → is_for_service (whole number (then_item (read >>= λ value. fields_at fields (item value.0) value.1))) ≡ false
bound-not field fields item number (Ok value) apart rest = rest value.0 value.1 (apart value.0)
bound-not field fields item number (Err fault) apart rest = refl

fields-not : (fields : List Field) (item : Makes fields) (number : ℕ) (text : List ℕ) → NotService fields item
    → is_for_service (whole number (then_item (fields_at fields item text))) ≡ false
fields-not [] item number text apart = whole-not number item text apart
fields-not (field ∷ fields) item number text apart =
    bound-not field fields item number (field_at field text) apart (λ value rest other. fields-not fields (item value) number rest other)

-- each row is so, or begins a call
abbrev Fits : Row → Type 0
Fits row = NotService row.fields row.item ⊎ BeginsCall (Some row.number)

row-found : (rows : List Row) (number : ℕ) (text : List ℕ) → AllByRecursion Fits rows → is_for_service (whole number (item_in rows number text)) ≡ true
    → BeginsCall (Some number) ⊎ (list_any (λ (row : Row). eqb number row.number) rows ≡ false)
row-found [] number text fit is = inr refl
row-found (row ∷ rows) number text fit is =
    let read = then_item (fields_at row.fields row.item text) in
    let others = item_in rows number text in
    elim (cases_Bool (eqb number row.number)) [
      | inl here ↦
          let same = cond-true (eqb number row.number) read others here in
          let found : is_for_service (whole number read) ≡ true = ap (λ (read : Result (Option Item × List ℕ) TlFault). is_for_service (whole number read)) (sym same) ∙ is in
          elim fit.0 [
            | inl apart ↦ absurd (false≢true (sym (fields-not row.fields row.item number text apart) ∙ found))
            | inr good ↦
                let P : ℕ → Type 0 = λ number. BeginsCall (Some number) in
                inl (subst P (sym (eqb-true number row.number here)) good)
          ]
      | inr apart ↦
          let same = cond-false (eqb number row.number) read others apart in
          let found : is_for_service (whole number others) ≡ true = ap (λ (read : Result (Option Item × List ℕ) TlFault). is_for_service (whole number read)) (sym same) ∙ is in
          elim (row-found rows number text fit.1 found) [
            | inl good ↦ inl good
            | inr none ↦ inr (or_from _ _ apart none)
          ]
    ]

rows-fit : AllByRecursion Fits schema
unfolding schema service_numbers
rows-fit = (
  inl (λ a b. refl),
  (
    inl (λ a b. refl),
    (
      inl (λ a. refl),
      (
        inl refl,
        (
          inl refl,
          (
            inl (λ a b c. refl),
            (
              inl (λ a. refl),
              (
                inl (λ a b c. refl),
                (
                  inl (λ a. refl),
                  (
                    inl (λ a b. refl),
                    (
                      inl (λ a b. refl),
                      (
                        inl (λ a. refl),
                        (
                          inl (λ a. refl),
                          (
                            inl (λ a. refl),
                            (
                              inl (λ a b c. refl),
                              (
                                inl (λ a. refl),
                                (
                                  inl (λ a. refl),
                                  (
                                    inl (λ a. refl),
                                    (
                                      inl (λ a b. refl),
                                      (
                                        inl (λ a b. refl),
                                        (
                                          inl (λ a. refl),
                                          (
                                            inl (λ a b c d. refl),
                                            (
                                              inl (λ a b c. refl),
                                              (
                                                inl (λ a b c. refl),
                                                (
                                                  inl (λ a b c d. refl),
                                                  (inr (refl, refl), (inr (refl, refl), (inr (refl, refl), tt))),
                                                ),
                                              ),
                                            ),
                                          ),
                                        ),
                                      ),
                                    ),
                                  ),
                                ),
                              ),
                            ),
                          ),
                        ),
                      ),
                    ),
                  ),
                ),
              ),
            ),
          ),
        ),
      ),
    ),
  ),
)

any-numbers : (number : ℕ) (rows : List Row) → list_any (λ (service : ℕ). eqb number service) (map (λ (row : Row). row.number) rows) ≡ list_any (λ (row : Row). eqb number row.number) rows
any-numbers number [] = refl
any-numbers number (row ∷ rows) = ap (λ (rest : Bool). eqb number row.number || rest) (any-numbers number rows)

not_packed-any : (number : ℕ) → eqb number gzip_packed ≡ false → list_any (λ (row : Row). eqb number row.number) schema ≡ false
    → list_any (λ (service : ℕ). eqb number service) service_numbers ≡ false
unfolding service_numbers
not_packed-any number packed none =
    list_any-append (λ (service : ℕ). eqb number service) (map (λ (row : Row). row.number) schema) (gzip_packed ∷ [])
    ∙ or_from _ _ (any-numbers number schema ∙ none) (or_from _ _ packed refl)

not-ack : (number : ℕ) → list_any (λ (row : Row). eqb number row.number) schema ≡ false → eqb number msgs_ack.number ≡ false
unfolding schema
not-ack number none =
    elim (cases_Bool (eqb number msgs_ack.number)) [
      | inl is ↦ absurd (true≢false (sym (list_any_at (λ (row : Row). eqb number row.number) schema 16 msgs_ack (omega arith) is) ∙ none))
      | inr fails ↦ fails
    ]

behind-call : (number : ℕ) (text : List ℕ) → is_for_service (item_behind number text) ≡ true → BeginsCall (Some number)
behind-call number text is =
    let other = whole number (item_in schema number text) in
    elim (cases_Bool (eqb number gzip_packed)) [
      | inl packed ↦ absurd (false≢true (ap is_for_service (sym (cond-true (eqb number gzip_packed) Packed other packed)) ∙ is))
      | inr apart ↦
          let found : is_for_service other ≡ true = ap is_for_service (sym (cond-false (eqb number gzip_packed) Packed other apart)) ∙ is in
          elim (row-found schema number text rows-fit found) [
            | inl good ↦ good
            | inr none ↦ (
              not-ack number none,
              cond-false (list_any (λ (service : ℕ). eqb number service) service_numbers) (list_any (λ (calling : ℕ). eqb number calling) calling_numbers) true (not_packed-any number apart none),
            )
          ]
    ]

long-raw : (a b c d : ℕ) (rest : List ℕ) → raw_at 4 (a ∷ b ∷ c ∷ d ∷ rest) ≡ Ok (take 4 (a ∷ b ∷ c ∷ d ∷ rest), rest)
long-raw a b c d rest = let e : ltb (length (a ∷ b ∷ c ∷ d ∷ rest)) 4 ≡ false = le-ltb (length (a ∷ b ∷ c ∷ d ∷ rest)) 4 (omega arith) in rw e refl

long-item : (a b c d : ℕ) (rest : List ℕ) → item_of (a ∷ b ∷ c ∷ d ∷ rest) ≡ item_behind (little_number 4 (a ∷ b ∷ c ∷ d ∷ rest)) rest
unfolding number_at
long-item a b c d rest = ap (λ (raw : Result (List ℕ × List ℕ) TlFault). item_after (raw >>= λ field. Ok (little_number 4 field.0, field.1))) (long-raw a b c d rest)

long-constructor : (a b c d : ℕ) (rest : List ℕ) → constructor_of (a ∷ b ∷ c ∷ d ∷ rest) ≡ Some (little_number 4 (a ∷ b ∷ c ∷ d ∷ rest))
long-constructor a b c d rest = let e : ltb (length (a ∷ b ∷ c ∷ d ∷ rest)) 4 ≡ false = le-ltb (length (a ∷ b ∷ c ∷ d ∷ rest)) 4 (omega arith) in rw e refl

body-call : (body : List ℕ) → is_for_service (item_of body) ≡ true → BeginsCall (constructor_of body)
body-call [] is = (refl, refl)
body-call (a ∷ []) is = (refl, refl)
body-call (a ∷ b ∷ []) is = (refl, refl)
body-call (a ∷ b ∷ c ∷ []) is = (refl, refl)
body-call (a ∷ b ∷ c ∷ d ∷ rest) is =
    subst BeginsCall (sym (long-constructor a b c d rest))
    (behind-call (little_number 4 (a ∷ b ∷ c ∷ d ∷ rest)) rest (ap is_for_service (sym (long-item a b c d rest)) ∙ is))

pub service-called : IsService
service-called message is =
    let body = message.body in
    elim (cases_Bool (begins_container body)) [
      | inl held ↦ absurd (false≢true (ap is_for_service (sym (cond-true (begins_container body) (MsgContainer []) (item_of body) held)) ∙ is))
      | inr apart ↦
          let good = body-call body (ap is_for_service (sym (cond-false (begins_container body) (MsgContainer []) (item_of body) apart)) ∙ is) in
          rw (apart, good.0, good.1) refl
    ]
