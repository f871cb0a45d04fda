-- The code of the error that a body is.
use Rattle.std.proofs.Common.{◌≡◌, ◌∙◌, ℕ, Bool, true, false, List, [], ◌∷◌, ◌++◌, length, ap, refl, sym, Option, Some, arith}
use Rattle.std.proofs.lemmas.Bool.Decides.{nat_tests}
use Rattle.std.specs.Prelude.{◌≢◌, ◌==◌, if◌then◌else◌, Result, Ok, Err}
use Rattle.std.specs.List.{AllByRecursion}
use Rattle.tl_codec.specs.declared.fault.TlFault.{TlFault}
use Rattle.tl_codec.specs.Spelling.{Int, Long, Bytes}
use Rattle.tl_codec.specs.Reading.{◌>>=◌, read_at}
use Rattle.service_tl.specs.declared.item.Item.{Item}
use Rattle.service_tl.specs.declared.item.Item.TheVariants.{Broken, Packed, RpcError, RpcResult}
use Rattle.service_tl.specs.Fields.{Field, Plain, Rest, Holds, field_at}
use Rattle.service_tl.specs.Schema.{Makes, Row, fields_at, gzip_packed, item_in, schema, rpc_drop_answer, rpc_answer_unknown, rpc_answer_dropped_running, rpc_answer_dropped, sessions, lists, notices, wrappers}
use Rattle.service_tl.specs.ItemOf.{item_behind, whole}
use Rattle.client_rules.specs.Taking.{binding_error}

-- an item of these fields is never an error
abbrev NoError : (fields : List Field) → Makes fields → Type 0
NoError [] one = binding_error one ≡ 0
NoError (field ∷ fields) make = (value : Holds field) → NoError fields (make value)

read_no_error : (number : ℕ) (fields : List Field) (make : Makes fields) (text : List ℕ) → NoError fields make
    → binding_error (whole number (fields_at fields make text >>= λ one. Ok (Some one.0, one.1))) ≡ 0
read_no_error number [] one text none = elim (length text == 0) as (λ b. binding_error (if b then one else Broken number) ≡ 0) [ true ↦ none | false ↦ refl ]
read_no_error number (field ∷ fields) make text none =
    elim (field_at field text) as (λ read. binding_error (whole number ((read >>= λ value. fields_at fields (make value.0) value.1) >>= λ one. Ok (Some one.0, one.1))) ≡ 0) [
      | Ok read ↦ read_no_error number fields (make read.0) read.1 (none read.0)
      | Err fault ↦ refl
    ]

rows_no_error : (number : ℕ) (rows : List Row) (text : List ℕ) → AllByRecursion (λ row. NoError row.fields row.item) rows → binding_error (whole number (item_in rows number text)) ≡ 0
rows_no_error number [] text none = refl
rows_no_error number (row ∷ rows) text none =
    elim (number == row.number) as (λ b. binding_error (whole number (if b then (fields_at row.fields row.item text >>= λ one. Ok (Some one.0, one.1)) else item_in rows number text)) ≡ 0) [
      | true ↦ read_no_error number row.fields row.item text none.0
      | false ↦ rows_no_error number rows text none.1
    ]

abbrev others : List Row
others = rpc_drop_answer ∷ rpc_answer_unknown ∷ rpc_answer_dropped_running ∷ rpc_answer_dropped ∷ (sessions ++ (lists ++ (notices ++ wrappers)))

others_no_error : AllByRecursion (λ row. NoError row.fields row.item) others
others_no_error = (λ a. refl, (refl, (refl, (λ a b c. refl, (λ a. refl, (λ a b c. refl, (λ a. refl, (λ a b. refl, (λ a b. refl, (λ a. refl, (λ a. refl, (λ a. refl, (λ a b c. refl, (λ a. refl, (λ a. refl, (λ a. refl, (λ a b. refl, (λ a b. refl, (λ a. refl, (λ a b c d. refl, (λ a b c. refl, (λ a b c. refl, (λ a b c d. refl, (λ a b. refl, (λ a b. refl, (λ a b c d. refl, tt))))))))))))))))))))))))))

abbrev found : ℕ → List ℕ → Bool → Result (Option Item × List ℕ) TlFault
found number text is = if is then (fields_at (Plain Int ∷ Plain Bytes ∷ []) RpcError text >>= λ one. Ok (Some one.0, one.1)) else item_in others number text

pub no_error : (number : ℕ) (text : List ℕ) → (number == 0x2144ca19) ≡ false → binding_error (item_behind number text) ≡ 0
unfolding schema
no_error number text other =
    elim (number == gzip_packed) as (λ b. binding_error (if b then Packed else whole number (item_in schema number text)) ≡ 0) [
      | true ↦ refl
      | false ↦ elim (number == 0xf35c6d01) as (λ b. binding_error (whole number (if b then (fields_at (Plain Long ∷ Rest ∷ []) RpcResult text >>= λ one. Ok (Some one.0, one.1)) else found number text (number == 0x2144ca19))) ≡ 0) [
        | true ↦ read_no_error number (Plain Long ∷ Rest ∷ []) RpcResult text (λ about result. refl)
        | false ↦ ap (λ b. binding_error (whole number (found number text b))) other ∙ rows_no_error number others text others_no_error
      ]
    ]

-- ---- an error, as it is read

abbrev error_of : Result (ℕ × List ℕ) TlFault → Item
error_of read = whole 0x2144ca19 ((read >>= λ value. fields_at (Plain Bytes ∷ []) (RpcError value.0) value.1) >>= λ one. Ok (Some one.0, one.1))

abbrev error_then : ℕ → Result (List ℕ × List ℕ) TlFault → Item
error_then code read = whole 0x2144ca19 ((read >>= λ value. fields_at [] (RpcError code value.0) value.1) >>= λ one. Ok (Some one.0, one.1))

pub error_read : (text : List ℕ) → item_behind 0x2144ca19 text ≡ error_of (read_at Int text)
unfolding schema
error_read text = refl

pub error_cut : (text : List ℕ) (fault : TlFault) → read_at Int text ≡ Err fault → binding_error (item_behind 0x2144ca19 text) ≡ 0
error_cut text fault told = ap binding_error (error_read text) ∙ ap (λ read. binding_error (error_of read)) told

pub error_without : (text rest : List ℕ) (code : ℕ) (fault : TlFault) → read_at Int text ≡ Ok (code, rest) → read_at Bytes rest ≡ Err fault → binding_error (item_behind 0x2144ca19 text) ≡ 0
error_without text rest code fault told text_told =
    ap binding_error (error_read text) ∙ (ap (λ read. binding_error (error_of read)) told ∙ ap (λ read. binding_error (error_then code read)) text_told)

by_end : (code : ℕ) (message : List ℕ) (is_end : Bool) → binding_error (if is_end then RpcError code message else Broken 0x2144ca19) ≡ (if is_end then code else 0)
by_end code message true = refl
by_end code message false = refl

pub error_whole : (text rest last message : List ℕ) (code : ℕ) (is_end : Bool) → read_at Int text ≡ Ok (code, rest) → read_at Bytes rest ≡ Ok (message, last) → (length last == 0) ≡ is_end
    → binding_error (item_behind 0x2144ca19 text) ≡ (if is_end then code else 0)
error_whole text rest last message code is_end told text_told end_told =
    ap binding_error (error_read text)
    ∙ (ap (λ read. binding_error (error_of read)) told
    ∙ (ap (λ read. binding_error (error_then code read)) text_told
    ∙ (ap (λ b. binding_error (if b then RpcError code message else Broken 0x2144ca19)) end_told
    ∙ by_end code message is_end)))

pub not_number : (number : ℕ) → number ≢ 0x2144ca19 → (number == 0x2144ca19) ≡ false
not_number number other = grind (arith, nat_tests)

pub behind_is : (number value : ℕ) (text : List ℕ) → number ≡ 0x2144ca19 → value ≡ binding_error (item_behind 0x2144ca19 text) → value ≡ binding_error (item_behind number text)
behind_is number value text is told = told ∙ ap (λ n. binding_error (item_behind n text)) (sym is)
