-- The register service's requests.
use Rattle.std.proofs.Common.{◌≡◌, ◌∙◌, ℕ, ◌≤◌, ◌<◌, ◌^◌, ◌==◌, ◌&&◌, nat_lt, nat_le, true, cond, List, [], ◌++◌, length, Some, None, Result, Ok, Err, subst, refl, sym, ap, append_assoc, append-nil, arith}
use Rattle.std.specs.List.{list_all}
use Rattle.std.proofs.lemmas.Bool.{leb-true, and_parts}
use Rattle.tl_codec.specs.declared.fault.TlFault.{TlFault}
use Rattle.tl_codec.specs.Spelling.{Form, Of, Spells, Tag, Int, Long, Bytes, spelling}
use Rattle.tl_codec.specs.Reading.{◌>>=◌, read_at}
use Rattle.regs_service.specs.Requests.{Asked, Add, Get, add_number, get_number, is_name, is_name_byte, name_bytes_max, behind, request_at, whole, request_of}
use Rattle.sched_text.specs.Words.{IsNumber}
use Rattle.sched_text.specs.Bodies.{add_body, get_body}

-- what is written is read again, whatever follows
abbrev pub Again : Type 0
Again = (form : Form) (value : Of form) (text rest : List ℕ) → Spells form value text → read_at form (text ++ rest) ≡ Ok (value, rest)

goes_on : {A B : Type 0} (m : Result A TlFault) (f : A → Result B TlFault) (y : A) (r : Result B TlFault) → m ≡ Ok y → f y ≡ r → (m >>= f) ≡ r
goes_on (Ok x) f y r h e = let same : x ≡ y = cc in ap f same ∙ e
goes_on (Err d) f y r h e = cc

short_name : (name : List ℕ) → is_name name ≡ true → length name ≤ 16777215
short_name name named =
    let all = and_parts (nat_lt 0 (length name)) (nat_le (length name) name_bytes_max && list_all is_name_byte name) named in
    let few : length name ≤ name_bytes_max = leb-true (length name) name_bytes_max (and_parts (nat_le (length name) name_bytes_max) (list_all is_name_byte name) all.1).0 in
    omega (arith, few)

-- a tag is spelt as its number
tag_int : (number : ℕ) → spelling (Tag number) tt ≡ spelling Int number
unfolding spelling
tag_int number = refl

-- the number of a request and its name are read
named : Again → (number : ℕ) (name rest : List ℕ) → number < 2 ^ 32 → length name ≤ 16777215
    → request_at (spelling (Tag number) tt ++ (spelling Bytes name ++ rest)) ≡ behind number (name, rest)
named again number name rest fits short =
    goes_on (read_at Int (spelling (Tag number) tt ++ (spelling Bytes name ++ rest))) _ (number, spelling Bytes name ++ rest) _
    (again Int number (spelling (Tag number) tt) (spelling Bytes name ++ rest) (fits, tag_int number))
    (goes_on (read_at Bytes (spelling Bytes name ++ rest)) _ (name, rest) _ (again Bytes name (spelling Bytes name) rest (short, refl)) refl)

is_whole : (asked : Asked) (b : List ℕ) (name : List ℕ) → b ≡ [] → is_name name ≡ true → cond ((length b == 0) && is_name name) (Some asked) None ≡ Some asked
is_whole asked b name e named = subst (λ rest. cond ((length rest == 0) && is_name name) (Some asked) None ≡ Some asked) (sym e) (subst (λ t. cond t (Some asked) None ≡ Some asked) (sym named) refl)

pub add_read : Again → (name : List ℕ) (amount : ℕ) → is_name name ≡ true → IsNumber amount → request_of (add_body name amount) ≡ Some (Add name amount)
add_read again name amount is fits =
    let read : request_at (add_body name amount) ≡ Ok (Add name amount, []) =
    ap request_at (append_assoc (spelling (Tag add_number) tt) (spelling Bytes name) (spelling Long amount))
    ∙ named again add_number name (spelling Long amount) (omega arith) (short_name name is)
    ∙ goes_on (read_at Long (spelling Long amount)) _ (amount, []) _
    (ap (read_at Long) (sym (append-nil (spelling Long amount))) ∙ again Long amount (spelling Long amount) [] (fits, refl)) refl in
    ap whole read ∙ is_whole (Add name amount) [] name refl is

pub get_read : Again → (name : List ℕ) → is_name name ≡ true → request_of (get_body name) ≡ Some (Get name)
get_read again name is =
    let read : request_at (get_body name) ≡ Ok (Get name, []) =
    ap (λ text. request_at (spelling (Tag get_number) tt ++ text)) (sym (append-nil (spelling Bytes name)))
    ∙ named again get_number name [] (omega arith) (short_name name is) in
    ap whole read ∙ is_whole (Get name) [] name refl is
