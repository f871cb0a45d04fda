-- The body of a call, and the words that stand for it.
use Rattle.std.specs.Prelude.{◌≡◌, ◌≤◌, ℕ, true, List, [], ◌∷◌, ◌++◌, codes, decimal, replicate, Option, Some, None}
use Rattle.tl_codec.specs.Spelling.{Tag, Long, Bytes, spelling}
use Rattle.service_tl.specs.Schema.{gzip_packed}
use Rattle.regs_service.specs.Requests.{add_number, get_number, is_name}
use Rattle.sched_text.specs.Words.{IsNumber, IsHex}

-- ---- bytes

-- 0a1b2c01 name:string amount:long, a request of the register service
abbrev pub add_body : List ℕ → ℕ → List ℕ
add_body name amount = spelling (Tag add_number) tt ++ spelling Bytes name ++ spelling Long amount

-- 0a1b2c02 name:string, another one
abbrev pub get_body : List ℕ → List ℕ
get_body name = spelling (Tag get_number) tt ++ spelling Bytes name

-- so many zeros
abbrev pub pad_body : ℕ → List ℕ
pad_body len = replicate len 0

-- the most bytes of those
abbrev pub pad_bytes_max : ℕ
pad_bytes_max = 1048576

-- the constructor of gzip_packed and 4 zeros
abbrev pub packed_body : List ℕ
packed_body = spelling (Tag gzip_packed) tt ++ replicate 4 0

-- ---- words

-- `add NAME AMOUNT`
abbrev pub Adds : List ℕ → List (List ℕ) → Type 0
Adds body words =
    (name : List ℕ) × (amount : ℕ) × (is_name name ≡ true) × IsNumber amount × (words ≡ codes "add" ∷ name ∷ decimal amount ∷ []) × (body ≡ add_body name amount)

-- `get NAME`
abbrev pub Gets : List ℕ → List (List ℕ) → Type 0
Gets body words = (name : List ℕ) × (is_name name ≡ true) × (words ≡ codes "get" ∷ name ∷ []) × (body ≡ get_body name)

-- `pad LEN`
abbrev pub Pads : List ℕ → List (List ℕ) → Type 0
Pads body words = (len : ℕ) × (len ≤ pad_bytes_max) × (words ≡ codes "pad" ∷ decimal len ∷ []) × (body ≡ pad_body len)

-- `packed`
abbrev pub Packs : List ℕ → List (List ℕ) → Type 0
Packs body words = (words ≡ codes "packed" ∷ []) × (body ≡ packed_body)

-- `hex HEX`
abbrev pub Quotes : List ℕ → List (List ℕ) → Type 0
Quotes body words = (word : List ℕ) × IsHex body word × (words ≡ codes "hex" ∷ word ∷ [])

-- the words stand for this body
pub data IsBody (body : List ℕ) (words : List (List ℕ)) : Type 0 where
  Add : Adds body words → IsBody body words
  Get : Gets body words → IsBody body words
  Pad : Pads body words → IsBody body words
  Packed : Packs body words → IsBody body words
  Hex : Quotes body words → IsBody body words

-- nothing, or `after N`
abbrev pub IsAfter : Option ℕ → List (List ℕ) → Type 0
IsAfter None words = words ≡ []
IsAfter (Some call) words = IsNumber call × (words ≡ codes "after" ∷ decimal call ∷ [])

-- BODY: the words stand for this body, and say behind it which call it waits for
pub record SaysCall (body : List ℕ) (after : Option ℕ) (words : List (List ℕ)) : Type 0 where
  pub front : List (List ℕ)
  pub rest : List (List ℕ)
  pub body_is : IsBody body front
  pub after_is : IsAfter after rest
  pub parted : words ≡ front ++ rest
