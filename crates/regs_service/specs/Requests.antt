-- The requests of the registers.
use Rattle.std.specs.Prelude.{◌≡◌, ℕ, ◌==◌, nat_lt, nat_le, ◌&&◌, ◌||◌, Bool, true, if◌then◌else◌, List, ◌++◌, length, Option, Some, None, Result, Ok, Err}
use Rattle.std.specs.List.{list_all}
use Rattle.std.specs.Int.{is_in_range}
use Rattle.tl_codec.specs.declared.fault.TlFault.{TlFault}
use Rattle.tl_codec.specs.declared.fault.TlFault.TheVariants.{BadTag}
use Rattle.tl_codec.specs.Spelling.{Int, Long, Bytes, Reads}
use Rattle.tl_codec.specs.Reading.{◌>>=◌, read_at}

-- 0a1b2c01 name:string amount:long, which adds
abbrev pub add_number : ℕ
add_number = 0x0a1b2c01

-- 0a1b2c02 name:string, which gets
abbrev pub get_number : ℕ
get_number = 0x0a1b2c02

pub data Asked : Type 0 where
  Add : List ℕ → ℕ → Asked
  Get : List ℕ → Asked

abbrev pub name_of : Asked → List ℕ
name_of (Add name amount) = name
name_of (Get name) = name

-- `a` to `z`, `0` to `9`
abbrev pub is_name_byte : ℕ → Bool
is_name_byte byte = is_in_range 97 122 byte || is_in_range 48 57 byte

-- the most bytes of a name
abbrev pub name_bytes_max : ℕ
name_bytes_max = 32

-- at least one of these, and at most that many
abbrev pub is_name : List ℕ → Bool
is_name name = nat_lt 0 (length name) && (nat_le (length name) name_bytes_max && list_all is_name_byte name)

-- ---- a request as a whole text

-- An add: its number, a name and an amount one after the other, each as TL is read (a string also in its long form, and
-- with any padding), and nothing behind them.
pub record IsAdd (name : List ℕ) (amount : ℕ) (text : List ℕ) : Type 0 where
  pub number_part : List ℕ
  pub name_part : List ℕ
  pub amount_part : List ℕ
  pub whole : text ≡ number_part ++ (name_part ++ amount_part)
  pub reads_number : Reads Int add_number number_part
  pub reads_name : Reads Bytes name name_part
  pub reads_amount : Reads Long amount amount_part

-- a get: its number and a name, and nothing behind them
pub record IsGet (name : List ℕ) (text : List ℕ) : Type 0 where
  pub number_part : List ℕ
  pub name_part : List ℕ
  pub whole : text ≡ number_part ++ name_part
  pub reads_number : Reads Int get_number number_part
  pub reads_name : Reads Bytes name name_part

-- the whole text is this request, and its name is a register's
abbrev pub IsTextOf : Asked → List ℕ → Type 0
IsTextOf (Add name amount) text = IsAdd name amount text × (is_name name ≡ true)
IsTextOf (Get name) text = IsGet name text × (is_name name ≡ true)

-- ---- reading it

-- The request at the front of a text and what follows it. It is read as TL is read: the long form of a
-- string and any padding are taken.
abbrev pub behind : ℕ → List ℕ × List ℕ → Result (Asked × List ℕ) TlFault
behind number name =
    if number == add_number then (read_at Long name.1 >>= λ amount. Ok (Add name.0 amount.0, amount.1))
    else if number == get_number then Ok (Get name.0, name.1)
    else Err (BadTag number)

abbrev pub request_at : List ℕ → Result (Asked × List ℕ) TlFault
request_at text = do
  number ← read_at Int text
  name ← read_at Bytes number.1
  behind number.0 name

-- it is one where the text ends there and its name is one
abbrev pub whole : Result (Asked × List ℕ) TlFault → Option Asked
whole (Ok (asked, rest)) = if length rest == 0 && is_name (name_of asked) then Some asked else None
whole (Err fault) = None

abbrev pub request_of : List ℕ → Option Asked
request_of text = whole (request_at text)
