-- What the values of options say.
use Rattle.std.specs.Prelude.{◌≡◌, ◌≤◌, ◌<◌, ◌^◌, ◌↔◌, ℕ, Bool, List, Option, Some, None, Ok, IsTrue, codes, decimal}
use Rattle.std.specs.Int.{w64, to_le_bytes}
use Rattle.hex.specs.Hex.{decode_sized, encode_lower}
use Rattle.clap.specs.Words.{Row, first_of}
use Rattle.transport.specs.declared.form.Form.{Form}
use Rattle.transport.specs.declared.form.Form.TheVariants.{Abridged, Intermediate, Padded, Full}

-- the text of an argument, where it is there or has a default
unfoldable pub text_of : List ℕ → List Row → Option (List ℕ)
text_of name rows = first_of name rows

-- the argument's value is this text
abbrev pub HasText : List ℕ → List Row → List ℕ → Type 0
HasText name rows text = text_of name rows ≡ Some text

-- the argument is left out, or its value is this text
abbrev pub MayHaveText : List ℕ → List Row → Option (List ℕ) → Type 0
MayHaveText name rows text = text_of name rows ≡ text

-- the flag is there: `clap` gives it the text `true` then, and else `false`
abbrev pub HasFlag : List ℕ → List Row → Bool → Type 0
HasFlag name rows there = IsTrue there ↔ (text_of name rows ≡ Some (codes "true"))

-- the value is a number in decimal, with no sign and no leading zero, and lies in this range
pub record HasNumber (name : List ℕ) (least most : ℕ) (rows : List Row) (number : ℕ) : Type 0 where
  pub least_or_more : least ≤ number
  pub most_or_less : number ≤ most
  pub spelled : text_of name rows ≡ Some (decimal number)

-- the argument is left out, or has such a number
abbrev pub MayHaveNumber : List ℕ → ℕ → ℕ → List Row → Option ℕ → Type 0
MayHaveNumber name least most rows None = text_of name rows ≡ None
MayHaveNumber name least most rows (Some number) = HasNumber name least most rows number

-- the 16 lower case hexadecimal digits of an identifier's bytes, the least byte first
unfoldable pub id_text : ℕ → List ℕ
id_text id = encode_lower (to_le_bytes w64 id)

-- the value is an identifier
pub record HasId (name : List ℕ) (rows : List Row) (id : ℕ) : Type 0 where
  pub long : id < 2 ^ 64
  pub spelled : text_of name rows ≡ Some (id_text id)

-- the argument is left out, or has an identifier
abbrev pub MayHaveId : List ℕ → List Row → Option ℕ → Type 0
MayHaveId name rows None = text_of name rows ≡ None
MayHaveId name rows (Some id) = HasId name rows id

-- the word for a form of framing
abbrev pub form_text : Form → List ℕ
form_text Abridged = codes "abridged"
form_text Intermediate = codes "intermediate"
form_text Padded = codes "padded"
form_text Full = codes "full"

-- the value is a form of framing
abbrev pub HasForm : List ℕ → List Row → Form → Type 0
HasForm name rows form = text_of name rows ≡ Some (form_text form)

-- the text is the 32 hexadecimal digits of a secret's 16 bytes, of either case
abbrev pub IsSecret : List ℕ → List ℕ → Type 0
IsSecret text secret = decode_sized text 16 ≡ Ok secret

-- the value is a secret
pub record HasSecret (name : List ℕ) (rows : List Row) (secret : List ℕ) : Type 0 where
  pub text : List ℕ
  pub there : HasText name rows text
  pub spelled : IsSecret text secret
