-- How a connection starts (core.telegram.org/mtproto/mtproto-transports): what the server takes its first bytes for.
use Rattle.std.specs.Prelude.{◌≡◌, ◌<◌, ◌≤◌, ◌⊎◌, ⊤, ℕ, Bool, true, false, List, [], ◌++◌, length, take, nat_eq, Option, None, Some}
use Rattle.std.specs.List.{starts_with}
use Rattle.cipher_modes.specs.CounterMode.{CtrState}
use Rattle.obfus.specs.Starts as obfus
use Rattle.obfus.specs.Streams.{ciphered}
use Rattle.obfus.specs.Reads.{Reads, IsFaultOf}
use Rattle.obfus.specs.declared.fault.ObfusFault.{ObfusFault}
use Rattle.obfus.specs.declared.init.Pair.{Pair}
use Rattle.obfus.specs.declared.tag.Tag.{Tag}
use Rattle.obfus.specs.declared.tag.Tag.TheVariants as tags
use Rattle.transport.specs.declared.form.Form.{Form}
use Rattle.transport.specs.declared.form.Form.TheVariants as forms

-- how a connection goes on behind its start: its form, and where it is obfuscated the key streams from the client and to
-- it
pub record Opening : Type 0 where
  pub form : Form
  pub up : Option CtrState
  pub down : Option CtrState

abbrev pub plain : Form → Opening
plain form = record { form = form; up = None; down = None }

abbrev pub form_of_tag : Tag → Form
form_of_tag tags.Abridged = forms.Abridged
form_of_tag tags.Intermediate = forms.Intermediate
form_of_tag tags.Padded = forms.Padded

abbrev pub obfuscated : Pair → Opening
obfuscated pair = record { form = form_of_tag pair.tag; up = Some pair.up; down = Some pair.down }

-- the bytes of a form's start, where it isn't obfuscated
abbrev pub start_of : Form → List ℕ
start_of forms.Abridged = obfus.abridged_start
start_of forms.Intermediate = obfus.intermediate_start
start_of forms.Padded = obfus.padded_start
start_of forms.Full = []

-- The full form has no start: its first frame has the number 0 in bytes 4 to 7, and begins as no other form.
pub record BeginsFull (bytes : List ℕ) : Type 0 where
  pub numbered : obfus.begins_full bytes ≡ true
  pub not_abridged : starts_with nat_eq bytes obfus.abridged_start ≡ false
  pub not_intermediate : starts_with nat_eq bytes obfus.intermediate_start ≡ false
  pub not_padded : starts_with nat_eq bytes obfus.padded_start ≡ false

abbrev pub IsTold : Form → List ℕ → Type 0
IsTold forms.Abridged bytes = ⊤
IsTold forms.Intermediate bytes = ⊤
IsTold forms.Padded bytes = ⊤
IsTold forms.Full bytes = BeginsFull bytes

-- a connection that isn't obfuscated: its form's start, and what is behind it
pub record StartsPlain (bytes : List ℕ) (opening : Opening) (rest : List ℕ) : Type 0 where
  pub form : Form
  pub whole : bytes ≡ start_of form ++ rest
  pub told : IsTold form bytes
  pub opens : opening ≡ plain form

-- an obfuscated one: 64 bytes that begin as no plain connection and carry a tag, and what is behind them
pub record StartsObfuscated (bytes : List ℕ) (opening : Opening) (rest : List ℕ) : Type 0 where
  pub wire : List ℕ
  pub pair : Pair
  pub size : length wire ≡ 64
  pub whole : bytes ≡ wire ++ rest
  pub not_plain : obfus.begins_plain bytes ≡ false
  pub reads : Reads None wire pair
  pub opens : opening ≡ obfuscated pair

-- the bytes are a start and what is behind it
abbrev pub Starts : List ℕ → Opening → List ℕ → Type 0
Starts bytes opening rest = StartsPlain bytes opening rest ⊎ StartsObfuscated bytes opening rest

-- the bytes are some start and what is behind it
pub record IsOpened (bytes : List ℕ) : Type 0 where
  pub opening : Opening
  pub rest : List ℕ
  pub starts : Starts bytes opening rest

-- more bytes are needed
pub record IsAwaited (bytes : List ℕ) : Type 0 where
  pub few : length bytes < 64
  pub not_plain : obfus.begins_plain bytes ≡ false

-- 64 bytes that name no form and carry no tag
pub record IsRefused (bytes wire : List ℕ) : Type 0 where
  pub enough : 64 ≤ length bytes
  pub first : wire ≡ take 64 bytes
  pub not_plain : obfus.begins_plain bytes ≡ false
  pub fault : ObfusFault
  pub none : IsFaultOf None wire fault

-- The first bytes that a client sends, from those drawn: the start of its form, and where it is obfuscated one for data
-- centre 2.
abbrev pub IsSentStart : Bool → Form → List ℕ → List ℕ → Type 0
IsSentStart false form drawn start = start ≡ start_of form
IsSentStart true form drawn start =
    (tag : Tag) × (form_of_tag tag ≡ form) × (start ≡ ciphered None (obfus.start_of tag 2 drawn))

-- the words that are drawn for it
abbrev pub words_drawn : Bool → ℕ
words_drawn false = 0
words_drawn true = 8
