-- Binding messages (core.telegram.org/method/auth.bindTempAuthKey, "Binding message contents"), as one text.
use Rattle.std.specs.Prelude.{◌≡◌, ℕ, ◌<◌, ◌^◌, List, ◌++◌}
use Rattle.std.specs.Int.{w32, w64, to_le_bytes}
use Rattle.octets.specs.Bytes.{HasBytes}
use Rattle.cipher_modes.specs.Ige.{ige}
use Rattle.auth_keys.specs.Keys.{identifier}
use Rattle.temp_keys.specs.Derivation.{message_key, aes_key, aes_iv}
use Rattle.temp_keys.specs.declared.binding.Inner.{Inner}

-- an `int` and a `long` of TL
abbrev pub int : ℕ → List ℕ
int number = to_le_bytes w32 number

abbrev pub long : ℕ → List ℕ
long number = to_le_bytes w64 number

-- the constructor number of `bind_auth_key_inner`
abbrev pub inner_constructor : ℕ
inner_constructor = 0x75a3f765

-- how many bytes the inner object has
abbrev pub inner_bytes : ℕ
inner_bytes = 40

-- "bind_auth_key_inner#75a3f765 nonce:long temp_auth_key_id:long perm_auth_key_id:long temp_session_id:long
-- expires_at:int"
unfoldable pub inner_text : Inner → List ℕ
inner_text inner =
    int inner_constructor ++ long inner.nonce ++ long inner.temp ++ long inner.perm ++ long inner.session
    ++ int inner.expires

-- an inner object whose fields have their sizes
pub record IsInner (inner : Inner) : Type 0 where
  pub nonce : inner.nonce < 2 ^ 64
  pub temp : inner.temp < 2 ^ 64
  pub perm : inner.perm < 2 ^ 64
  pub session : inner.session < 2 ^ 64
  pub expires : inner.expires < 2 ^ 32

-- The plain text: 16 random bytes, the number of the binding call, seq 0, the length of the inner object, this object,
-- and 8 random bytes as padding.
unfoldable pub plain_text : List ℕ → ℕ → Inner → List ℕ → List ℕ
plain_text random number inner padding =
    random ++ long number ++ int 0 ++ int inner_bytes ++ inner_text inner ++ padding

-- how many bytes a binding message has
abbrev pub message_bytes : ℕ
message_bytes = 104

-- A plain text sealed: the key's identifier, the message key, and the text in infinite garble extension.
unfoldable pub sealed : List ℕ → List ℕ → List ℕ
sealed key plain =
    long (identifier key) ++ message_key plain ++ ige (aes_key key (message_key plain)) (aes_iv key (message_key plain)) plain

-- the binding message of a call of this number
abbrev pub binding_message : List ℕ → List ℕ → ℕ → Inner → List ℕ → List ℕ
binding_message key random number inner padding = sealed key (plain_text random number inner padding)

-- The message is a binding message under this key, for a call of this number and with this inner object.
pub record Says (key message : List ℕ) (number : ℕ) (inner : Inner) : Type 0 where
  pub random : List ℕ
  pub padding : List ℕ
  pub random_bytes : HasBytes 16 random
  pub padding_bytes : HasBytes 8 padding
  pub number_fits : number < 2 ^ 64
  pub inner_fits : IsInner inner
  pub sealed : message ≡ binding_message key random number inner padding
