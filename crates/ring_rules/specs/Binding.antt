-- What a binding call binds, worked out: the random bytes and the padding that its message spells under the permanent key that
-- it names, where the binding message of these and of what the call says is its message
-- (core.telegram.org/method/auth.bindTempAuthKey).
use Rattle.std.specs.Prelude.{bytes_eq, ℕ, ◌==◌, ◌&&◌, nat_lt, Bool, false, if◌then◌else◌, Option, Some, None, List, drop, length, take}
use Rattle.auth_keys.specs.Rings.{entry_of}
use Rattle.auth_keys.specs.declared.key.KeyKind.{KeyKind}
use Rattle.auth_keys.specs.declared.key.KeyKind.TheVariants.{Perm, Temp}
use Rattle.auth_keys.specs.declared.ring.RingKey.{RingKey}
use Rattle.cipher_modes.specs.Ige.{inverse_ige}
use Rattle.temp_keys.specs.Checking.{Call, bound_of, inner_of, is_temporary}
use Rattle.temp_keys.specs.Derivation.{aes_iv, aes_key}
use Rattle.temp_keys.specs.Messages.{binding_message}
use Rattle.temp_keys.specs.declared.binding.Inner.{Inner}
use Rattle.server_session.specs.Says.{Keys}
use Rattle.server_dispatch.specs.Bindings.{binding_told}
use Rattle.server_dispatch.specs.Rings.{checked}
use Rattle.ring_rules.specs.Bytes.{are_bytes, is_int, is_long}

-- an inner object whose fields have their sizes
abbrev pub is_inner : Inner → Bool
is_inner inner =
    is_long inner.nonce && (is_long inner.temp && (is_long inner.perm && (is_long inner.session && is_int inner.expires)))

-- so many bytes
abbrev pub has_bytes : ℕ → List ℕ → Bool
has_bytes count bytes = (length bytes == count) && are_bytes bytes

-- the plain text of a binding message under a key
abbrev pub plain_under : List ℕ → List ℕ → List ℕ
plain_under key message =
    inverse_ige (aes_key key (take 16 (drop 8 message))) (aes_iv key (take 16 (drop 8 message))) (drop 24 message)

-- the message says what the call says, under the key of the ring that the call names
abbrev pub is_said_with : List ℕ → List ℕ → List ℕ → Call → Bool
is_said_with key random padding call =
    has_bytes 16 random && (has_bytes 8 padding && (is_long call.number && (is_inner (inner_of call)
    && bytes_eq call.binding.message (binding_message key random call.number (inner_of call) padding))))

abbrev pub is_said_by : KeyKind → List ℕ → Call → Bool
is_said_by (Temp expires) key call = false
is_said_by Perm key call =
    let plain = plain_under key call.binding.message in is_said_with key (take 16 plain) (drop 72 plain) call

abbrev pub is_said_under : Option RingKey → Call → Bool
is_said_under None call = false
is_said_under (Some entry) call = is_said_by entry.kind entry.key call

-- the call binds: its message says what it says, its own key is a temporary one, and it doesn't expire yet
unfoldable pub binds : Call → Bool
binds call =
    is_said_under (entry_of call.binding.perm call.ring) call && (is_temporary call.ring call.temp && nat_lt call.now call.binding.expires)

-- which keys of a ring are temporary, and what a binding call binds by it
abbrev pub keys_of : List RingKey → Keys
keys_of ring =
    record {
      is_temporary = is_temporary ring;
      bound_by = λ now name call.
          if binds (checked ring now name call) then Some (binding_told (bound_of (checked ring now name call))) else None;
    }
