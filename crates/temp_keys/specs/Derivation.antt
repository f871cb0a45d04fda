-- The message key, and the key and initialisation vector of AES-256, of MTProto 1.0
-- (core.telegram.org/mtproto/description_v1, "Message Key" and "Defining AES Key and Initialization Vector"), with
-- x = 0. A key is the authorisation key, a list of 256 bytes.
use Rattle.std.specs.Prelude.{ℕ, List, ◌++◌, take}
use Rattle.sha1.specs.Sha1.{sha1}
use Rattle.auth_keys.specs.Keys.{substr}

-- how many bytes of the plain text of a binding message aren't padding
abbrev pub unpadded_bytes : ℕ
unpadded_bytes = 72

-- "msg_key = substr (SHA1 (plaintext), 4, 16)", the padding left out
unfoldable pub message_key : List ℕ → List ℕ
message_key plain = substr (sha1 (take unpadded_bytes plain)) 4 16

-- "sha1_a = SHA1 (msg_key + substr (auth_key, x, 32))"
abbrev pub sha1_a : List ℕ → List ℕ → List ℕ
sha1_a key msg_key = sha1 (msg_key ++ substr key 0 32)

-- "sha1_b = SHA1 (substr (auth_key, 32 + x, 16) + msg_key + substr (auth_key, 48 + x, 16))"
abbrev pub sha1_b : List ℕ → List ℕ → List ℕ
sha1_b key msg_key = sha1 (substr key 32 16 ++ msg_key ++ substr key 48 16)

-- "sha1_c = SHA1 (substr (auth_key, 64 + x, 32) + msg_key)"
abbrev pub sha1_c : List ℕ → List ℕ → List ℕ
sha1_c key msg_key = sha1 (substr key 64 32 ++ msg_key)

-- "sha1_d = SHA1 (msg_key + substr (auth_key, 96 + x, 32))"
abbrev pub sha1_d : List ℕ → List ℕ → List ℕ
sha1_d key msg_key = sha1 (msg_key ++ substr key 96 32)

-- "aes_key = substr (sha1_a, 0, 8) + substr (sha1_b, 8, 12) + substr (sha1_c, 4, 12)"
unfoldable pub aes_key : List ℕ → List ℕ → List ℕ
aes_key key msg_key =
    substr (sha1_a key msg_key) 0 8 ++ substr (sha1_b key msg_key) 8 12 ++ substr (sha1_c key msg_key) 4 12

-- "aes_iv = substr (sha1_a, 8, 12) + substr (sha1_b, 0, 8) + substr (sha1_c, 16, 4) + substr (sha1_d, 0, 8)"
unfoldable pub aes_iv : List ℕ → List ℕ → List ℕ
aes_iv key msg_key =
    substr (sha1_a key msg_key) 8 12 ++ substr (sha1_b key msg_key) 0 8 ++ substr (sha1_c key msg_key) 16 4
    ++ substr (sha1_d key msg_key) 0 8
