-- Message keys, and the key and initialisation vector of a packet
-- (core.telegram.org/mtproto/description, "Message key" and "Defining AES Key and Initialization Vector").
-- A key is the authorisation key, a list of 256 bytes.
use Rattle.std.specs.Prelude.{ℕ, ◌+◌, ◌≡◌, ◌⊎◌, List, ◌++◌}
use Rattle.sha2.specs.Sha256.{sha256}
use Rattle.auth_keys.specs.Keys.{substr}

-- x is 0 for messages from client to server and 8 for those from server to client
abbrev pub x_up : ℕ
x_up = 0

abbrev pub x_down : ℕ
x_down = 8

abbrev pub IsX : ℕ → Type 0
IsX x = (x ≡ x_up) ⊎ (x ≡ x_down)

-- msg_key_large = SHA256 (substr (auth_key, 88 + x, 32) + plaintext + random_padding)
-- msg_key = substr (msg_key_large, 8, 16)
unfoldable pub message_key : List ℕ → ℕ → List ℕ → List ℕ
message_key key x plain = substr (sha256 (substr key (88 + x) 32 ++ plain)) 8 16

-- sha256_a = SHA256 (msg_key + substr (auth_key, x, 36))
abbrev pub sha256_a : List ℕ → ℕ → List ℕ → List ℕ
sha256_a key x msg_key = sha256 (msg_key ++ substr key x 36)

-- sha256_b = SHA256 (substr (auth_key, 40 + x, 36) + msg_key)
abbrev pub sha256_b : List ℕ → ℕ → List ℕ → List ℕ
sha256_b key x msg_key = sha256 (substr key (40 + x) 36 ++ msg_key)

-- aes_key = substr (sha256_a, 0, 8) + substr (sha256_b, 8, 16) + substr (sha256_a, 24, 8)
unfoldable pub aes_key : List ℕ → ℕ → List ℕ → List ℕ
aes_key key x msg_key =
    substr (sha256_a key x msg_key) 0 8 ++ substr (sha256_b key x msg_key) 8 16 ++ substr (sha256_a key x msg_key) 24 8

-- aes_iv = substr (sha256_b, 0, 8) + substr (sha256_a, 8, 16) + substr (sha256_b, 24, 8)
unfoldable pub aes_iv : List ℕ → ℕ → List ℕ → List ℕ
aes_iv key x msg_key =
    substr (sha256_b key x msg_key) 0 8 ++ substr (sha256_a key x msg_key) 8 16 ++ substr (sha256_b key x msg_key) 24 8
