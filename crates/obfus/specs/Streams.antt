-- The key streams of an obfuscated connection (core.telegram.org/mtproto/mtproto-transports#transport-obfuscation), with
-- the secret of a proxy where it has one. A direction is xored with its key stream.
use Rattle.std.specs.Prelude.{ℕ, List, ◌++◌, take, drop, reverse, slice_range, Option, None, Some}
use Rattle.cipher_modes.specs.CounterMode.{CtrState, applied}
use Rattle.sha2.specs.Sha256.{sha256}

-- a key is the bytes themselves, and with a secret the SHA-256 of both
abbrev pub key_of : Option (List ℕ) → List ℕ → List ℕ
key_of None bytes = bytes
key_of (Some secret) bytes = sha256 (bytes ++ secret)

-- from the client to the server: the key is bytes 8 to 39 of the start, the initialisation vector bytes 40 to 55
unfoldable pub up_stream : Option (List ℕ) → List ℕ → ℕ → CtrState
up_stream secret start place =
    record { key = key_of secret (slice_range start 8 40); iv = slice_range start 40 56; place = place }

-- from the server to the client: the same of the start reversed
abbrev pub down_stream : Option (List ℕ) → List ℕ → ℕ → CtrState
down_stream secret start place = up_stream secret (reverse start) place

-- The start with bytes 56 to 63 as the up stream enciphers them, which begins at byte 0 of the start. So it is sent, and
-- the server deciphers it in the same way, as both know bytes 8 to 55.
unfoldable pub ciphered : Option (List ℕ) → List ℕ → List ℕ
ciphered secret start = take 56 start ++ drop 56 (applied (up_stream secret start 0) start)
