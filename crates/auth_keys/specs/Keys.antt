-- Authorisation keys (core.telegram.org/mtproto/description, "Authorization Key" and "Key Identifier"). A key is the
-- list of its 256 bytes.
use Rattle.std.specs.Prelude.{ℕ, ◌≤◌, ◌<◌, List, take, drop}
use Rattle.std.specs.Int.{w64, from_le_bytes}
use Rattle.sha1.specs.Sha1.{sha1}
use Rattle.octets.specs.Bytes.{HasBytes}
use Rattle.auth_keys.specs.declared.key.KeyKind.{KeyKind}
use Rattle.auth_keys.specs.declared.key.KeyKind.TheVariants.{Perm, Temp}

-- a list of 256 bytes, 2,048 bits
abbrev pub IsKey : List ℕ → Type 0
IsKey key = HasBytes 256 key

-- "substr" of the standard: so many bytes of a list, from a place on
abbrev pub substr : List ℕ → ℕ → ℕ → List ℕ
substr bytes start count = take count (drop start bytes)

-- "the 64 lower-order bits of the SHA1 hash of the authorization key": bytes 12 to 19 of the 20
abbrev pub identifier_bytes : List ℕ → List ℕ
identifier_bytes key = substr (sha1 key) 12 8

-- these bytes as a `long` of TL
abbrev pub identifier : List ℕ → ℕ
identifier key = from_le_bytes w64 (identifier_bytes key)

-- a key of this kind is good at this moment: it is permanent, or it expires after it
-- (core.telegram.org/api/pfs)
abbrev pub IsGoodAt : ℕ → KeyKind → Type 0
IsGoodAt now Perm = Unit {0}
IsGoodAt now (Temp expires) = now < expires
