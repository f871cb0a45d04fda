-- The start of an obfuscated connection (core.telegram.org/mtproto/mtproto-transports#transport-obfuscation): 64 bytes
-- that a client draws, mends and marks.
use Rattle.std.specs.Prelude.{ℕ, ◌||◌, Bool, List, [], ◌∷◌, ◌++◌, take, drop, replicate, nat_eq, slice_set, if◌then◌else◌}
use Rattle.std.specs.Int.{w16, to_le_bytes}
use Rattle.std.specs.List.{starts_with}
use Rattle.obfus.specs.declared.tag.Tag.{Tag}
use Rattle.obfus.specs.declared.tag.Tag.TheVariants.{Abridged, Intermediate, Padded}

-- how many bytes a start has
abbrev pub start_bytes : ℕ
start_bytes = 64

-- what a connection begins with in the abridged, the intermediate and the padded form, where it isn't obfuscated
abbrev pub abridged_start : List ℕ
abridged_start = 0xef ∷ []

abbrev pub intermediate_start : List ℕ
intermediate_start = replicate 4 0xee

abbrev pub padded_start : List ℕ
padded_start = replicate 4 0xdd

-- the full form has no start, and the number of its first frame, 0, stands in bytes 4 to 7
abbrev pub begins_full : List ℕ → Bool
begins_full bytes = starts_with nat_eq (drop 4 bytes) (replicate 4 0)

-- whether the bytes begin as a connection does that isn't obfuscated
abbrev pub begins_plain : List ℕ → Bool
begins_plain bytes =
    starts_with nat_eq bytes abridged_start
    || starts_with nat_eq bytes intermediate_start
    || starts_with nat_eq bytes padded_start
    || begins_full bytes

-- what a request of HTTP begins with (`HEAD`, `POST`, `GET `, `OPTI`), and one of TLS
abbrev pub head_start : List ℕ
head_start = 0x48 ∷ 0x45 ∷ 0x41 ∷ 0x44 ∷ []

abbrev pub post_start : List ℕ
post_start = 0x50 ∷ 0x4f ∷ 0x53 ∷ 0x54 ∷ []

abbrev pub get_start : List ℕ
get_start = 0x47 ∷ 0x45 ∷ 0x54 ∷ 0x20 ∷ []

abbrev pub options_start : List ℕ
options_start = 0x4f ∷ 0x50 ∷ 0x54 ∷ 0x49 ∷ []

abbrev pub tls_start : List ℕ
tls_start = 0x16 ∷ 0x03 ∷ 0x01 ∷ 0x02 ∷ []

-- whether the bytes begin as no start may: as another connection or such a request
abbrev pub begins_as_another : List ℕ → Bool
begins_as_another bytes =
    starts_with nat_eq bytes abridged_start
    || starts_with nat_eq bytes head_start
    || starts_with nat_eq bytes post_start
    || starts_with nat_eq bytes get_start
    || starts_with nat_eq bytes options_start
    || starts_with nat_eq bytes tls_start
    || starts_with nat_eq bytes padded_start
    || starts_with nat_eq bytes intermediate_start

-- byte 0 becomes 01 where they do
abbrev pub first_mended : List ℕ → List ℕ
first_mended bytes = if begins_as_another bytes then slice_set bytes 0 0x01 else bytes

-- byte 4 becomes 01 where bytes 4 to 7 are zero
abbrev pub next_mended : List ℕ → List ℕ
next_mended bytes = if begins_full bytes then slice_set bytes 4 0x01 else bytes

-- the tag of a form, in bytes 56 to 59
abbrev pub tag_bytes : Tag → List ℕ
tag_bytes Abridged = replicate 4 0xef
tag_bytes Intermediate = replicate 4 0xee
tag_bytes Padded = replicate 4 0xdd

-- the tag stands in bytes 56 to 59, and the data centre behind it in 60 and 61, the least byte first
abbrev pub marked : Tag → ℕ → List ℕ → List ℕ
marked tag dc bytes = take 56 bytes ++ (tag_bytes tag ++ (to_le_bytes w16 dc ++ drop 62 bytes))

-- the start of a form and a data centre from the bytes drawn
unfoldable pub start_of : Tag → ℕ → List ℕ → List ℕ
start_of tag dc drawn = marked tag dc (next_mended (first_mended drawn))
