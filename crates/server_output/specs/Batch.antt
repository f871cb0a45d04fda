-- The room for all packets of a session's messages.
use Rattle.std.specs.Prelude.{◌≡◌, ℕ, ◌+◌, ◌*◌, ◌/◌, ◌&&◌, nat_le, Bool, min, if◌then◌else◌, []}
use Rattle.octets.specs.Draft.{Draft}

-- For what there is room: any list of so many messages at most, whose bodies have so many bytes together at most.
pub record Batch : Type 0 where
  pub messages : ℕ
  pub bytes : ℕ

-- the bytes of so many messages in containers, each with a head of 16 bytes
abbrev pub with_heads : ℕ → ℕ → ℕ
with_heads messages bytes = 16 * messages + bytes

-- all of them can stand in one container: 1,020 messages and 1,044,480 bytes with its own head of 8 at most
abbrev pub is_one : ℕ → ℕ → Bool
is_one messages bytes = nat_le messages 1020 && nat_le (8 + with_heads messages bytes) 1044480

-- How many packets they make at most. A packet ends where the next message doesn't fit: because 1,020 messages are in it,
-- or because it and that message have more than 1,044,472 bytes together, and each message is counted so twice at most.
abbrev pub packets_most : ℕ → ℕ → ℕ
packets_most messages bytes =
    if is_one messages bytes then 1 else 1 + messages / 1020 + (2 * with_heads messages bytes) / 1044473

-- how many bytes the body of each packet has at most
abbrev pub packed_most : ℕ → ℕ → ℕ
packed_most messages bytes = min (8 + with_heads messages bytes) 1044480

-- what sealing adds to a body at most: 24 bytes in front of the text, 32 in front of the body, and 27 of padding
abbrev pub seal_most : ℕ
seal_most = 83

-- Scaffolding, and no promise: the room for one packet, whose body has so many bytes at most.
abbrev pub IsPlace : ℕ → Draft → Type 0
IsPlace body place = place ≡ record { bytes = []; room = body + seal_most }
