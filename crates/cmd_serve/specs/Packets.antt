-- What a ring of keys says of packets, worked out: what a packet that comes to a server opens to, or why it doesn't open, and
-- the packet that is sealed of what a session sends (core.telegram.org/mtproto/description, "Encrypted Message").
use Rattle.std.specs.Prelude.{bytes_eq, ℕ, ◌-◌, ◌%◌, ◌==◌, ◌&&◌, nat_le, Bool, if◌then◌else◌, Option, Some, None, Result, Ok, Err, List, length}
use Rattle.auth_keys.specs.Rings.{entry_of}
use Rattle.auth_keys.specs.declared.ring.RingKey.{RingKey}
use Rattle.envelope.specs.declared.parts.Dir.{Dir}
use Rattle.envelope.specs.declared.parts.Dir.TheVariants.{Down, Up}
use Rattle.envelope.specs.declared.parts.Envelope.{Envelope}
use Rattle.envelope.specs.declared.refusal.Refusal.{Refusal}
use Rattle.envelope.specs.declared.refusal.Refusal.TheVariants as refusals
use Rattle.envelope.specs.Lock.{mt_lock}
use Rattle.envelope.specs.Opening.{key_named, length_said, message_key_said, padding_left}
use Rattle.envelope.specs.Packet.{Lock, block_bytes, packet_head, packet_max, packet_min, plain_head}
use Rattle.server_output.specs.Outs.{sealed_envelope}
use Rattle.ring_rules.specs.Binding.{keys_of}
use Rattle.ring_rules.specs.Opening.{is_good_at, opened, plain_in}
use Rattle.ring_rules.specs.Sealing.{packet_under}
use Rattle.server_rules.specs.Event.{Sent}
use Rattle.server_node.specs.Trace.{Outside}

-- ---- why a packet doesn't open: the first case that holds

-- 72 to 1,048,576 bytes, whose text is whole blocks
abbrev pub is_packet_size : ℕ → Bool
is_packet_size size = nat_le packet_min size && (nat_le size packet_max && ((size - packet_head) % block_bytes == 0))

-- whole words of 4 bytes, and no more than there are behind the head
abbrev pub is_body_length : List ℕ → Bool
is_body_length plain = (length_said plain % 4 == 0) && nat_le (length_said plain) (length plain - plain_head)

-- by its plain text: the body's length, or the padding's
abbrev pub refusal_in : List ℕ → Refusal
refusal_in plain = if is_body_length plain then refusals.Padding (padding_left plain) else refusals.Length (length_said plain)

-- under its key: the message key isn't that of the plain text, or the plain text is at fault
abbrev pub refusal_under : Lock → Dir → List ℕ → List ℕ → Refusal
refusal_under lock dir packet key =
    let plain = plain_in lock key dir packet in
    if bytes_eq (message_key_said packet) (lock.message_key key dir plain) then refusal_in plain
    else refusals.KeyMismatch (message_key_said packet) (lock.message_key key dir plain)

-- by the key that it names: there is none that is good now, or it is at fault under that key
abbrev pub refusal_by : Lock → ℕ → Dir → List ℕ → Option RingKey → Refusal
refusal_by lock now dir packet None = refusals.NoKey (key_named packet)
refusal_by lock now dir packet (Some entry) =
    if is_good_at now entry.kind then refusal_under lock dir packet entry.key else refusals.NoKey (key_named packet)

abbrev pub refusal_of : Lock → List RingKey → ℕ → Dir → List ℕ → Refusal
refusal_of lock ring now dir packet =
    if is_packet_size (length packet) then refusal_by lock now dir packet (entry_of (key_named packet) ring) else refusals.Size (length packet)

-- ---- what it opens to, or why it doesn't

abbrev pub answer_of : Option Envelope → Refusal → Result Envelope Refusal
answer_of None refusal = Err refusal
answer_of (Some envelope) refusal = Ok envelope

abbrev pub reading_by : Lock → List RingKey → ℕ → List ℕ → Result Envelope Refusal
reading_by lock ring now packet = answer_of (opened lock ring now Up packet) (refusal_of lock ring now Up packet)

-- ---- what is sealed

abbrev pub sealing_by : Lock → List RingKey → Sent → List ℕ
sealing_by lock ring sent = packet_under lock (entry_of sent.envelope.key ring) Down (sealed_envelope sent.envelope) sent.padding

-- ---- all that a ring says

unfoldable pub outside_of : List RingKey → Outside
outside_of ring = record { keys = keys_of ring; reading = reading_by mt_lock ring; sealing = sealing_by mt_lock ring }
