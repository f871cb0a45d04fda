-- What is put together of lawful parts is sealed.
use Rattle.std.proofs.Common.{◌≡◌, ℕ, ◌+◌, ◌*◌, ◌/◌, ◌≤◌, List, ◌++◌, length, Some, refl, arith, length-append}
use Rattle.byteorder.specs.Endian.{little_bytes}
use Rattle.byteorder.specs.Numbers.{length-bytes_low_first}
use Rattle.octets.specs.Bytes.{HasBytes, IsBytes}
use Rattle.auth_keys.specs.Rings.{entry_of}
use Rattle.auth_keys.specs.declared.ring.RingKey.{RingKey}
use Rattle.envelope.specs.declared.parts.Dir.{Dir}
use Rattle.envelope.specs.declared.parts.Envelope.{Envelope}
use Rattle.envelope.specs.Packet.{IsEnvelope, IsPadding, Lock, Sealed, body_max, packet_of, plain_text}
use Rattle.envelope.specs.Sizes.{KeepsSizes}
use Rattle.envelope.proofs.Bytes.{bytes-append, low-bytes}

plain-length : (envelope : Envelope) (padding : List ℕ) → length (plain_text envelope padding) ≡ 32 + length envelope.body + length padding
unfolding plain_text
plain-length envelope padding = omega (arith, length-append envelope.body padding)

plain-bytes : (envelope : Envelope) (padding : List ℕ) → IsBytes envelope.body → IsBytes padding → IsBytes (plain_text envelope padding)
unfolding plain_text
plain-bytes envelope padding body padded =
    let size = little_bytes 4 (length envelope.body) in
    let seq = little_bytes 4 envelope.seq in
    let number = little_bytes 8 envelope.number in
    let session = little_bytes 8 envelope.session in
    let behind = envelope.body ++ padding in
    bytes-append (little_bytes 8 envelope.salt) (session ++ (number ++ (seq ++ (size ++ behind)))) (low-bytes 0 8 envelope.salt)
    (bytes-append session (number ++ (seq ++ (size ++ behind))) (low-bytes 0 8 envelope.session)
    (bytes-append number (seq ++ (size ++ behind)) (low-bytes 0 8 envelope.number)
    (bytes-append seq (size ++ behind) (low-bytes 0 4 envelope.seq)
    (bytes-append size behind (low-bytes 0 4 (length envelope.body)) (bytes-append envelope.body padding body padded)))))

plain-blocks : (envelope : Envelope) (padding : List ℕ) → IsEnvelope envelope → IsPadding (length envelope.body) padding
    → HasBytes (16 * ((32 + length envelope.body + length padding) / 16)) (plain_text envelope padding)
plain-blocks envelope padding lawful padded =
    let blocks = padded.blocks in
    record { count = omega (arith, plain-length envelope padding, blocks); in_range = plain-bytes envelope padding lawful.bytes padded.bytes }

pub parts-sealed : (lock : Lock) (ring : List RingKey) (dir : Dir) (envelope : Envelope) (padding : List ℕ) (entry : RingKey) → KeepsSizes lock
    → entry_of envelope.key ring ≡ Some entry → IsEnvelope envelope → length envelope.body ≤ body_max → IsPadding (length envelope.body) padding
    → Sealed lock ring dir envelope padding (packet_of lock entry.key dir envelope padding)
parts-sealed lock ring dir envelope padding entry sizes found lawful short padded =
    let plain = plain_text envelope padding in
    let message_key = lock.message_key entry.key dir plain in
    let text = lock.locked entry.key dir message_key plain in
    let same = sizes.text entry.key dir message_key plain ((32 + length envelope.body + length padding) / 16) (plain-blocks envelope padding lawful padded) in
    let key = sizes.message_key entry.key dir plain in
    let all = length-append (little_bytes 8 envelope.key) (message_key ++ text) in
    let behind = length-append message_key text in
    let head = length-bytes_low_first 0 8 envelope.key in
    let whole = plain-length envelope padding in
    let most = padded.most in
    record { entry = entry; found = found; lawful = lawful; padded = padded; spelled = refl; fits = omega (arith, same, key, all, behind, head, whole, most, short) }
