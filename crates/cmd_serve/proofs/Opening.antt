-- A packet that opens to nothing is refused, for the first case that holds.
use Rattle.std.proofs.Common.{◌≡◌, ℕ, zero, suc, ◌≤◌, ◌+◌, ◌-◌, ◌*◌, ◌/◌, ◌%◌, Bool, true, false, if◌then◌else◌, Option, Some, None, List, [], ◌++◌, length, take, drop, bytes_eq, refl, sym, ap, subst, ◌∙◌, arith, length-drop}
use Rattle.std.proofs.lemmas.Bool.{and_from, and_parts, ltb-true, lt-ltb, leb-true, le-leb, eqb-true, eq-eqb}
use Rattle.std.proofs.lemmas.Slice.Eq.{bytes_eq-Decides}
use Rattle.octets.specs.Bytes.{IsBytes, HasBytes, xor_bytes}
use Rattle.aes_core.specs.Cipher.{inverse_aes}
use Rattle.cipher_modes.specs.Ige.{inverse_ige, inverse_ige_after, inverse_ige_block}
use Rattle.auth_keys.specs.Keys.{IsGoodAt}
use Rattle.auth_keys.specs.Rings.{entry_of}
use Rattle.auth_keys.specs.declared.key.KeyKind.{KeyKind}
use Rattle.auth_keys.specs.declared.key.KeyKind.TheVariants.{Perm, Temp}
use Rattle.auth_keys.specs.declared.ring.RingKey.{RingKey}
use Rattle.envelope.specs.declared.parts.Dir.{Dir}
use Rattle.envelope.specs.declared.parts.Envelope.{Envelope}
use Rattle.envelope.specs.declared.refusal.Refusal.TheVariants as refusals
use Rattle.envelope.specs.Lock.{ByteLaws}
use Rattle.envelope.specs.Opening.{HasKey, HasPlain, IsBodyLength, IsGoodKey, IsPacketSize, IsRefused, Opens, key_named, length_said, message_key_said, padding_left, text_of}
use Rattle.envelope.specs.Packet.{Lock}
use Rattle.envelope.specs.Reading.{IsWhole, envelope_in}
use Rattle.ring_rules.specs.Opening.{is_good_at, plain_in}
use Rattle.cmd_serve.specs.Packets.{is_body_length, is_packet_size, refusal_by, refusal_in, refusal_of, refusal_under}

-- ---- what is enciphered, deciphered, is bytes

module _ (append : (m n : ℕ) (xs ys : List ℕ) → HasBytes m xs → HasBytes n ys → HasBytes (m + n) (xs ++ ys)) (nil : HasBytes 0 [])
    (first_part : (n : ℕ) (xs : List ℕ) → n ≤ length xs → IsBytes xs → HasBytes n (take n xs)) (last_part : (i n : ℕ) (xs : List ℕ) → length xs ≡ i + n → IsBytes xs → HasBytes n (drop i xs))
    (xor : (n : ℕ) (xs ys : List ℕ) → HasBytes n xs → HasBytes n ys → HasBytes n (xor_bytes xs ys))
    (deciphered : (key block : List ℕ) → HasBytes 32 key → HasBytes 16 block → HasBytes 16 (inverse_aes key block)) where
  block-bytes : (key cipher plain text : List ℕ) → HasBytes 32 key → HasBytes 16 cipher → HasBytes 16 plain → HasBytes 16 text → HasBytes 16 (inverse_ige_block key cipher plain text)
  block-bytes key cipher plain text k hc hp ht =
      xor 16 (inverse_aes key (xor_bytes text plain)) cipher (deciphered key (xor_bytes text plain) k (xor 16 text plain ht hp)) hc

  after-bytes : (key : List ℕ) (n : ℕ) (cipher plain text : List ℕ) → HasBytes 32 key → HasBytes 16 cipher → HasBytes 16 plain → HasBytes (16 * n) text
      → HasBytes (16 * n) (inverse_ige_after key n cipher plain text)
  unfolding inverse_ige_after
  after-bytes key zero cipher plain text k hc hp ht = nil
  after-bytes key (suc n) cipher plain text k hc hp ht =
      let first : HasBytes 16 (take 16 text) = first_part 16 text (omega (arith, ht.count)) ht.in_range in
      let others : HasBytes (16 * n) (drop 16 text) = last_part 16 (16 * n) text (omega (arith, ht.count)) ht.in_range in
      let made = block-bytes key cipher plain (take 16 text) k hc hp first in
      let total : 16 * suc n ≡ 16 + 16 * n = omega arith in
      rw total (append 16 (16 * n) (inverse_ige_block key cipher plain (take 16 text)) _ made (after-bytes key n (take 16 text) (inverse_ige_block key cipher plain (take 16 text)) (drop 16 text) k first made others))

  pub deciphered-bytes : (key iv text : List ℕ) (n : ℕ) → HasBytes 32 key → HasBytes 32 iv → HasBytes (16 * n) text → HasBytes (16 * n) (inverse_ige key iv text)
  deciphered-bytes key iv text n k vector h =
      let blocks : length text / 16 ≡ n = omega (arith, h.count) in
      subst (λ (m : ℕ). HasBytes (16 * n) (inverse_ige_after key m (take 16 iv) (drop 16 iv) text)) (sym blocks)
      (after-bytes key n (take 16 iv) (drop 16 iv) text k
      (first_part 16 iv (omega (arith, vector.count)) vector.in_range) (last_part 16 16 iv vector.count vector.in_range) h)

-- ---- what the laws say of a lock

-- whole blocks of bytes are unlocked to as many bytes, and a packet opens to what its plain text spells, where that is whole
pub record IsReadable (lock : Lock) : Type 0 where
  pub unlocked : (key : List ℕ) (dir : Dir) (message_key text : List ℕ) (n : ℕ) → HasBytes (16 * n) text → HasBytes (16 * n) (lock.unlocked key dir message_key text)
  pub opens : (ring : List RingKey) (now : ℕ) (dir : Dir) (packet plain : List ℕ) → IsBytes packet → IsBytes plain → length plain ≡ length packet - 24
      → HasPlain lock ring now dir packet plain → IsWhole plain → Opens lock ring now dir packet (envelope_in (key_named packet) plain)

-- ---- tests

good-is : (now : ℕ) (kind : KeyKind) → is_good_at now kind ≡ true → IsGoodAt now kind
good-is now Perm e = tt
good-is now (Temp expires) e = ltb-true now expires e

is-good : (now : ℕ) (kind : KeyKind) → IsGoodAt now kind → is_good_at now kind ≡ true
is-good now Perm is = refl
is-good now (Temp expires) is = lt-ltb now expires is

size-is : (size : ℕ) → is_packet_size size ≡ true → IsPacketSize size
size-is size e =
    let a = and_parts _ _ e in
    let b = and_parts _ _ a.1 in
    record { least = leb-true 72 size a.0; most = leb-true size 1048576 b.0; blocks = eqb-true ((size - 24) % 16) 0 b.1 }

is-size : (size : ℕ) → IsPacketSize size → is_packet_size size ≡ true
is-size size is = and_from _ _ (le-leb 72 size is.least) (and_from _ _ (le-leb size 1048576 is.most) (eq-eqb ((size - 24) % 16) 0 is.blocks))

body-is : (plain : List ℕ) → is_body_length plain ≡ true → IsBodyLength plain (length_said plain)
body-is plain e =
    let a = and_parts _ _ e in
    record { words = eqb-true (length_said plain % 4) 0 a.0; within = leb-true (length_said plain) (length plain - 32) a.1 }

is-body : (plain : List ℕ) → IsBodyLength plain (length_said plain) → is_body_length plain ≡ true
is-body plain is = and_from _ _ (eq-eqb (length_said plain % 4) 0 is.words) (le-leb (length_said plain) (length plain - 32) is.within)

not-so : (b : Bool) → b ≡ false → b ≡ true → ⊥
not-so b is_false is_true = cc

-- ---- each case

-- it opens to nothing
abbrev pub OpensToNone : Lock → List RingKey → ℕ → Dir → List ℕ → Type 0
OpensToNone lock ring now dir packet = (envelope : Envelope) → Opens lock ring now dir packet envelope → ⊥

in-plain : (lock : Lock) → IsReadable lock → ByteLaws → (ring : List RingKey) (now : ℕ) (dir : Dir) (packet plain : List ℕ) (so : Bool)
    → IsBytes packet → IsBytes plain → length plain ≡ length packet - 24 → HasPlain lock ring now dir packet plain → OpensToNone lock ring now dir packet
    → is_body_length plain ≡ so → IsRefused lock ring now dir packet (if so then refusals.Padding (padding_left plain) else refusals.Length (length_said plain))
in-plain lock is laws ring now dir packet plain true bytes plain_bytes long read none so = record {
  plain = plain;
  opened = read;
  right_length = body-is plain so;
  counted = refl;
  wrong = λ right. none (envelope_in (key_named packet) plain)
      (is.opens ring now dir packet plain bytes plain_bytes long read (record { body = body-is plain so; padding = right }));
}
in-plain lock is laws ring now dir packet plain false bytes plain_bytes long read none so = record {
  plain = plain;
  opened = read;
  said_is = refl;
  wrong = λ right. not-so (is_body_length plain) so (is-body plain right);
}

under-key : (lock : Lock) → IsReadable lock → ByteLaws → (ring : List RingKey) (now : ℕ) (dir : Dir) (packet : List ℕ) (entry : RingKey) (so : Bool)
    → IsBytes packet → HasKey ring now packet entry → OpensToNone lock ring now dir packet
    → bytes_eq (message_key_said packet) (lock.message_key entry.key dir (plain_in lock entry.key dir packet)) ≡ so
    → IsRefused lock ring now dir packet (if so then refusal_in (plain_in lock entry.key dir packet)
    else refusals.KeyMismatch (message_key_said packet) (lock.message_key entry.key dir (plain_in lock entry.key dir packet)))
under-key lock is laws ring now dir packet entry true bytes under none so =
    let plain = plain_in lock entry.key dir packet in
    let size = under.size in
    let text_bytes : HasBytes (16 * ((length packet - 24) / 16)) (text_of packet) = record {
      count = omega (arith, length-drop 24 packet, size.blocks, size.least);
      in_range = laws.drop 24 packet bytes;
    } in
    let unlocked = is.unlocked entry.key dir (message_key_said packet) (text_of packet) ((length packet - 24) / 16) text_bytes in
    let long : length plain ≡ length packet - 24 = omega (arith, unlocked.count, size.blocks) in
    in-plain lock is laws ring now dir packet plain (is_body_length plain) bytes unlocked.in_range long
    (record { entry = entry; under = under; text = refl; message_key = (bytes_eq-Decides (message_key_said packet) (lock.message_key entry.key dir plain)).0 so }) none refl
under-key lock is laws ring now dir packet entry false bytes under none so =
    let plain = plain_in lock entry.key dir packet in
    record {
      entry = entry;
      under = under;
      said_is = refl;
      found_is = refl;
      apart = λ same. not-so (bytes_eq (message_key_said packet) (lock.message_key entry.key dir plain)) so ((bytes_eq-Decides (message_key_said packet) (lock.message_key entry.key dir plain)).1 same);
    }

-- no key of its identifier is good
none-good : (ring : List RingKey) (now id : ℕ) (entry : RingKey) → entry_of id ring ≡ Some entry → is_good_at now entry.kind ≡ false
    → (other : RingKey) → IsGoodKey ring now id other → ⊥
none-good ring now id entry found bad other good =
    let both : Some entry ≡ Some other = sym found ∙ good.found in
    let same : entry ≡ other = cc in
    not-so (is_good_at now entry.kind) bad (ap (λ (one : RingKey). is_good_at now one.kind) same ∙ is-good now other.kind good.good)

none-there : (ring : List RingKey) (now id : ℕ) → entry_of id ring ≡ None → (other : RingKey) → IsGoodKey ring now id other → ⊥
none-there ring now id found other good = let both : None ≡ Some other = sym found ∙ good.found in cc

by-good : (lock : Lock) → IsReadable lock → ByteLaws → (ring : List RingKey) (now : ℕ) (dir : Dir) (packet : List ℕ) (entry : RingKey) (so : Bool)
    → IsBytes packet → IsPacketSize (length packet) → OpensToNone lock ring now dir packet → entry_of (key_named packet) ring ≡ Some entry → is_good_at now entry.kind ≡ so
    → IsRefused lock ring now dir packet (if so then refusal_under lock dir packet entry.key else refusals.NoKey (key_named packet))
by-good lock is laws ring now dir packet entry true bytes size none found so =
    under-key lock is laws ring now dir packet entry (bytes_eq (message_key_said packet) (lock.message_key entry.key dir (plain_in lock entry.key dir packet)))
    bytes (record { size = size; key = record { found = found; good = good-is now entry.kind so } }) none refl
by-good lock is laws ring now dir packet entry false bytes size none found so =
    record { size = size; named = refl; none = none-good ring now (key_named packet) entry found so }

by-key : (lock : Lock) → IsReadable lock → ByteLaws → (ring : List RingKey) (now : ℕ) (dir : Dir) (packet : List ℕ) (entry : Option RingKey)
    → IsBytes packet → IsPacketSize (length packet) → OpensToNone lock ring now dir packet → entry_of (key_named packet) ring ≡ entry
    → IsRefused lock ring now dir packet (refusal_by lock now dir packet entry)
by-key lock is laws ring now dir packet None bytes size none found = record { size = size; named = refl; none = none-there ring now (key_named packet) found }
by-key lock is laws ring now dir packet (Some entry) bytes size none found =
    by-good lock is laws ring now dir packet entry (is_good_at now entry.kind) bytes size none found refl

by-size : (lock : Lock) → IsReadable lock → ByteLaws → (ring : List RingKey) (now : ℕ) (dir : Dir) (packet : List ℕ) (so : Bool)
    → IsBytes packet → OpensToNone lock ring now dir packet → is_packet_size (length packet) ≡ so
    → IsRefused lock ring now dir packet (if so then refusal_by lock now dir packet (entry_of (key_named packet) ring) else refusals.Size (length packet))
by-size lock is laws ring now dir packet true bytes none so =
    by-key lock is laws ring now dir packet (entry_of (key_named packet) ring) bytes (size-is (length packet) so) none refl
by-size lock is laws ring now dir packet false bytes none so = (refl, λ right. not-so (is_packet_size (length packet)) so (is-size (length packet) right))

pub refused-or-opens : (lock : Lock) → IsReadable lock → ByteLaws → (ring : List RingKey) (now : ℕ) (dir : Dir) (packet : List ℕ)
    → IsBytes packet → OpensToNone lock ring now dir packet → IsRefused lock ring now dir packet (refusal_of lock ring now dir packet)
refused-or-opens lock is laws ring now dir packet bytes none = by-size lock is laws ring now dir packet (is_packet_size (length packet)) bytes none refl
