-- What is worked out of a packet is what it opens to.
use Rattle.std.proofs.Common.{◌≡◌, ◌∙◌, ℕ, ◌+◌, ◌%◌, Bool, true, false, if◌then◌else◌, ◌&&◌, Option, Some, None, List, length, refl, sym, ap, subst}
use Rattle.std.proofs.lemmas.Bool.{and_from, and_parts, ltb-true, lt-ltb, leb-true, le-leb, eqb-true, eq-eqb}
use Rattle.auth_keys.specs.Keys.{IsGoodAt}
use Rattle.auth_keys.specs.Rings.{entry_of}
use Rattle.auth_keys.specs.declared.key.KeyKind.{KeyKind}
use Rattle.auth_keys.specs.declared.key.KeyKind.TheVariants.{Perm, Temp}
use Rattle.auth_keys.specs.declared.ring.RingKey.{RingKey}
use Rattle.envelope.specs.declared.parts.Dir.{Dir}
use Rattle.envelope.specs.declared.parts.Envelope.{Envelope}
use Rattle.envelope.specs.Opening.{Opens, key_named}
use Rattle.envelope.specs.Packet.{IsEnvelope, IsPadding, Lock, Sealed, packet_of}
use Rattle.envelope.specs.Reading.{envelope_in, ReadsBack}
use Rattle.ring_rules.specs.Opening.{is_envelope, is_good_at, is_padding, is_sealed, opened, opened_under, padding_in, plain_in}
use Rattle.ring_rules.proofs.Bytes.{are-bytes, bytes-are, bytes-same, same-bytes}

-- ---- tests

good-is : (now : ℕ) (kind : KeyKind) → is_good_at now kind ≡ true → IsGoodAt now kind
good-is now Perm e = tt
good-is now (Temp expires) e = ltb-true now expires e

is-good : (now : ℕ) (kind : KeyKind) → IsGoodAt now kind → is_good_at now kind ≡ true
is-good now Perm is = refl
is-good now (Temp expires) is = lt-ltb now expires is

envelope-is : (envelope : Envelope) → is_envelope envelope ≡ true → IsEnvelope envelope
envelope-is envelope e =
    let a = and_parts _ _ e in
    let b = and_parts _ _ a.1 in
    let c = and_parts _ _ b.1 in
    let d = and_parts _ _ c.1 in
    let f = and_parts _ _ d.1 in
    let g = and_parts _ _ f.1 in
    record {
      key = ltb-true envelope.key 18446744073709551616 a.0;
      salt = ltb-true envelope.salt 18446744073709551616 b.0;
      session = ltb-true envelope.session 18446744073709551616 c.0;
      number = ltb-true envelope.number 18446744073709551616 d.0;
      seq = ltb-true envelope.seq 4294967296 f.0;
      bytes = are-bytes envelope.body g.0;
      words = eqb-true (length envelope.body % 4) 0 g.1;
    }

is-envelope : (envelope : Envelope) → IsEnvelope envelope → is_envelope envelope ≡ true
is-envelope envelope is =
    and_from _ _ (lt-ltb envelope.key 18446744073709551616 is.key)
    (and_from _ _ (lt-ltb envelope.salt 18446744073709551616 is.salt)
    (and_from _ _ (lt-ltb envelope.session 18446744073709551616 is.session)
    (and_from _ _ (lt-ltb envelope.number 18446744073709551616 is.number)
    (and_from _ _ (lt-ltb envelope.seq 4294967296 is.seq)
    (and_from _ _ (bytes-are envelope.body is.bytes) (eq-eqb (length envelope.body % 4) 0 is.words))))))

padding-is : (body : ℕ) (padding : List ℕ) → is_padding body padding ≡ true → IsPadding body padding
padding-is body padding e =
    let a = and_parts _ _ e in
    let b = and_parts _ _ a.1 in
    let c = and_parts _ _ b.1 in
    record {
      least = leb-true 12 (length padding) a.0;
      most = leb-true (length padding) 1024 b.0;
      bytes = are-bytes padding c.0;
      blocks = eqb-true ((32 + body + length padding) % 16) 0 c.1;
    }

is-padding : (body : ℕ) (padding : List ℕ) → IsPadding body padding → is_padding body padding ≡ true
is-padding body padding is =
    and_from _ _ (le-leb 12 (length padding) is.least)
    (and_from _ _ (le-leb (length padding) 1024 is.most)
    (and_from _ _ (bytes-are padding is.bytes) (eq-eqb ((32 + body + length padding) % 16) 0 is.blocks)))

-- ---- what is worked out is an opening

key-kept : (key : ℕ) (plain : List ℕ) → (envelope_in key plain).key ≡ key
unfolding envelope_in
key-kept key plain = refl

abbrev sealed-is : (lock : Lock) (ring : List RingKey) (dir : Dir) (entry : RingKey) (envelope : Envelope) (padding packet : List ℕ)
    → entry_of envelope.key ring ≡ Some entry → is_sealed lock entry.key dir envelope padding packet ≡ true → Sealed lock ring dir envelope padding packet
sealed-is lock ring dir entry envelope padding packet found e =
    let a = and_parts _ _ e in
    let b = and_parts _ _ a.1 in
    let c = and_parts _ _ b.1 in
    record {
      entry = entry;
      found = found;
      lawful = envelope-is envelope b.0;
      padded = padding-is (length envelope.body) padding c.0;
      spelled = same-bytes packet (packet_of lock entry.key dir envelope padding) a.0;
      fits = leb-true (length packet) 1048576 c.1;
    }

opens-so : (lock : Lock) (ring : List RingKey) (now : ℕ) (dir : Dir) (packet : List ℕ) (entry : RingKey) (envelope other : Envelope) (padding : List ℕ) (so : Bool)
    → entry_of envelope.key ring ≡ Some entry → so ≡ (is_good_at now entry.kind && is_sealed lock entry.key dir envelope padding packet)
    → (if so then Some envelope else None) ≡ Some other → Opens lock ring now dir packet other
opens-so lock ring now dir packet entry envelope other padding true found is e =
    let parts = and_parts _ _ (sym is) in
    let same : envelope ≡ other = cc in
    let sealed = sealed-is lock ring dir entry envelope padding packet found parts.1 in
    subst (λ (one : Envelope). Opens lock ring now dir packet one) same
    (record { padding = padding; sealed = sealed; good = good-is now entry.kind parts.0 })
opens-so lock ring now dir packet entry envelope other padding false found is e = cc

opens-under : (lock : Lock) (ring : List RingKey) (now : ℕ) (dir : Dir) (packet : List ℕ) (entry : Option RingKey) (envelope : Envelope)
    → entry_of (key_named packet) ring ≡ entry → opened_under lock now dir packet entry ≡ Some envelope → Opens lock ring now dir packet envelope
opens-under lock ring now dir packet None envelope found e = cc
opens-under lock ring now dir packet (Some entry) envelope found e =
    let plain = plain_in lock entry.key dir packet in
    let read = envelope_in (key_named packet) plain in
    let there : entry_of read.key ring ≡ Some entry = ap (λ (key : ℕ). entry_of key ring) (key-kept (key_named packet) plain) ∙ found in
    opens-so lock ring now dir packet entry read envelope (padding_in plain) (is_good_at now entry.kind && is_sealed lock entry.key dir read (padding_in plain) packet) there refl e

pub opens-as_worked_out : (lock : Lock) (ring : List RingKey) (now : ℕ) (dir : Dir) (packet : List ℕ) (envelope : Envelope)
    → opened lock ring now dir packet ≡ Some envelope → Opens lock ring now dir packet envelope
unfolding opened
opens-as_worked_out lock ring now dir packet envelope e =
    opens-under lock ring now dir packet (entry_of (key_named packet) ring) envelope refl e

-- ---- and an opening is worked out

is-sealed : (lock : Lock) (ring : List RingKey) (dir : Dir) (envelope : Envelope) (padding packet : List ℕ) → (sealed : Sealed lock ring dir envelope padding packet)
    → is_sealed lock sealed.entry.key dir envelope padding packet ≡ true
is-sealed lock ring dir envelope padding packet sealed =
    and_from _ _ (bytes-same packet (packet_of lock sealed.entry.key dir envelope padding) sealed.spelled)
    (and_from _ _ (is-envelope envelope sealed.lawful)
    (and_from _ _ (is-padding (length envelope.body) padding sealed.padded) (le-leb (length packet) 1048576 sealed.fits)))

if-so : (so : Bool) (envelope : Envelope) → so ≡ true → (if so then Some envelope else None) ≡ Some envelope
if-so true envelope e = refl
if-so false envelope e = cc

worked-out-so : (lock : Lock) (now : ℕ) (dir : Dir) (packet : List ℕ) (entry : RingKey) (read envelope : Envelope) (behind padding : List ℕ)
    → read ≡ envelope → behind ≡ padding → IsGoodAt now entry.kind → is_sealed lock entry.key dir envelope padding packet ≡ true
    → (if is_good_at now entry.kind && is_sealed lock entry.key dir read behind packet then Some read else None) ≡ Some envelope
worked-out-so lock now dir packet entry read envelope behind padding same same_padding good sealed =
    rw (same, same_padding)
    (if-so (is_good_at now entry.kind && is_sealed lock entry.key dir envelope padding packet) envelope (and_from _ _ (is-good now entry.kind good) sealed))

pub worked_out-as_opens : (lock : Lock) → ReadsBack lock → (ring : List RingKey) (now : ℕ) (dir : Dir) (packet : List ℕ) (envelope : Envelope)
    → Opens lock ring now dir packet envelope → opened lock ring now dir packet ≡ Some envelope
unfolding opened
worked_out-as_opens lock back ring now dir packet envelope opens =
    let sealed = opens.sealed in
    let entry = sealed.entry in
    let named = back.named ring dir envelope opens.padding packet sealed in
    let found : entry_of (key_named packet) ring ≡ Some entry = ap (λ (key : ℕ). entry_of key ring) named ∙ sealed.found in
    let read : envelope_in (key_named packet) (plain_in lock entry.key dir packet) ≡ envelope =
    ap (λ (key : ℕ). envelope_in key (plain_in lock entry.key dir packet)) named
    ∙ back.envelope ring dir envelope opens.padding packet sealed in
    let behind : padding_in (plain_in lock entry.key dir packet) ≡ opens.padding =
    back.padding ring dir envelope opens.padding packet sealed (plain_in lock entry.key dir packet) refl in
    ap (opened_under lock now dir packet) found
    ∙ worked-out-so lock now dir packet entry (envelope_in (key_named packet) (plain_in lock entry.key dir packet)) envelope
    (padding_in (plain_in lock entry.key dir packet)) opens.padding read behind opens.good (is-sealed lock ring dir envelope opens.padding packet sealed)
