-- That a seal opens what it sealed.
use Rattle.std.proofs.Common.{◌≡◌, ℕ, ◌<◌, ◌≤◌, ◌+◌, ◌-◌, ◌*◌, ◌/◌, ◌^◌, List, ◌++◌, length, drop, Some, refl, sym, ap, ◌∙◌, subst, arith, length-append, length-drop, drop-drop}
use Rattle.std.proofs.lemmas.List.{take_at, drop_at, take-append-drop, length-take-le}
use Rattle.byteorder.specs.Endian.{little_bytes}
use Rattle.byteorder.specs.Numbers.{little_number-reads_back, little_from-lt}
use Rattle.octets.specs.Bytes.{IsBytes, HasBytes}
use Rattle.auth_keys.specs.Keys.{IsGoodAt}
use Rattle.auth_keys.specs.Rings.{entry_of}
use Rattle.auth_keys.specs.declared.ring.RingKey.{RingKey}
use Rattle.envelope.specs.declared.parts.Dir.{Dir}
use Rattle.envelope.specs.declared.parts.Envelope.{Envelope}
use Rattle.envelope.specs.declared.parts.Opened.{Opened}
use Rattle.envelope.specs.declared.parts.Opened.TheVariants as opened
use Rattle.envelope.specs.declared.refusal.Refusal.{Refusal}
use Rattle.envelope.specs.declared.refusal.Refusal.TheVariants.{Size, NoKey, KeyMismatch, Length, Padding}
use Rattle.envelope.specs.Packet.{Lock, Sealed, IsEnvelope, plain_text, packet_of}
use Rattle.envelope.specs.Opening.{Opens, IsRefused, IsPacketSize, IsGoodKey, HasKey, HasPlain, IsKeyMismatch, IsBodyLength, key_named, message_key_said, text_of, length_said, padding_left}
use Rattle.envelope.specs.Answers.{IfEnvelope, IfRefused}
use Rattle.envelope.specs.Lawful.{OpensWhatItSealed}
use Rattle.envelope.specs.Lock.{IsLock, LocksAgain, ByteLaws}
use Rattle.envelope.specs.Reading.{envelope_in, IsWhole, IsPlainRefused, ReadsBack}
use Rattle.envelope.proofs.PlainTexts.{length-plain_text, HasBytes-plain_text, envelope_in-plain_text, padding-plain_text, plain_text-envelope_in, long_in_front, length_said-plain_text}

-- what is read of a packet that was sealed
pub record SealedParts (lock : Lock) (dir : Dir) (entry : RingKey) (envelope : Envelope) (padding packet : List ℕ) : Type 0 where
  pub size : IsPacketSize (length packet)
  pub counted : length packet ≡ 24 + 32 + length envelope.body + length padding
  pub named : key_named packet ≡ envelope.key
  pub short : length envelope.body < 2 ^ 32
  pub said : message_key_said packet ≡ lock.message_key entry.key dir (plain_text envelope padding)
  pub plain : lock.unlocked entry.key dir (message_key_said packet) (text_of packet) ≡ plain_text envelope padding

pub sealed_parts : (lock : Lock) → IsLock lock → ByteLaws → (ring : List RingKey) (dir : Dir) (envelope : Envelope) (padding packet : List ℕ)
    → (sealed : Sealed lock ring dir envelope padding packet) → SealedParts lock dir sealed.entry envelope padding packet
sealed_parts lock is laws ring dir envelope padding packet sealed =
    let key = sealed.entry.key in
    let plain = plain_text envelope padding in
    let message_key = lock.message_key key dir plain in
    let text = lock.locked key dir message_key plain in
    let blocks = (32 + length envelope.body + length padding) / 16 in
    let whole = HasBytes-plain_text laws envelope padding sealed.lawful sealed.padded in
    let sixteen = (is.message_key key dir plain).count in
    let same = is.same_length key dir message_key plain blocks whole in
    let long = length-plain_text envelope padding in
    let size_is : length packet ≡ 24 + (32 + length envelope.body + length padding) =
    ap length sealed.spelled ∙ omega (arith, length-append message_key text) in
    let named : key_named packet ≡ envelope.key =
    ap key_named sealed.spelled ∙ little_number-reads_back 8 envelope.key (message_key ++ text) sealed.lawful.key in
    let said : message_key_said packet ≡ message_key = ap message_key_said sealed.spelled ∙ take_at message_key text 16 sixteen in
    let text_is : text_of packet ≡ text = ap text_of sealed.spelled ∙ drop_at message_key text 16 sixteen in
    record {
      size = record {
        least = omega (arith, size_is, sealed.padded.least, sealed.padded.blocks);
        most = sealed.fits;
        blocks = omega (arith, size_is, sealed.padded.blocks);
      };
      counted = omega (arith, size_is);
      named = named;
      short = omega (arith, size_is, sealed.fits);
      said = said;
      plain = ap (λ m. lock.unlocked key dir m (text_of packet)) said ∙ ap (λ t. lock.unlocked key dir message_key t) text_is
          ∙ is.unlocked_again key dir message_key plain blocks whole;
    }

pub reads_back : (lock : Lock) → IsLock lock → ByteLaws → ReadsBack lock
reads_back lock is laws = record {
  named = λ ring dir envelope padding packet sealed. (sealed_parts lock is laws ring dir envelope padding packet sealed).named;
  envelope = λ ring dir envelope padding packet sealed.
      let a = sealed_parts lock is laws ring dir envelope padding packet sealed in
      ap (envelope_in envelope.key) a.plain ∙ envelope_in-plain_text envelope padding sealed.lawful a.short;
  padding = λ ring dir envelope padding packet sealed plain plain_is.
      let a = sealed_parts lock is laws ring dir envelope padding packet sealed in
      ap (λ (l : List ℕ). drop (length_said l) (drop 32 l)) (plain_is ∙ a.plain) ∙ padding-plain_text envelope padding a.short;
}

-- ---- one envelope

pub same_entry : (ring : List RingKey) (id other : ℕ) (a b : RingKey) → entry_of id ring ≡ Some a → entry_of other ring ≡ Some b → id ≡ other → a ≡ b
same_entry ring id other a b found found_other same =
    let at : entry_of other ring ≡ Some a = subst (λ (n : ℕ). entry_of n ring ≡ Some a) same found in
    let both : Some a ≡ Some b = sym at ∙ found_other in
    cc

pub one_sealed : (lock : Lock) → IsLock lock → ByteLaws → (ring : List RingKey) (dir : Dir) (packet : List ℕ) (envelope other : Envelope)
    (padding other_padding : List ℕ) → Sealed lock ring dir envelope padding packet → Sealed lock ring dir other other_padding packet
    → envelope ≡ other
one_sealed lock is laws ring dir packet envelope other padding other_padding sealed sealed_other =
    let a = sealed_parts lock is laws ring dir envelope padding packet sealed in
    let b = sealed_parts lock is laws ring dir other other_padding packet sealed_other in
    let same : envelope.key ≡ other.key = sym a.named ∙ b.named in
    let entry = same_entry ring envelope.key other.key sealed.entry sealed_other.entry sealed.found sealed_other.found same in
    let plain : plain_text envelope padding ≡ plain_text other other_padding =
    sym a.plain ∙ ap (λ (e : RingKey). lock.unlocked e.key dir (message_key_said packet) (text_of packet)) entry ∙ b.plain in
    sym (envelope_in-plain_text envelope padding sealed.lawful a.short)
    ∙ ap (λ (key : ℕ). envelope_in key (plain_text envelope padding)) same
    ∙ ap (envelope_in other.key) plain
    ∙ envelope_in-plain_text other other_padding sealed_other.lawful b.short

-- ---- what opens isn't refused

-- a plain text that is read of a packet that opens is that of the envelope
plain_is : (lock : Lock) → IsLock lock → ByteLaws → (ring : List RingKey) (now : ℕ) (dir : Dir) (packet : List ℕ) (envelope : Envelope)
    → (opens : Opens lock ring now dir packet envelope) → (plain : List ℕ) → HasPlain lock ring now dir packet plain
    → plain ≡ plain_text envelope opens.padding
plain_is lock is laws ring now dir packet envelope opens plain read =
    let a = sealed_parts lock is laws ring dir envelope opens.padding packet opens.sealed in
    let entry = same_entry ring (key_named packet) envelope.key read.entry opens.sealed.entry read.under.key.found opens.sealed.found a.named in
    read.text ∙ ap (λ (e : RingKey). lock.unlocked e.key dir (message_key_said packet) (text_of packet)) entry ∙ a.plain

pub not_both : (lock : Lock) → IsLock lock → ByteLaws → (ring : List RingKey) (now : ℕ) (dir : Dir) (packet : List ℕ) (envelope : Envelope) (refusal : Refusal)
    → Opens lock ring now dir packet envelope → IsRefused lock ring now dir packet refusal → ⊥
not_both lock is laws ring now dir packet envelope (Size len) opens (len_is, wrong) =
    let a = sealed_parts lock is laws ring dir envelope opens.padding packet opens.sealed in
    wrong (subst IsPacketSize (sym len_is) a.size)
not_both lock is laws ring now dir packet envelope (NoKey id) opens refused =
    let a = sealed_parts lock is laws ring dir envelope opens.padding packet opens.sealed in
    let same : envelope.key ≡ id = sym a.named ∙ sym refused.named in
    refused.none opens.sealed.entry (record {
      found = subst (λ (n : ℕ). entry_of n ring ≡ Some opens.sealed.entry) same opens.sealed.found;
      good = opens.good;
    })
not_both lock is laws ring now dir packet envelope (KeyMismatch said found) opens refused =
    let a = sealed_parts lock is laws ring dir envelope opens.padding packet opens.sealed in
    let entry = same_entry ring (key_named packet) envelope.key refused.entry opens.sealed.entry refused.under.key.found opens.sealed.found a.named in
    let plain : lock.unlocked refused.entry.key dir said (text_of packet) ≡ plain_text envelope opens.padding =
    ap (λ (m : List ℕ). lock.unlocked refused.entry.key dir m (text_of packet)) refused.said_is
    ∙ ap (λ (e : RingKey). lock.unlocked e.key dir (message_key_said packet) (text_of packet)) entry ∙ a.plain in
    let found_is : found ≡ lock.message_key opens.sealed.entry.key dir (plain_text envelope opens.padding) =
    refused.found_is ∙ ap (lock.message_key refused.entry.key dir) plain
    ∙ ap (λ (e : RingKey). lock.message_key e.key dir (plain_text envelope opens.padding)) entry in
    refused.apart (refused.said_is ∙ a.said ∙ sym found_is)
not_both lock is laws ring now dir packet envelope (Length said) opens refused =
    let a = sealed_parts lock is laws ring dir envelope opens.padding packet opens.sealed in
    let plain = plain_is lock is laws ring now dir packet envelope opens refused.plain refused.opened in
    let said_is : said ≡ length envelope.body =
    refused.said_is ∙ ap length_said plain ∙ length_said-plain_text envelope opens.padding a.short in
    let long : length refused.plain ≡ 32 + length envelope.body + length opens.padding =
    ap length plain ∙ length-plain_text envelope opens.padding in
    refused.wrong (record { words = rw said_is opens.sealed.lawful.words; within = omega arith })
not_both lock is laws ring now dir packet envelope (Padding bytes) opens refused =
    let a = sealed_parts lock is laws ring dir envelope opens.padding packet opens.sealed in
    let plain = plain_is lock is laws ring now dir packet envelope opens refused.plain refused.opened in
    let said_is : length_said refused.plain ≡ length envelope.body =
    ap length_said plain ∙ length_said-plain_text envelope opens.padding a.short in
    let long : length refused.plain ≡ 32 + length envelope.body + length opens.padding =
    ap length plain ∙ length-plain_text envelope opens.padding in
    let count : bytes ≡ length opens.padding = omega (arith, refused.counted) in
    refused.wrong (record { least = omega (arith, opens.sealed.padded.least); most = omega (arith, opens.sealed.padded.most) })

-- ---- what was sealed, by the key at a now

opens_again : (lock : Lock) (ring : List RingKey) (now : ℕ) (dir : Dir) (envelope : Envelope) (padding packet : List ℕ) (entry : RingKey)
    → Sealed lock ring dir envelope padding packet → IsGoodKey ring now envelope.key entry → Opens lock ring now dir packet envelope
opens_again lock ring now dir envelope padding packet entry sealed key = record {
  padding = padding;
  sealed = sealed;
  good = subst (λ (e : RingKey). IsGoodAt now e.kind)
      (same_entry ring envelope.key envelope.key entry sealed.entry key.found sealed.found refl) key.good;
}

refused_otherwise : (lock : Lock) → IsLock lock → ByteLaws → (ring : List RingKey) (now : ℕ) (dir : Dir) (envelope : Envelope) (padding packet : List ℕ)
    → Sealed lock ring dir envelope padding packet → ((entry : RingKey) → IsGoodKey ring now envelope.key entry → ⊥)
    → IsRefused lock ring now dir packet (NoKey envelope.key)
refused_otherwise lock is laws ring now dir envelope padding packet sealed none =
    let a = sealed_parts lock is laws ring dir envelope padding packet sealed in
    record { size = a.size; named = sym a.named; none = none }

pub opens_what_it_sealed : (lock : Lock) → IsLock lock → ByteLaws → OpensWhatItSealed lock
opens_what_it_sealed lock is laws = record {
  size = λ ring dir envelope padding packet sealed. (sealed_parts lock is laws ring dir envelope padding packet sealed).counted;
  one_envelope = λ ring now dir packet envelope other opens opens_other. one_sealed lock is laws ring dir packet envelope other
      opens.padding opens_other.padding opens.sealed opens_other.sealed;
  not_both = not_both lock is laws;
  opens = opens_again lock;
  no_other = λ ring now dir envelope padding packet other sealed opens. one_sealed lock is laws ring dir packet envelope other
      padding opens.padding sealed opens.sealed;
  refused_otherwise = refused_otherwise lock is laws;
}

-- ---- a packet whose plain text is whole opens

numbers_fit : ByteLaws → (key : ℕ) (plain : List ℕ) → key < 2 ^ 64 → IsBytes plain → 32 ≤ length plain → IsBodyLength plain (length_said plain)
    → IsEnvelope (envelope_in key plain)
unfolding envelope_in
numbers_fit laws key plain fits bytes enough said =
    let room = length-drop 32 plain in
    let within = said.within in
    let body_length = length-take-le (length_said plain) (drop 32 plain) (omega arith) in
    record {
      key = fits;
      salt = little_from-lt 0 8 plain bytes;
      session = little_from-lt 0 8 (drop 8 plain) (laws.drop 8 plain bytes);
      number = little_from-lt 0 8 (drop 16 plain) (laws.drop 16 plain bytes);
      seq = little_from-lt 0 4 (drop 24 plain) (laws.drop 24 plain bytes);
      bytes = laws.take (length_said plain) (drop 32 plain) (laws.drop 32 plain bytes);
      words = rw body_length said.words;
    }

key_of-envelope_in : (key : ℕ) (plain : List ℕ) → (envelope_in key plain).key ≡ key
unfolding envelope_in
key_of-envelope_in key plain = refl

body_of-envelope_in : (key : ℕ) (plain : List ℕ) → 32 ≤ length plain → length_said plain ≤ length plain - 32
    → length (envelope_in key plain).body ≡ length_said plain
unfolding envelope_in
body_of-envelope_in key plain enough within = length-take-le (length_said plain) (drop 32 plain) (omega (arith, length-drop 32 plain))

pub opens_whole : (lock : Lock) → LocksAgain lock → ByteLaws → (ring : List RingKey) (now : ℕ) (dir : Dir) (packet plain : List ℕ)
    → IsBytes packet → IsBytes plain → length plain ≡ length packet - 24 → HasPlain lock ring now dir packet plain → IsWhole plain
    → Opens lock ring now dir packet (envelope_in (key_named packet) plain)
opens_whole lock again laws ring now dir packet plain bytes plain_bytes long read whole =
    let size = read.under.size in
    let least = size.least in
    let blocks = size.blocks in
    let id = key_named packet in
    let said = message_key_said packet in
    let text = text_of packet in
    let key = read.entry.key in
    let envelope = envelope_in id plain in
    let padding = drop (length_said plain) (drop 32 plain) in
    let within = whole.body.within in
    let padding_least = whole.padding.least in
    let padding_most = whole.padding.most in
    let text_bytes : HasBytes (16 * ((length packet - 24) / 16)) text = record {
      count = omega (arith, length-drop 24 packet);
      in_range = laws.drop 24 packet bytes;
    } in
    let plain_is : plain_text envelope padding ≡ plain = plain_text-envelope_in laws id plain plain_bytes (omega arith) within in
    let key_is : envelope.key ≡ id = key_of-envelope_in id plain in
    let message_key_is : lock.message_key key dir (plain_text envelope padding) ≡ said =
    ap (lock.message_key key dir) plain_is ∙ sym read.message_key in
    let text_is : lock.locked key dir said plain ≡ text =
    ap (lock.locked key dir said) read.text ∙ again key dir said text _ text_bytes in
    let behind : said ++ text ≡ drop 8 packet =
    ap (λ (l : List ℕ). said ++ l) (sym (drop-drop 16 8 packet)) ∙ take-append-drop 16 (drop 8 packet) in
    let spelled : packet_of lock key dir envelope padding ≡ packet =
    ap (λ (m : List ℕ). little_bytes 8 envelope.key ++ (m ++ lock.locked key dir m (plain_text envelope padding))) message_key_is
    ∙ ap (λ (p : List ℕ). little_bytes 8 envelope.key ++ (said ++ lock.locked key dir said p)) plain_is
    ∙ ap (λ (t : List ℕ). little_bytes 8 envelope.key ++ (said ++ t)) text_is
    ∙ ap (λ (k : ℕ). little_bytes 8 k ++ (said ++ text)) key_is
    ∙ long_in_front laws packet (said ++ text) (omega arith) bytes behind in
    let body_is = body_of-envelope_in id plain (omega arith) within in
    let padding_is : length padding ≡ padding_left plain = length-drop (length_said plain) (drop 32 plain) ∙ omega (arith, length-drop 32 plain) in
    record {
      padding = padding;
      sealed = record {
        entry = read.entry;
        found = subst (λ (k : ℕ). entry_of k ring ≡ Some read.entry) (sym key_is) read.under.key.found;
        lawful = numbers_fit laws id plain (little_from-lt 0 8 packet bytes) plain_bytes (omega arith) whole.body;
        padded = record {
          least = omega arith;
          most = omega arith;
          bytes = laws.drop (length_said plain) (drop 32 plain) (laws.drop 32 plain plain_bytes);
          blocks = omega (arith, body_is, padding_is, blocks, long);
        };
        spelled = sym spelled;
        fits = size.most;
      };
      good = read.under.key.good;
    }

-- ---- answers of reading a plain text

pub plain_refused : (lock : Lock) (ring : List RingKey) (now : ℕ) (dir : Dir) (packet plain : List ℕ) → HasPlain lock ring now dir packet plain
    → (refusal : Refusal) → IsPlainRefused plain refusal → IsRefused lock ring now dir packet refusal
plain_refused lock ring now dir packet plain read (Size len) wrong = absurd wrong
plain_refused lock ring now dir packet plain read (NoKey id) wrong = absurd wrong
plain_refused lock ring now dir packet plain read (KeyMismatch said found) wrong = absurd wrong
plain_refused lock ring now dir packet plain read (Length said) (said_is, wrong) = record { plain = plain; opened = read; said_is = said_is; wrong = wrong }
plain_refused lock ring now dir packet plain read (Padding bytes) (right, (counted, wrong)) =
    record { plain = plain; opened = read; right_length = right; counted = counted; wrong = wrong }

pub envelope_answered : (lock : Lock) → IsLock lock → ByteLaws → (ring : List RingKey) (now : ℕ) (dir : Dir) (packet plain : List ℕ)
    → IsBytes packet → IsBytes plain → length plain ≡ length packet - 24 → HasPlain lock ring now dir packet plain
    → (id : ℕ) → id ≡ key_named packet
    → (answer : Opened) → IfEnvelope answer (λ e. (e ≡ envelope_in id plain) × IsWhole plain)
    → IfEnvelope answer (Opens lock ring now dir packet)
envelope_answered lock is laws ring now dir packet plain bytes plain_bytes long read id named (opened.Envelope e) (e_is, whole) =
    subst (Opens lock ring now dir packet) (sym (e_is ∙ ap (λ (k : ℕ). envelope_in k plain) named)) (opens_whole lock is.locked_again laws ring now dir packet plain bytes plain_bytes long read whole)
envelope_answered lock is laws ring now dir packet plain bytes plain_bytes long read id named (opened.Refused refusal) fact = tt
envelope_answered lock is laws ring now dir packet plain bytes plain_bytes long read id named opened.Memory fact = tt

pub refusal_answered : (lock : Lock) (ring : List RingKey) (now : ℕ) (dir : Dir) (packet plain : List ℕ) → HasPlain lock ring now dir packet plain
    → (answer : Opened) → IfRefused answer (IsPlainRefused plain) → IfRefused answer (IsRefused lock ring now dir packet)
refusal_answered lock ring now dir packet plain read (opened.Envelope e) fact = tt
refusal_answered lock ring now dir packet plain read (opened.Refused refusal) fact = plain_refused lock ring now dir packet plain read refusal fact
refusal_answered lock ring now dir packet plain read opened.Memory fact = tt

-- ---- what the code found on the way

pub has_key : (ring : List RingKey) (now : ℕ) (packet : List ℕ) (id : ℕ) (entry : RingKey) → IsPacketSize (length packet)
    → id ≡ key_named packet → IsGoodKey ring now id entry → HasKey ring now packet entry
has_key ring now packet id entry size named good = record { size = size; key = subst (λ (n : ℕ). IsGoodKey ring now n entry) named good }

pub has_plain : (lock : Lock) (ring : List RingKey) (now : ℕ) (dir : Dir) (packet plain said found key : List ℕ) (entry : RingKey)
    → HasKey ring now packet entry → key ≡ entry.key → said ≡ message_key_said packet
    → plain ≡ lock.unlocked key dir said (text_of packet) → found ≡ lock.message_key key dir plain → said ≡ found
    → HasPlain lock ring now dir packet plain
has_plain lock ring now dir packet plain said found key entry under key_is said_is plain_is found_is same = record {
  entry = entry;
  under = under;
  text = plain_is ∙ ap (λ (k : List ℕ). lock.unlocked k dir said (text_of packet)) key_is
      ∙ ap (λ (m : List ℕ). lock.unlocked entry.key dir m (text_of packet)) said_is;
  message_key = sym said_is ∙ same ∙ found_is ∙ ap (λ (k : List ℕ). lock.message_key k dir plain) key_is;
}

pub has_mismatch : (lock : Lock) (ring : List RingKey) (now : ℕ) (dir : Dir) (packet plain said found key : List ℕ) (entry : RingKey)
    → HasKey ring now packet entry → key ≡ entry.key → said ≡ message_key_said packet
    → plain ≡ lock.unlocked key dir said (text_of packet) → found ≡ lock.message_key key dir plain → (said ≡ found → ⊥)
    → IsKeyMismatch lock ring now dir packet said found
has_mismatch lock ring now dir packet plain said found key entry under key_is said_is plain_is found_is apart = record {
  entry = entry;
  under = under;
  said_is = said_is;
  found_is = found_is ∙ ap (lock.message_key key dir) plain_is
      ∙ ap (λ (k : List ℕ). lock.message_key k dir (lock.unlocked k dir said (text_of packet))) key_is;
  apart = apart;
}
