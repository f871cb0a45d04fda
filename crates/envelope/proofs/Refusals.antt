-- That a packet is refused for one cause.
use Rattle.std.proofs.Common.{◌≡◌, ◌≢◌, ℕ, ◌∷◌, List, length, refl, sym, ap, ap₂, ◌∙◌, subst, replicate}
use Rattle.auth_keys.specs.declared.ring.RingKey.{RingKey}
use Rattle.envelope.specs.declared.parts.Dir.{Dir}
use Rattle.envelope.specs.declared.parts.Dir.TheVariants.{Up, Down}
use Rattle.envelope.specs.declared.parts.Envelope.{Envelope}
use Rattle.envelope.specs.declared.refusal.Refusal.{Refusal}
use Rattle.envelope.specs.declared.refusal.Refusal.TheVariants.{Size, NoKey, KeyMismatch, Length, Padding}
use Rattle.envelope.specs.Packet.{Lock, Sealed}
use Rattle.envelope.specs.Opening.{Opens, IsRefused, IsPacketSize, IsGoodKey, HasKey, HasPlain, IsNoKey, IsKeyMismatch, IsWrongLength, IsWrongPadding, IsBodyLength, key_named, message_key_said, text_of, length_said, padding_left}
use Rattle.envelope.specs.Lock.{IsLock, ByteLaws, clear_lock, dir_byte}
use Rattle.envelope.proofs.Openings.{same_entry, sealed_parts}

entry_same : (ring : List RingKey) (now : ℕ) (packet : List ℕ) (a b : RingKey) → HasKey ring now packet a → HasKey ring now packet b → a ≡ b
entry_same ring now packet a b under other =
    same_entry ring (key_named packet) (key_named packet) a b under.key.found other.key.found refl

plain_same : (lock : Lock) (ring : List RingKey) (now : ℕ) (dir : Dir) (packet p q : List ℕ) → HasPlain lock ring now dir packet p → HasPlain lock ring now dir packet q → p ≡ q
plain_same lock ring now dir packet p q read other =
    read.text ∙ ap (λ (e : RingKey). lock.unlocked e.key dir (message_key_said packet) (text_of packet)) (entry_same ring now packet read.entry other.entry read.under other.under)
    ∙ sym other.text

not_size : (packet : List ℕ) (len : ℕ) → len ≡ length packet → (IsPacketSize len → ⊥) → IsPacketSize (length packet) → ⊥
not_size packet len is wrong size = wrong (subst IsPacketSize (sym is) size)

not_no_key : (ring : List RingKey) (now : ℕ) (packet : List ℕ) (id : ℕ) (entry : RingKey) → IsNoKey ring now packet id → HasKey ring now packet entry → ⊥
not_no_key ring now packet id entry none under =
    none.none entry (subst (λ (n : ℕ). IsGoodKey ring now n entry) (sym none.named) under.key)

not_mismatch : (lock : Lock) (ring : List RingKey) (now : ℕ) (dir : Dir) (packet said found plain : List ℕ)
    → IsKeyMismatch lock ring now dir packet said found → HasPlain lock ring now dir packet plain → ⊥
not_mismatch lock ring now dir packet said found plain mismatch read =
    let entry = entry_same ring now packet mismatch.entry read.entry mismatch.under read.under in
    let plain_is : lock.unlocked mismatch.entry.key dir said (text_of packet) ≡ plain =
    ap (λ (m : List ℕ). lock.unlocked mismatch.entry.key dir m (text_of packet)) mismatch.said_is
    ∙ ap (λ (e : RingKey). lock.unlocked e.key dir (message_key_said packet) (text_of packet)) entry ∙ sym read.text in
    let found_is : found ≡ lock.message_key read.entry.key dir plain =
    mismatch.found_is ∙ ap (lock.message_key mismatch.entry.key dir) plain_is
    ∙ ap (λ (e : RingKey). lock.message_key e.key dir plain) entry in
    mismatch.apart (mismatch.said_is ∙ read.message_key ∙ sym found_is)

not_length : (lock : Lock) (ring : List RingKey) (now : ℕ) (dir : Dir) (packet : List ℕ) (said count : ℕ)
    → IsWrongLength lock ring now dir packet said → IsWrongPadding lock ring now dir packet count → ⊥
not_length lock ring now dir packet said count wrong padding =
    let plain = plain_same lock ring now dir packet wrong.plain padding.plain wrong.opened padding.opened in
    let P : List ℕ → Type 0 = λ p. IsBodyLength p (length_said p) in
    wrong.wrong (subst (λ (n : ℕ). IsBodyLength wrong.plain n) (sym wrong.said_is) (subst P (sym plain) padding.right_length))

same_mismatch : (lock : Lock) (ring : List RingKey) (now : ℕ) (dir : Dir) (packet said found said' found' : List ℕ)
    → IsKeyMismatch lock ring now dir packet said found → IsKeyMismatch lock ring now dir packet said' found'
    → KeyMismatch said found ≡ KeyMismatch said' found'
same_mismatch lock ring now dir packet said found said' found' a b =
    let entry = entry_same ring now packet a.entry b.entry a.under b.under in
    let said_is : said ≡ said' = a.said_is ∙ sym b.said_is in
    let found_is : found ≡ found' =
    a.found_is ∙ ap (λ (m : List ℕ). lock.message_key a.entry.key dir (lock.unlocked a.entry.key dir m (text_of packet))) said_is
    ∙ ap (λ (e : RingKey). lock.message_key e.key dir (lock.unlocked e.key dir said' (text_of packet))) entry ∙ sym b.found_is in
    ap₂ KeyMismatch said_is found_is

pub one_refusal : (lock : Lock) (ring : List RingKey) (now : ℕ) (dir : Dir) (packet : List ℕ) (refusal other : Refusal)
    → IsRefused lock ring now dir packet refusal → IsRefused lock ring now dir packet other → refusal ≡ other
one_refusal lock ring now dir packet (Size a) (Size b) x y = ap Size (x.0 ∙ sym y.0)
one_refusal lock ring now dir packet (Size a) (NoKey b) x y = absurd (not_size packet a x.0 x.1 y.size)
one_refusal lock ring now dir packet (Size a) (KeyMismatch b b') x y = absurd (not_size packet a x.0 x.1 y.under.size)
one_refusal lock ring now dir packet (Size a) (Length b) x y = absurd (not_size packet a x.0 x.1 y.opened.under.size)
one_refusal lock ring now dir packet (Size a) (Padding b) x y = absurd (not_size packet a x.0 x.1 y.opened.under.size)
one_refusal lock ring now dir packet (NoKey a) (Size b) x y = absurd (not_size packet b y.0 y.1 x.size)
one_refusal lock ring now dir packet (NoKey a) (NoKey b) x y = ap NoKey (x.named ∙ sym y.named)
one_refusal lock ring now dir packet (NoKey a) (KeyMismatch b b') x y = absurd (not_no_key ring now packet a y.entry x y.under)
one_refusal lock ring now dir packet (NoKey a) (Length b) x y = absurd (not_no_key ring now packet a y.opened.entry x y.opened.under)
one_refusal lock ring now dir packet (NoKey a) (Padding b) x y = absurd (not_no_key ring now packet a y.opened.entry x y.opened.under)
one_refusal lock ring now dir packet (KeyMismatch a a') (Size b) x y = absurd (not_size packet b y.0 y.1 x.under.size)
one_refusal lock ring now dir packet (KeyMismatch a a') (NoKey b) x y = absurd (not_no_key ring now packet b x.entry y x.under)
one_refusal lock ring now dir packet (KeyMismatch a a') (KeyMismatch b b') x y = same_mismatch lock ring now dir packet a a' b b' x y
one_refusal lock ring now dir packet (KeyMismatch a a') (Length b) x y = absurd (not_mismatch lock ring now dir packet a a' y.plain x y.opened)
one_refusal lock ring now dir packet (KeyMismatch a a') (Padding b) x y = absurd (not_mismatch lock ring now dir packet a a' y.plain x y.opened)
one_refusal lock ring now dir packet (Length a) (Size b) x y = absurd (not_size packet b y.0 y.1 x.opened.under.size)
one_refusal lock ring now dir packet (Length a) (NoKey b) x y = absurd (not_no_key ring now packet b x.opened.entry y x.opened.under)
one_refusal lock ring now dir packet (Length a) (KeyMismatch b b') x y = absurd (not_mismatch lock ring now dir packet b b' x.plain y x.opened)
one_refusal lock ring now dir packet (Length a) (Length b) x y =
    ap Length (x.said_is ∙ ap length_said (plain_same lock ring now dir packet x.plain y.plain x.opened y.opened) ∙ sym y.said_is)
one_refusal lock ring now dir packet (Length a) (Padding b) x y = absurd (not_length lock ring now dir packet a b x y)
one_refusal lock ring now dir packet (Padding a) (Size b) x y = absurd (not_size packet b y.0 y.1 x.opened.under.size)
one_refusal lock ring now dir packet (Padding a) (NoKey b) x y = absurd (not_no_key ring now packet b x.opened.entry y x.opened.under)
one_refusal lock ring now dir packet (Padding a) (KeyMismatch b b') x y = absurd (not_mismatch lock ring now dir packet b b' x.plain y x.opened)
one_refusal lock ring now dir packet (Padding a) (Length b) x y = absurd (not_length lock ring now dir packet b a y x)
one_refusal lock ring now dir packet (Padding a) (Padding b) x y =
    ap Padding (x.counted ∙ ap padding_left (plain_same lock ring now dir packet x.plain y.plain x.opened y.opened) ∙ sym y.counted)

-- ---- without a cipher

same_dir : (dir other : Dir) → dir_byte dir ≡ dir_byte other → dir ≡ other
same_dir Up Up same = refl
same_dir Up Down same = cc
same_dir Down Up same = cc
same_dir Down Down same = refl

pub one_way : IsLock clear_lock → ByteLaws → (ring : List RingKey) (now : ℕ) (dir other : Dir) (envelope : Envelope) (padding packet : List ℕ) (opened : Envelope)
    → dir ≢ other → Sealed clear_lock ring dir envelope padding packet → Opens clear_lock ring now other packet opened → ⊥
one_way is laws ring now dir other envelope padding packet opened apart sealed opens =
    let a = sealed_parts clear_lock is laws ring dir envelope padding packet sealed in
    let b = sealed_parts clear_lock is laws ring other opened opens.padding packet opens.sealed in
    let both : (dir_byte dir ∷ replicate 15 0) ≡ (dir_byte other ∷ replicate 15 0) = sym a.said ∙ b.said in
    let first : dir_byte dir ≡ dir_byte other = cc in
    apart (same_dir dir other first)
