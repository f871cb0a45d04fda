-- Plain texts of binding messages, and how they are deciphered.
use Rattle.std.proofs.Common.{◌≡◌, ◌∙◌, ℕ, zero, suc, ◌+◌, ◌<◌, ◌≤◌, List, ◌∷◌, ◌++◌, length, take, drop, sym, ap, refl, subst, arith, append_assoc, drop-drop, lit<}
use Rattle.std.specs.Int.{byte_at, bytes_low_first}
use Rattle.std.proofs.Math.Seq.{drop-append_seam, take-append_seam}
use Rattle.octets.specs.Bytes.{IsBytes, HasBytes}
use Rattle.sha1.specs.Sha1.{sha1}
use Rattle.cipher_modes.specs.Ige.{ige, inverse_ige}
use Rattle.auth_keys.specs.Keys.{substr}
use Rattle.temp_keys.specs.Below.{SealLaws}
use Rattle.temp_keys.specs.Derivation.{message_key, aes_key, aes_iv}
use Rattle.temp_keys.specs.Messages.{plain_text, inner_text, inner_bytes, inner_constructor, int, long, sealed}
use Rattle.temp_keys.specs.declared.binding.Inner.{Inner}
use Rattle.ring_rules.specs.Binding.{plain_under}

-- ---- numbers

bytes-cons : (x : ℕ) (xs : List ℕ) → x < 256 → IsBytes xs → IsBytes (x ∷ xs)
bytes-cons x xs small h zero = small
bytes-cons x xs small h (suc i) = h i

byte_at-small : (i n : ℕ) → byte_at i n < 256
byte_at-small zero n = omega arith
byte_at-small (suc i) n = omega arith

low_first-bytes : (i k n : ℕ) → HasBytes k (bytes_low_first i k n)
low_first-bytes i zero n = record { count = refl; in_range = λ i. lit< tt }
low_first-bytes i (suc k) n =
    let rest = low_first-bytes (suc i) k n in
    record { count = ap suc rest.count; in_range = bytes-cons (byte_at i n) (bytes_low_first (suc i) k n) (byte_at-small i n) rest.in_range }

pub int-bytes : (number : ℕ) → HasBytes 4 (int number)
int-bytes number = low_first-bytes 0 4 number

pub long-bytes : (number : ℕ) → HasBytes 8 (long number)
long-bytes number = low_first-bytes 0 8 number

-- ---- the parts of a plain text, in order

nested : (a b c d e f g h i j k : List ℕ) → a ++ b ++ c ++ d ++ (e ++ f ++ g ++ h ++ i ++ j) ++ k ≡ a ++ (b ++ (c ++ (d ++ (e ++ (f ++ (g ++ (h ++ (i ++ (j ++ k)))))))))
nested a b c d e f g h i j k = simp append_assoc

abbrev after_number : List ℕ → Inner → List ℕ
after_number padding inner =
    int 0 ++ (int inner_bytes ++ (int inner_constructor ++ (long inner.nonce ++ (long inner.temp ++ (long inner.perm ++ (long inner.session ++ (int inner.expires ++ padding)))))))

pub plain-parts : (random : List ℕ) (number : ℕ) (inner : Inner) (padding : List ℕ) → plain_text random number inner padding ≡ random ++ (long number ++ after_number padding inner)
unfolding plain_text inner_text
plain-parts random number inner padding =
    nested random (long number) (int 0) (int inner_bytes) (int inner_constructor) (long inner.nonce) (long inner.temp) (long inner.perm) (long inner.session) (int inner.expires) padding

-- the random bytes in front, and the padding behind
pub random-part : (random : List ℕ) (number : ℕ) (inner : Inner) (padding : List ℕ) → length random ≡ 16 → take 16 (plain_text random number inner padding) ≡ random
random-part random number inner padding sixteen =
    ap (take 16) (plain-parts random number inner padding)
    ∙ (ap (λ (n : ℕ). take n (random ++ (long number ++ after_number padding inner))) (sym sixteen) ∙ take-append_seam random (long number ++ after_number padding inner))

pub padding-part : (random : List ℕ) (number : ℕ) (inner : Inner) (padding : List ℕ) → length random ≡ 16 → drop 72 (plain_text random number inner padding) ≡ padding
padding-part random number inner padding sixteen =
    ap (drop 72) (plain-parts random number inner padding)
    ∙ (ap (λ (n : ℕ). drop (n + 56) (random ++ (long number ++ after_number padding inner))) (sym sixteen)
    ∙ (sym (drop-drop 56 (length random) (random ++ (long number ++ after_number padding inner)))
    ∙ ap (drop 56) (drop-append_seam random (long number ++ after_number padding inner))))

module _ (laws : SealLaws) where
  digest-part : (message : List ℕ) (i n : ℕ) → i + n ≤ 20 → HasBytes n (substr (sha1 message) i n)
  digest-part message i n within =
      let h = laws.digest message in laws.part i n (sha1 message) (omega (arith, within, h.count)) h.in_range

  pub message_key-bytes : (plain : List ℕ) → HasBytes 16 (message_key plain)
  unfolding message_key
  message_key-bytes plain = digest-part (take 72 plain) 4 16 (omega arith)

  pub aes_key-bytes : (key msg_key : List ℕ) → HasBytes 32 (aes_key key msg_key)
  unfolding aes_key
  aes_key-bytes key msg_key =
      laws.append 20 12 _ _ (laws.append 8 12 _ _ (digest-part _ 0 8 (omega arith)) (digest-part _ 8 12 (omega arith))) (digest-part _ 4 12 (omega arith))

  pub aes_iv-bytes : (key msg_key : List ℕ) → HasBytes 32 (aes_iv key msg_key)
  unfolding aes_iv
  aes_iv-bytes key msg_key =
      laws.append 24 8 _ _ (laws.append 20 4 _ _ (laws.append 12 8 _ _ (digest-part _ 8 12 (omega arith)) (digest-part _ 0 8 (omega arith))) (digest-part _ 16 4 (omega arith))) (digest-part _ 0 8 (omega arith))

  -- behind the identifier of a sealed text
  key-part : (key plain : List ℕ) → take 16 (drop 8 (sealed key plain)) ≡ message_key plain
  unfolding sealed
  key-part key plain =
      let text = ige (aes_key key (message_key plain)) (aes_iv key (message_key plain)) plain in
      ap (λ (n : ℕ). take n (message_key plain ++ text)) (sym (message_key-bytes plain).count) ∙ take-append_seam (message_key plain) text

  text-part : (key plain : List ℕ) → drop 24 (sealed key plain) ≡ ige (aes_key key (message_key plain)) (aes_iv key (message_key plain)) plain
  unfolding sealed
  text-part key plain =
      let text = ige (aes_key key (message_key plain)) (aes_iv key (message_key plain)) plain in
      ap (λ (n : ℕ). drop n (message_key plain ++ text)) (sym (message_key-bytes plain).count) ∙ drop-append_seam (message_key plain) text

  -- what was sealed is deciphered
  pub plain_under-sealed : (key plain : List ℕ) → HasBytes 80 plain → plain_under key (sealed key plain) ≡ plain
  plain_under-sealed key plain h =
      let msg_key = message_key plain in
      ap (λ (k : List ℕ). inverse_ige (aes_key key k) (aes_iv key k) (drop 24 (sealed key plain))) (key-part key plain)
      ∙ (ap (inverse_ige (aes_key key msg_key) (aes_iv key msg_key)) (text-part key plain)
      ∙ laws.undone (aes_key key msg_key) (aes_iv key msg_key) plain 5 (aes_key-bytes key msg_key) (aes_iv-bytes key msg_key) h)

  -- a plain text has 80 bytes
  pub plain-bytes : (random : List ℕ) (number : ℕ) (inner : Inner) (padding : List ℕ) → HasBytes 16 random → HasBytes 8 padding → HasBytes 80 (plain_text random number inner padding)
  plain-bytes random number inner padding h k =
      subst (HasBytes 80) (sym (plain-parts random number inner padding))
      (laws.append 16 64 _ _ h (laws.append 8 56 _ _ (long-bytes number) (laws.append 4 52 _ _ (int-bytes 0) (laws.append 4 48 _ _ (int-bytes 40) (laws.append 4 44 _ _ (int-bytes 0x75a3f765)
      (laws.append 8 36 _ _ (long-bytes inner.nonce) (laws.append 8 28 _ _ (long-bytes inner.temp) (laws.append 8 20 _ _ (long-bytes inner.perm) (laws.append 8 12 _ _ (long-bytes inner.session) (laws.append 4 8 _ _ (int-bytes inner.expires) k))))))))))
