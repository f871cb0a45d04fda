-- Binding messages are bytes.
use Rattle.std.proofs.Common.{◌≡◌, ℕ, zero, suc, ◌+◌, ◌*◌, ◌/◌, ◌<◌, ◌≤◌, ◌^◌, List, [], ◌++◌, length, take, drop, ap, sym, subst, arith}
use Rattle.std.specs.Int.{byte_at, bytes_low_first}
use Rattle.std.proofs.Math.Nat.{mod-lt}
use Rattle.byteorder.specs.Numbers.{length-bytes_low_first}
use Rattle.octets.specs.Bytes.{HasBytes, IsBytes, xor_bytes}
use Rattle.sha1.specs.Sha1.{sha1}
use Rattle.aes_core.specs.Cipher.{aes}
use Rattle.cipher_modes.specs.Ige.{ige, ige_after, ige_block}
use Rattle.auth_keys.specs.Keys.{identifier, substr}
use Rattle.temp_keys.specs.Derivation.{message_key, aes_key, aes_iv}
use Rattle.temp_keys.specs.Messages.{binding_message, inner_constructor, int, long, inner_text, plain_text, sealed}
use Rattle.temp_keys.specs.declared.binding.Inner.{Inner}

-- ---- numbers as bytes

byte-low : (i x : ℕ) → byte_at i x < 256
byte-low zero x = mod-lt x (omega arith)
byte-low (suc i) x = mod-lt (x / 256 ^ suc i) (omega arith)

low-bytes : (i n x k : ℕ) → length (bytes_low_first i n x) ≡ n → IsBytes (bytes_low_first i n x)
low-bytes i zero x k size j = omega arith
low-bytes i (suc n) x k size zero = byte-low i x
low-bytes i (suc n) x k size (suc j) = low-bytes (suc i) n x k (length-bytes_low_first (suc i) n x) j

int-bytes : (number : ℕ) → HasBytes 4 (int number)
int-bytes number = record { count = length-bytes_low_first 0 4 number; in_range = low-bytes 0 4 number 0 (length-bytes_low_first 0 4 number) }

long-bytes : (number : ℕ) → HasBytes 8 (long number)
long-bytes number = record { count = length-bytes_low_first 0 8 number; in_range = low-bytes 0 8 number 0 (length-bytes_low_first 0 8 number) }

-- ---- by the laws of lists of bytes, of blocks and of digests

module _ (append : (m n : ℕ) (xs ys : List ℕ) → HasBytes m xs → HasBytes n ys → HasBytes (m + n) (xs ++ ys)) (nil : HasBytes 0 [])
    (first_part : (n : ℕ) (xs : List ℕ) → n ≤ length xs → IsBytes xs → HasBytes n (take n xs)) (last_part : (i n : ℕ) (xs : List ℕ) → length xs ≡ i + n → IsBytes xs → HasBytes n (drop i xs))
    (part : (i n : ℕ) (xs : List ℕ) → i + n ≤ length xs → IsBytes xs → HasBytes n (take n (drop i xs))) (xor : (n : ℕ) (xs ys : List ℕ) → HasBytes n xs → HasBytes n ys → HasBytes n (xor_bytes xs ys))
    (enciphered : (key block : List ℕ) → HasBytes 32 key → HasBytes 16 block → HasBytes 16 (aes key block)) (digest : (message : List ℕ) → HasBytes 20 (sha1 message)) where
  digest-part : (message : List ℕ) (i n : ℕ) → i + n ≤ 20 → HasBytes n (substr (sha1 message) i n)
  digest-part message i n within =
      let h = digest message in part i n (sha1 message) (omega (arith, within, h.count)) h.in_range

  message_key-bytes : (plain : List ℕ) → HasBytes 16 (message_key plain)
  unfolding message_key
  message_key-bytes plain = digest-part (take 72 plain) 4 16 (omega arith)

  aes_key-bytes : (key msg_key : List ℕ) → HasBytes 32 (aes_key key msg_key)
  unfolding aes_key
  aes_key-bytes key msg_key =
      append 20 12 _ _ (append 8 12 _ _ (digest-part (msg_key ++ substr key 0 32) 0 8 (omega arith)) (digest-part (substr key 32 16 ++ msg_key ++ substr key 48 16) 8 12 (omega arith))) (digest-part (substr key 64 32 ++ msg_key) 4 12 (omega arith))

  aes_iv-bytes : (key msg_key : List ℕ) → HasBytes 32 (aes_iv key msg_key)
  unfolding aes_iv
  aes_iv-bytes key msg_key =
      append 24 8 _ _ (append 20 4 _ _ (append 12 8 _ _ (digest-part (msg_key ++ substr key 0 32) 8 12 (omega arith)) (digest-part (substr key 32 16 ++ msg_key ++ substr key 48 16) 0 8 (omega arith)))
      (digest-part (substr key 64 32 ++ msg_key) 16 4 (omega arith))) (digest-part (msg_key ++ substr key 96 32) 0 8 (omega arith))

  block-bytes : (key cipher plain text : List ℕ) → HasBytes 32 key → HasBytes 16 cipher → HasBytes 16 plain → HasBytes 16 text → HasBytes 16 (ige_block key cipher plain text)
  block-bytes key cipher plain text k hc hp ht =
      xor 16 (aes key (xor_bytes text cipher)) plain (enciphered key (xor_bytes text cipher) k (xor 16 text cipher ht hc)) hp

  after-bytes : (key : List ℕ) (n : ℕ) (cipher plain text : List ℕ) → HasBytes 32 key → HasBytes 16 cipher → HasBytes 16 plain → HasBytes (16 * n) text
      → HasBytes (16 * n) (ige_after key n cipher plain text)
  unfolding ige_after
  after-bytes key zero cipher plain text k hc hp ht = nil
  after-bytes key (suc n) cipher plain text k hc hp ht =
      let first : HasBytes 16 (take 16 text) = first_part 16 text (omega (arith, ht.count)) ht.in_range in
      let others : HasBytes (16 * n) (drop 16 text) = last_part 16 (16 * n) text (omega (arith, ht.count)) ht.in_range in
      let made = block-bytes key cipher plain (take 16 text) k hc hp first in
      let total : 16 * suc n ≡ 16 + 16 * n = omega arith in
      rw total (append 16 (16 * n) (ige_block key cipher plain (take 16 text)) _ made (after-bytes key n _ _ (drop 16 text) k made first others))

  inner-bytes : (inner : Inner) → HasBytes 40 (inner_text inner)
  unfolding inner_text
  inner-bytes inner =
      append 4 36 _ _ (int-bytes inner_constructor) (append 8 28 _ _ (long-bytes inner.nonce) (append 8 20 _ _ (long-bytes inner.temp)
      (append 8 12 _ _ (long-bytes inner.perm) (append 8 4 _ _ (long-bytes inner.session) (int-bytes inner.expires)))))

  plain-bytes : (random : List ℕ) (number : ℕ) (inner : Inner) (padding : List ℕ) → HasBytes 16 random → HasBytes 8 padding → HasBytes 80 (plain_text random number inner padding)
  unfolding plain_text
  plain-bytes random number inner padding drawn padded =
      append 72 8 _ _ (append 32 40 _ _ (append 28 4 _ _ (append 24 4 _ _ (append 16 8 _ _ drawn (long-bytes number)) (int-bytes 0)) (int-bytes 40)) (inner-bytes inner)) padded

  sealed-bytes : (key plain : List ℕ) → HasBytes 80 plain → IsBytes (sealed key plain)
  unfolding sealed
  sealed-bytes key plain h =
      let iv = aes_iv-bytes key (message_key plain) in
      let five : length plain / 16 ≡ 5 = ap (λ (n : ℕ). n / 16) h.count in
      let text : HasBytes 80 (ige (aes_key key (message_key plain)) (aes_iv key (message_key plain)) plain) =
      subst (λ (n : ℕ). HasBytes 80 (ige_after (aes_key key (message_key plain)) n (take 16 (aes_iv key (message_key plain))) (drop 16 (aes_iv key (message_key plain))) plain)) (sym five)
      (after-bytes (aes_key key (message_key plain)) 5 (take 16 (aes_iv key (message_key plain))) (drop 16 (aes_iv key (message_key plain))) plain (aes_key-bytes key (message_key plain))
      (first_part 16 (aes_iv key (message_key plain)) (omega (arith, iv.count)) iv.in_range) (last_part 16 16 (aes_iv key (message_key plain)) iv.count iv.in_range) h) in
      (append 24 80 _ _ (append 8 16 _ _ (long-bytes (identifier key)) (message_key-bytes plain)) text).in_range

  pub binding-bytes : (key random : List ℕ) (number : ℕ) (inner : Inner) (padding : List ℕ) → HasBytes 16 random → HasBytes 8 padding
      → IsBytes (binding_message key random number inner padding)
  binding-bytes key random number inner padding drawn padded = sealed-bytes key (plain_text random number inner padding) (plain-bytes random number inner padding drawn padded)
