-- A sealed text has one plain text.
use Rattle.std.proofs.Common.{◌≡◌, ◌≢◌, ◌∙◌, ℕ, ◌+◌, ◌<◌, ◌≤◌, ◌^◌, Option, Some, None, IfSome, IfNone, take-append-drop, List, ◌++◌, length, take, drop, sym, ap, refl, subst, arith, append_assoc, length-append}
use Rattle.std.proofs.Math.Seq.{take-append_seam, drop-append_seam}
use Rattle.octets.specs.Bytes.{HasBytes}
use Rattle.sha1.specs.Sha1.{sha1}
use Rattle.cipher_modes.specs.Ige.{ige, inverse_ige}
use Rattle.auth_keys.specs.Keys.{identifier, substr}
use Rattle.temp_keys.specs.Below.{SealLaws}
use Rattle.temp_keys.specs.Derivation.{message_key, aes_key, aes_iv}
use Rattle.temp_keys.specs.Messages.{IsInner, Says, plain_text, sealed, long}
use Rattle.temp_keys.specs.declared.binding.Inner.{Inner}
use Rattle.temp_keys.specs.declared.plain.Said.{Said}
use Rattle.temp_keys.proofs.TextLemmas.{cut, three_written, int-bytes, long-bytes, int-one, long-one, plain-parts, number-part, nonce-part, temp-part, perm-part, session-part, expires-part}

-- the plain text of a sealed one
abbrev pub plain_of : List ℕ → List ℕ → List ℕ
plain_of key message =
    inverse_ige (aes_key key (take 16 (drop 8 message))) (aes_iv key (take 16 (drop 8 message))) (drop 24 message)

abbrev inner_of : ℕ → ℕ → ℕ → ℕ → ℕ → Inner
inner_of nonce temp perm session expires =
    record { nonce = nonce; temp = temp; perm = perm; session = session; expires = expires }

inner_of-same : (a b : Inner) → a.nonce ≡ b.nonce → a.temp ≡ b.temp → a.perm ≡ b.perm → a.session ≡ b.session → a.expires ≡ b.expires → a ≡ b
inner_of-same a b nonce temp perm session expires =
    ap (λ (n : ℕ). inner_of n a.temp a.perm a.session a.expires) nonce
    ∙ (ap (λ (n : ℕ). inner_of b.nonce n a.perm a.session a.expires) temp
    ∙ (ap (λ (n : ℕ). inner_of b.nonce b.temp n a.session a.expires) perm
    ∙ (ap (λ (n : ℕ). inner_of b.nonce b.temp b.perm n a.expires) session
    ∙ ap (λ (n : ℕ). inner_of b.nonce b.temp b.perm b.session n) expires)))

module _ (laws : SealLaws) where
  digest-part : (message : List ℕ) (i n : ℕ) → i + n ≤ 20 → HasBytes n (substr (sha1 message) i n)
  digest-part message i n within =
      let h = laws.digest message in laws.part i n (sha1 message) (omega (arith, within, h.count)) h.in_range

  pub message_key-bytes : (plain : List ℕ) → HasBytes 16 (message_key plain)
  unfolding message_key
  message_key-bytes plain = digest-part (take 72 plain) 4 16 (omega arith)

  pub aes_key-bytes : (key msg_key : List ℕ) → HasBytes 32 (aes_key key msg_key)
  unfolding aes_key
  aes_key-bytes key msg_key =
      laws.append 20 12 _ _ (laws.append 8 12 _ _ (digest-part _ 0 8 (omega arith)) (digest-part _ 8 12 (omega arith))) (digest-part _ 4 12 (omega arith))

  pub aes_iv-bytes : (key msg_key : List ℕ) → HasBytes 32 (aes_iv key msg_key)
  unfolding aes_iv
  aes_iv-bytes key msg_key =
      laws.append 24 8 _ _ (laws.append 20 4 _ _ (laws.append 12 8 _ _ (digest-part _ 8 12 (omega arith)) (digest-part _ 0 8 (omega arith))) (digest-part _ 16 4 (omega arith))) (digest-part _ 0 8 (omega arith))

  -- behind the identifier of a sealed text
  key-part : (key plain : List ℕ) → take 16 (drop 8 (sealed key plain)) ≡ message_key plain
  unfolding sealed
  key-part key plain =
      let text = ige (aes_key key (message_key plain)) (aes_iv key (message_key plain)) plain in
      ap (λ (n : ℕ). take n (message_key plain ++ text)) (sym (message_key-bytes plain).count) ∙ take-append_seam (message_key plain) text

  text-part : (key plain : List ℕ) → drop 24 (sealed key plain) ≡ ige (aes_key key (message_key plain)) (aes_iv key (message_key plain)) plain
  unfolding sealed
  text-part key plain =
      let text = ige (aes_key key (message_key plain)) (aes_iv key (message_key plain)) plain in
      ap (λ (n : ℕ). drop n (message_key plain ++ text)) (sym (message_key-bytes plain).count) ∙ drop-append_seam (message_key plain) text

  pub identifier-part : (key plain : List ℕ) → take 8 (sealed key plain) ≡ long (identifier key)
  unfolding sealed
  identifier-part key plain = refl

  pub said-part : (key plain : List ℕ) → take 16 (drop 8 (sealed key plain)) ≡ message_key plain
  said-part key plain = key-part key plain

  -- a sealed text of 80 bytes has 104
  pub length-sealed : (key plain : List ℕ) → HasBytes 80 plain → length (sealed key plain) ≡ 104
  unfolding sealed
  length-sealed key plain h =
      let msg_key = message_key plain in
      let text = ige (aes_key key msg_key) (aes_iv key msg_key) plain in
      let same = (laws.equations (aes_key key msg_key) (aes_iv key msg_key) plain 5 (aes_key-bytes key msg_key) (aes_iv-bytes key msg_key) h).same_length in
      length-append (long (identifier key) ++ msg_key) text
      ∙ omega (arith, length-append (long (identifier key)) msg_key, (long-bytes (identifier key)).count, (message_key-bytes plain).count, same, h.count)

  -- what was sealed is deciphered
  pub plain_of-sealed : (key plain : List ℕ) → HasBytes 80 plain → plain_of key (sealed key plain) ≡ plain
  plain_of-sealed key plain h =
      let msg_key = message_key plain in
      ap (λ (k : List ℕ). inverse_ige (aes_key key k) (aes_iv key k) (drop 24 (sealed key plain))) (key-part key plain)
      ∙ (ap (inverse_ige (aes_key key msg_key) (aes_iv key msg_key)) (text-part key plain)
      ∙ laws.undone (aes_key key msg_key) (aes_iv key msg_key) plain 5 (aes_key-bytes key msg_key) (aes_iv-bytes key msg_key) h)

  pub sealed-one : (key plain other : List ℕ) → HasBytes 80 plain → HasBytes 80 other → sealed key plain ≡ sealed key other → plain ≡ other
  sealed-one key plain other h k e = sym (plain_of-sealed key plain h) ∙ (ap (plain_of key) e ∙ plain_of-sealed key other k)

  -- a plain text has 80 bytes
  pub plain-bytes : (random : List ℕ) (number : ℕ) (inner : Inner) (padding : List ℕ) → HasBytes 16 random → HasBytes 8 padding → HasBytes 80 (plain_text random number inner padding)
  plain-bytes random number inner padding h k =
      subst (HasBytes 80) (sym (plain-parts random number inner padding))
      (laws.append 16 64 _ _ h (laws.append 8 56 _ _ (long-bytes number) (laws.append 4 52 _ _ (int-bytes 0) (laws.append 4 48 _ _ (int-bytes 40) (laws.append 4 44 _ _ (int-bytes 0x75a3f765)
      (laws.append 8 36 _ _ (long-bytes inner.nonce) (laws.append 8 28 _ _ (long-bytes inner.temp) (laws.append 8 20 _ _ (long-bytes inner.perm) (laws.append 8 12 _ _ (long-bytes inner.session) (laws.append 4 8 _ _ (int-bytes inner.expires) k))))))))))

  pub said-plain : (key message : List ℕ) (number : ℕ) (inner : Inner) → (h : Says key message number inner) → HasBytes 80 (plain_text h.random number inner h.padding)
  said-plain key message number inner h = plain-bytes h.random number inner h.padding h.random_bytes h.padding_bytes

  -- a binding message has 104 bytes
  pub length-said : (key message : List ℕ) (number : ℕ) (inner : Inner) → Says key message number inner → length message ≡ 104
  length-said key message number inner h = ap length h.sealed ∙ length-sealed key (plain_text h.random number inner h.padding) (said-plain key message number inner h)

  pub says-plain : (key message plain : List ℕ) (number : ℕ) (inner : Inner) → HasBytes 80 plain → message ≡ sealed key plain → (h : Says key message number inner)
      → plain ≡ plain_text h.random number inner h.padding
  says-plain key message plain number inner bytes e h =
      sealed-one key plain (plain_text h.random number inner h.padding) bytes (said-plain key message number inner h) (sym e ∙ h.sealed)

  -- two messages that are one say one plain text
  same_plain : (key message : List ℕ) (number other : ℕ) (inner rest : Inner) → (h : Says key message number inner) → (k : Says key message other rest)
      → plain_text h.random number inner h.padding ≡ plain_text k.random other rest k.padding
  same_plain key message number other inner rest h k =
      sealed-one key _ _ (said-plain key message number inner h) (said-plain key message other rest k) (sym h.sealed ∙ k.sealed)

  pub number-one : (key message : List ℕ) (number other : ℕ) (inner rest : Inner) → Says key message number inner → Says key message other rest → number ≡ other
  number-one key message number other inner rest h k =
      let e = same_plain key message number other inner rest h k in
      long-one number other h.number_fits k.number_fits
      (sym (number-part h.random number inner h.padding h.random_bytes.count) ∙ (ap (λ (p : List ℕ). take 8 (drop 16 p)) e ∙ number-part k.random other rest k.padding k.random_bytes.count))

  pub inner-one : (key message : List ℕ) (number other : ℕ) (inner rest : Inner) → Says key message number inner → Says key message other rest → inner ≡ rest
  inner-one key message number other inner rest h k =
      let e = same_plain key message number other inner rest h k in
      let nonce = long-one inner.nonce rest.nonce h.inner_fits.nonce k.inner_fits.nonce
      (sym (nonce-part h.random number inner h.padding h.random_bytes.count) ∙ (ap (λ (p : List ℕ). take 8 (drop 36 p)) e ∙ nonce-part k.random other rest k.padding k.random_bytes.count)) in
      let temp = long-one inner.temp rest.temp h.inner_fits.temp k.inner_fits.temp
      (sym (temp-part h.random number inner h.padding h.random_bytes.count) ∙ (ap (λ (p : List ℕ). take 8 (drop 44 p)) e ∙ temp-part k.random other rest k.padding k.random_bytes.count)) in
      let perm = long-one inner.perm rest.perm h.inner_fits.perm k.inner_fits.perm
      (sym (perm-part h.random number inner h.padding h.random_bytes.count) ∙ (ap (λ (p : List ℕ). take 8 (drop 52 p)) e ∙ perm-part k.random other rest k.padding k.random_bytes.count)) in
      let session = long-one inner.session rest.session h.inner_fits.session k.inner_fits.session
      (sym (session-part h.random number inner h.padding h.random_bytes.count) ∙ (ap (λ (p : List ℕ). take 8 (drop 60 p)) e ∙ session-part k.random other rest k.padding k.random_bytes.count)) in
      let expires = int-one inner.expires rest.expires h.inner_fits.expires k.inner_fits.expires
      (sym (expires-part h.random number inner h.padding h.random_bytes.count) ∙ (ap (λ (p : List ℕ). take 4 (drop 68 p)) e ∙ expires-part k.random other rest k.padding k.random_bytes.count)) in
      inner_of-same inner rest nonce temp perm session expires

  -- ---- what the code answers

  pub opened-found : (key message plain : List ℕ) (answer : Option Said) → message ≡ sealed key plain → HasBytes 80 plain
      → IfSome answer (λ said. plain ≡ plain_text (take 16 plain) said.number said.inner (drop 72 plain)) → IfSome answer (λ said. (said.number < 2 ^ 64) × IsInner said.inner)
      → IfSome answer (λ said. Says key message said.number said.inner)
  opened-found key message plain None e h found fits = tt
  opened-found key message plain (Some said) e h found fits = record {
    random = take 16 plain;
    padding = drop 72 plain;
    random_bytes = laws.part 0 16 plain (omega (arith, h.count)) h.in_range;
    padding_bytes = laws.last_part 72 8 plain h.count h.in_range;
    number_fits = fits.0;
    inner_fits = fits.1;
    sealed = e ∙ ap (sealed key) found;
  }

  pub opened-none : (key message plain : List ℕ) (answer : Option Said) → message ≡ sealed key plain → HasBytes 80 plain
      → IfNone answer ((random padding : List ℕ) (number : ℕ) (inner : Inner) → length random ≡ 16 → plain ≢ plain_text random number inner padding)
      → IfNone answer ((number : ℕ) (inner : Inner) → Says key message number inner → ⊥)
  opened-none key message plain None e h none = λ number inner said. none said.random said.padding number inner said.random_bytes.count (says-plain key message plain number inner h e said)
  opened-none key message plain (Some said) e h none = tt

-- a sealed text from its parts
pub sealed-from_parts : (key message plain : List ℕ) → take 8 message ≡ long (identifier key) → take 16 (drop 8 message) ≡ message_key plain
    → ige (aes_key key (message_key plain)) (aes_iv key (message_key plain)) plain ≡ drop 24 message → message ≡ sealed key plain
unfolding sealed
sealed-from_parts key message plain id msg_key text =
    sym (take-append-drop 8 message)
    ∙ (ap (λ (front : List ℕ). front ++ drop 8 message) id
    ∙ (ap (λ (rest : List ℕ). long (identifier key) ++ rest) (cut message (message_key plain) 8 16 24 refl (sym msg_key) ∙ ap (λ (rest : List ℕ). message_key plain ++ rest) (sym text))
    ∙ sym (append_assoc (long (identifier key)) (message_key plain) _)))

-- the parts of a sealed text, one after the other
pub seal-written : (o n1 n2 n3 id msg_key text key plain : List ℕ) → n1 ≡ o ++ id → n2 ≡ n1 ++ msg_key → n3 ≡ n2 ++ text → id ≡ long (identifier key) → msg_key ≡ message_key plain
    → text ≡ ige (aes_key key (message_key plain)) (aes_iv key (message_key plain)) plain → n3 ≡ o ++ sealed key plain
unfolding sealed
seal-written o n1 n2 n3 id msg_key text key plain w1 w2 w3 i m t =
    w3 ∙ ap (λ (n : List ℕ). n ++ text) (w2 ∙ ap (λ (n : List ℕ). n ++ msg_key) w1)
    ∙ (three_written o id msg_key text
    ∙ (ap (λ (x : List ℕ). o ++ (x ++ msg_key ++ text)) i
    ∙ (ap (λ (x : List ℕ). o ++ (long (identifier key) ++ x ++ text)) m
    ∙ ap (λ (x : List ℕ). o ++ (long (identifier key) ++ message_key plain ++ x)) t)))

-- a text enciphered under the key and initialisation vector of a message key
pub enciphered-same : (key msg_key plain k v text old : List ℕ) → text ≡ ige k v old → k ≡ aes_key key msg_key → v ≡ aes_iv key msg_key → old ≡ plain → text ≡ ige (aes_key key msg_key) (aes_iv key msg_key) plain
enciphered-same key msg_key plain k v text old e a b c =
    e ∙ (ap (λ (x : List ℕ). ige x v old) a ∙ (ap (λ (x : List ℕ). ige (aes_key key msg_key) x old) b ∙ ap (λ (x : List ℕ). ige (aes_key key msg_key) (aes_iv key msg_key) x) c))

pub deciphered-same : (key msg_key text k v plain old : List ℕ) → plain ≡ inverse_ige k v old → k ≡ aes_key key msg_key → v ≡ aes_iv key msg_key → old ≡ text → plain ≡ inverse_ige (aes_key key msg_key) (aes_iv key msg_key) text
deciphered-same key msg_key text k v plain old e a b c =
    e ∙ (ap (λ (x : List ℕ). inverse_ige x v old) a ∙ (ap (λ (x : List ℕ). inverse_ige (aes_key key msg_key) x old) b ∙ ap (λ (x : List ℕ). inverse_ige (aes_key key msg_key) (aes_iv key msg_key) x) c))
