-- Plain texts: how long they are, and that they spell one envelope.
use Rattle.std.proofs.Common.{◌≡◌, ℕ, zero, suc, ◌<◌, ◌≤◌, ◌+◌, ◌-◌, ◌*◌, ◌/◌, ◌^◌, List, ◌++◌, length, take, drop, refl, sym, ap, ◌∙◌, drop-drop, arith, length-append, length-drop}
use Rattle.std.proofs.lemmas.List.{append_assoc, drop-append-le, drop_at, take_at, take-append-drop, length-take-le}
use Rattle.std.proofs.lemmas.Nat.{le_bytes_4, le_bytes_8}
use Rattle.std.specs.Int.{byte_at, bytes_low_first, from_le_bytes, w32, w64}
use Rattle.byteorder.specs.Endian.{little_bytes, little_number}
use Rattle.byteorder.specs.Numbers.{little_number-reads_back, little_from-take}
use Rattle.octets.specs.Bytes.{IsBytes, HasBytes}
use Rattle.envelope.specs.declared.parts.Envelope.{Envelope}
use Rattle.envelope.specs.declared.parts.Head.{Head}
use Rattle.envelope.specs.Packet.{IsEnvelope, IsPadding, envelope_with, plain_text, to_seal}
use Rattle.envelope.specs.Opening.{length_said}
use Rattle.envelope.specs.Lock.{ByteLaws}
use Rattle.envelope.specs.Reading.{envelope_in}

-- ---- lengths

pub length-plain_text : (envelope : Envelope) (padding : List ℕ)
    → length (plain_text envelope padding) ≡ 32 + length envelope.body + length padding
unfolding plain_text
length-plain_text envelope padding = omega (arith, length-append envelope.body padding)

byte_at-lt : (i x : ℕ) → byte_at i x < 256
byte_at-lt zero x = omega arith
byte_at-lt (suc i) x = omega arith

IsBytes-little_bytes : ByteLaws → (i n x : ℕ) → IsBytes (bytes_low_first i n x)
IsBytes-little_bytes laws i zero x = laws.nil
IsBytes-little_bytes laws i (suc n) x = laws.cons _ _ (byte_at-lt i x) (IsBytes-little_bytes laws (suc i) n x)

pub IsBytes-plain_text : ByteLaws → (envelope : Envelope) (padding : List ℕ) → IsBytes envelope.body → IsBytes padding
    → IsBytes (plain_text envelope padding)
unfolding plain_text
IsBytes-plain_text laws envelope padding body padded =
    let size = little_bytes 4 (length envelope.body) in
    let seq = little_bytes 4 envelope.seq in
    let number = little_bytes 8 envelope.number in
    let session = little_bytes 8 envelope.session in
    let behind = envelope.body ++ padding in
    laws.append (little_bytes 8 envelope.salt) (session ++ (number ++ (seq ++ (size ++ behind)))) (IsBytes-little_bytes laws 0 8 envelope.salt)
    (laws.append session (number ++ (seq ++ (size ++ behind))) (IsBytes-little_bytes laws 0 8 envelope.session)
    (laws.append number (seq ++ (size ++ behind)) (IsBytes-little_bytes laws 0 8 envelope.number)
    (laws.append seq (size ++ behind) (IsBytes-little_bytes laws 0 4 envelope.seq)
    (laws.append size behind (IsBytes-little_bytes laws 0 4 (length envelope.body))
    (laws.append envelope.body padding body padded)))))

pub HasBytes-plain_text : ByteLaws → (envelope : Envelope) (padding : List ℕ) → IsEnvelope envelope
    → IsPadding (length envelope.body) padding
    → HasBytes (16 * ((32 + length envelope.body + length padding) / 16)) (plain_text envelope padding)
HasBytes-plain_text laws envelope padding lawful padded = record {
  count = omega (arith, length-plain_text envelope padding, padded.blocks);
  in_range = IsBytes-plain_text laws envelope padding lawful.bytes padded.bytes;
}

-- ---- a plain text spells its envelope

same_envelope : (envelope : Envelope) (key salt session number seq : ℕ) (body : List ℕ) → key ≡ envelope.key
    → salt ≡ envelope.salt → session ≡ envelope.session → number ≡ envelope.number → seq ≡ envelope.seq → body ≡ envelope.body
    → ◌≡◌ {A = Envelope} (record { key = key; salt = salt; session = session; number = number; seq = seq; body = body }) envelope
same_envelope envelope key salt session number seq body a b c d e f = rw (a, b, c, d, e, f) refl

-- what was read field by field is the envelope that the plain text spells
pub read_fields : (key salt session number seq : ℕ) (body plain : List ℕ) → salt ≡ little_number 8 plain → session ≡ little_number 8 (drop 8 plain)
    → number ≡ little_number 8 (drop 16 plain) → seq ≡ little_number 4 (drop 24 plain) → body ≡ take (length_said plain) (drop 32 plain)
    → ◌≡◌ {A = Envelope} (record { key = key; salt = salt; session = session; number = number; seq = seq; body = body }) (envelope_in key plain)
unfolding envelope_in
read_fields key salt session number seq body plain a b c d e = rw (a, b, c, d, e) refl

pub length_said-plain_text : (envelope : Envelope) (padding : List ℕ) → length envelope.body < 2 ^ 32
    → length_said (plain_text envelope padding) ≡ length envelope.body
unfolding plain_text
length_said-plain_text envelope padding short =
    little_number-reads_back 4 (length envelope.body) (envelope.body ++ padding) short

pub envelope_in-plain_text : (envelope : Envelope) (padding : List ℕ) → IsEnvelope envelope → length envelope.body < 2 ^ 32
    → envelope_in envelope.key (plain_text envelope padding) ≡ envelope
unfolding envelope_in plain_text
envelope_in-plain_text envelope padding lawful short =
    let body = envelope.body in
    let size = little_bytes 4 (length body) in
    let seq = little_bytes 4 envelope.seq in
    let number = little_bytes 8 envelope.number in
    let session = little_bytes 8 envelope.session in
    let said = length_said-plain_text envelope padding short in
    let body_is : take (length_said (plain_text envelope padding)) (drop 32 (plain_text envelope padding)) ≡ body =
    rw said (take_at body padding (length body) refl) in
    same_envelope envelope _ _ _ _ _ _ refl
    (little_number-reads_back 8 envelope.salt (session ++ (number ++ (seq ++ (size ++ (body ++ padding))))) lawful.salt)
    (little_number-reads_back 8 envelope.session (number ++ (seq ++ (size ++ (body ++ padding)))) lawful.session)
    (little_number-reads_back 8 envelope.number (seq ++ (size ++ (body ++ padding))) lawful.number)
    (little_number-reads_back 4 envelope.seq (size ++ (body ++ padding)) lawful.seq)
    body_is

-- its padding is that behind the body
pub padding-plain_text : (envelope : Envelope) (padding : List ℕ) → length envelope.body < 2 ^ 32
    → drop (length_said (plain_text envelope padding)) (drop 32 (plain_text envelope padding)) ≡ padding
unfolding plain_text
padding-plain_text envelope padding short =
    let said = length_said-plain_text envelope padding short in
    ap (λ (n : ℕ). drop n (envelope.body ++ padding)) said ∙ drop_at envelope.body padding (length envelope.body) refl

-- ---- a plain text is that of the envelope that it spells

int_bytes : ByteLaws → (xs : List ℕ) → 4 ≤ length xs → IsBytes xs → little_bytes 4 (little_number 4 xs) ≡ take 4 xs
int_bytes laws xs enough bytes =
    let front = take 4 xs in
    let read : little_number 4 xs ≡ from_le_bytes w32 front = sym (little_from-take 0 4 4 xs (omega arith)) ∙ omega arith in
    le_bytes_4 front (little_number 4 xs) (length-take-le 4 xs enough) (laws.take 4 xs bytes) read

long_bytes : ByteLaws → (xs : List ℕ) → 8 ≤ length xs → IsBytes xs → little_bytes 8 (little_number 8 xs) ≡ take 8 xs
long_bytes laws xs enough bytes =
    let front = take 8 xs in
    let read : little_number 8 xs ≡ from_le_bytes w64 front = sym (little_from-take 0 8 8 xs (omega arith)) ∙ omega arith in
    le_bytes_8 front (little_number 8 xs) (length-take-le 8 xs enough) (laws.take 8 xs bytes) read

-- a number in front of what follows it
pub int_in_front : ByteLaws → (xs rest : List ℕ) → 4 ≤ length xs → IsBytes xs → rest ≡ drop 4 xs
    → little_bytes 4 (little_number 4 xs) ++ rest ≡ xs
int_in_front laws xs rest enough bytes is =
    ap (λ front. front ++ rest) (int_bytes laws xs enough bytes) ∙ ap (λ back. take 4 xs ++ back) is ∙ take-append-drop 4 xs

pub long_in_front : ByteLaws → (xs rest : List ℕ) → 8 ≤ length xs → IsBytes xs → rest ≡ drop 8 xs
    → little_bytes 8 (little_number 8 xs) ++ rest ≡ xs
long_in_front laws xs rest enough bytes is =
    ap (λ front. front ++ rest) (long_bytes laws xs enough bytes) ∙ ap (λ back. take 8 xs ++ back) is ∙ take-append-drop 8 xs

pub plain_text-envelope_in : ByteLaws → (key : ℕ) (plain : List ℕ) → IsBytes plain → 32 ≤ length plain
    → length_said plain ≤ length plain - 32
    → plain_text (envelope_in key plain) (drop (length_said plain) (drop 32 plain)) ≡ plain
unfolding envelope_in plain_text
plain_text-envelope_in laws key plain bytes enough within =
    let said = length_said plain in
    let rest = drop 32 plain in
    let room = length-drop 32 plain in
    let body_length : length (take said rest) ≡ said = length-take-le said rest (omega arith) in
    let behind : take said rest ++ drop said rest ≡ rest = take-append-drop said rest in
    let size : little_bytes 4 (length (take said rest)) ++ (take said rest ++ drop said rest) ≡ drop 28 plain =
    ap (λ (n : ℕ). little_bytes 4 n ++ (take said rest ++ drop said rest)) body_length
    ∙ int_in_front laws (drop 28 plain) _ (omega (arith, length-drop 28 plain)) (laws.drop 28 plain bytes) (behind ∙ sym (drop-drop 4 28 plain)) in
    let seq = int_in_front laws (drop 24 plain) _ (omega (arith, length-drop 24 plain)) (laws.drop 24 plain bytes) (size ∙ sym (drop-drop 4 24 plain)) in
    let number = long_in_front laws (drop 16 plain) _ (omega (arith, length-drop 16 plain)) (laws.drop 16 plain bytes) (seq ∙ sym (drop-drop 8 16 plain)) in
    let session = long_in_front laws (drop 8 plain) _ (omega (arith, length-drop 8 plain)) (laws.drop 8 plain bytes) (number ∙ sym (drop-drop 8 8 plain)) in
    long_in_front laws plain _ (omega arith) bytes session

-- ---- a text that is sealed where it stands

-- behind what was put in front of a body, the body and the padding stand as they were
pub plain-in-place : (head : Head) (text padding packet behind plain : List ℕ) (body : ℕ) → packet ≡ text ++ padding → 56 ≤ length text → body ≡ length (to_seal text)
    → behind ≡ drop 24 packet
    → plain ≡ little_bytes 8 head.salt ++ (little_bytes 8 head.session ++ (little_bytes 8 head.number ++ (little_bytes 4 head.seq ++ (little_bytes 4 body ++ drop 32 behind))))
    → plain ≡ plain_text (envelope_with head (to_seal text)) padding
unfolding plain_text
plain-in-place head text padding packet behind plain body whole front count there written =
    let rest : drop 32 behind ≡ to_seal text ++ padding =
    ap (λ l. drop 32 l) there ∙ (drop-drop 32 24 packet ∙ (ap (λ l. drop 56 l) whole ∙ drop-append-le 56 text padding front)) in
    written ∙ rw (count, rest) refl
