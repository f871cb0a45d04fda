-- The plain text of a binding message, by its parts.
use Rattle.std.proofs.Common.{◌≡◌, ◌∙◌, ℕ, Bool, true, false, not, bytes_eq, zero, suc, ◌+◌, ◌<◌, ◌^◌, List, ◌∷◌, ◌++◌, length, take, drop, sym, ap, refl, arith, append_assoc, length-append, take-append-drop, drop-drop, lit<}
use Rattle.std.specs.Int.{byte_at, bytes_low_first, from_le_bytes, w32, w64}
use Rattle.std.proofs.Math.Seq.{drop-append_seam, take-append_seam}
use Rattle.std.proofs.lemmas.Slice.Eq.{bytes_eq-Decides}
use Rattle.std.proofs.lemmas.Nat.{from_le_bytes-to_le_bytes_4, from_le_bytes-to_le_bytes_8}
use Rattle.octets.specs.Bytes.{IsBytes, HasBytes}
use Rattle.temp_keys.specs.Messages.{plain_text, inner_text, inner_bytes, inner_constructor, int, long}
use Rattle.temp_keys.specs.declared.binding.Inner.{Inner}

-- ---- numbers

bytes-cons : (x : ℕ) (xs : List ℕ) → x < 256 → IsBytes xs → IsBytes (x ∷ xs)
bytes-cons x xs small h zero = small
bytes-cons x xs small h (suc i) = h i

byte_at-small : (i n : ℕ) → byte_at i n < 256
byte_at-small zero n = omega arith
byte_at-small (suc i) n = omega arith

low_first-bytes : (i k n : ℕ) → HasBytes k (bytes_low_first i k n)
low_first-bytes i zero n = record { count = refl; in_range = λ i. lit< tt }
low_first-bytes i (suc k) n =
    let rest = low_first-bytes (suc i) k n in
    record { count = ap suc rest.count; in_range = bytes-cons (byte_at i n) (bytes_low_first (suc i) k n) (byte_at-small i n) rest.in_range }

pub int-bytes : (number : ℕ) → HasBytes 4 (int number)
int-bytes number = low_first-bytes 0 4 number

pub long-bytes : (number : ℕ) → HasBytes 8 (long number)
long-bytes number = low_first-bytes 0 8 number

pub int-one : (a b : ℕ) → a < 2 ^ 32 → b < 2 ^ 32 → int a ≡ int b → a ≡ b
int-one a b f g e = sym (from_le_bytes-to_le_bytes_4 a f) ∙ (ap (from_le_bytes w32) e ∙ from_le_bytes-to_le_bytes_4 b g)

pub long-one : (a b : ℕ) → a < 2 ^ 64 → b < 2 ^ 64 → long a ≡ long b → a ≡ b
long-one a b f g e = sym (from_le_bytes-to_le_bytes_8 a f) ∙ (ap (from_le_bytes w64) e ∙ from_le_bytes-to_le_bytes_8 b g)

-- ---- the parts of a plain text, in order

nested : (a b c d e f g h i j k : List ℕ) → a ++ b ++ c ++ d ++ (e ++ f ++ g ++ h ++ i ++ j) ++ k ≡ a ++ (b ++ (c ++ (d ++ (e ++ (f ++ (g ++ (h ++ (i ++ (j ++ k)))))))))
nested a b c d e f g h i j k = simp append_assoc

abbrev after_number : List ℕ → Inner → List ℕ
after_number padding inner =
    int 0 ++ (int inner_bytes ++ (int inner_constructor ++ (long inner.nonce ++ (long inner.temp ++ (long inner.perm ++ (long inner.session ++ (int inner.expires ++ padding)))))))

pub plain-parts : (random : List ℕ) (number : ℕ) (inner : Inner) (padding : List ℕ) → plain_text random number inner padding ≡ random ++ (long number ++ after_number padding inner)
unfolding plain_text inner_text
plain-parts random number inner padding =
    nested random (long number) (int 0) (int inner_bytes) (int inner_constructor) (long inner.nonce) (long inner.temp) (long inner.perm) (long inner.session) (int inner.expires) padding

-- what stands behind the random bytes
behind-random : (random : List ℕ) (number : ℕ) (inner : Inner) (padding : List ℕ) → length random ≡ 16 → drop 16 (plain_text random number inner padding) ≡ long number ++ after_number padding inner
behind-random random number inner padding sixteen =
    ap (drop 16) (plain-parts random number inner padding)
    ∙ (ap (λ (n : ℕ). drop n (random ++ (long number ++ after_number padding inner))) (sym sixteen) ∙ drop-append_seam random (long number ++ after_number padding inner))

module _ (random : List ℕ) (number : ℕ) (inner : Inner) (padding : List ℕ) (sixteen : length random ≡ 16) where
  abbrev plain : List ℕ
  plain = plain_text random number inner padding

  at : (i : ℕ) → drop (16 + i) plain ≡ drop i (long number ++ after_number padding inner)
  at i = sym (drop-drop i 16 plain) ∙ ap (drop i) (behind-random random number inner padding sixteen)

  pub number-part : take 8 (drop 16 plain) ≡ long number
  number-part = ap (take 8) (at 0)

  pub seq-part : take 4 (drop 24 plain) ≡ int 0
  seq-part = ap (take 4) (at 8)

  pub length-part : take 4 (drop 28 plain) ≡ int inner_bytes
  length-part = ap (take 4) (at 12)

  pub constructor-part : take 4 (drop 32 plain) ≡ int inner_constructor
  constructor-part = ap (take 4) (at 16)

  pub nonce-part : take 8 (drop 36 plain) ≡ long inner.nonce
  nonce-part = ap (take 8) (at 20)

  pub temp-part : take 8 (drop 44 plain) ≡ long inner.temp
  temp-part = ap (take 8) (at 28)

  pub perm-part : take 8 (drop 52 plain) ≡ long inner.perm
  perm-part = ap (take 8) (at 36)

  pub session-part : take 8 (drop 60 plain) ≡ long inner.session
  session-part = ap (take 8) (at 44)

  pub expires-part : take 4 (drop 68 plain) ≡ int inner.expires
  expires-part = ap (take 4) (at 52)

-- ---- a plain text from its parts

pub cut : (text part : List ℕ) (i n j : ℕ) → i + n ≡ j → part ≡ take n (drop i text) → drop i text ≡ part ++ drop j text
cut text part i n j e same =
    sym (take-append-drop n (drop i text))
    ∙ (ap (λ (rest : List ℕ). take n (drop i text) ++ rest) (drop-drop n i text ∙ ap (λ (k : ℕ). drop k text) e) ∙ ap (λ (p : List ℕ). p ++ drop j text) (sym same))

pub plain-from_parts : (text : List ℕ) (number : ℕ) (inner : Inner) → long number ≡ take 8 (drop 16 text) → int 0 ≡ take 4 (drop 24 text) → int inner_bytes ≡ take 4 (drop 28 text)
    → int inner_constructor ≡ take 4 (drop 32 text) → long inner.nonce ≡ take 8 (drop 36 text) → long inner.temp ≡ take 8 (drop 44 text) → long inner.perm ≡ take 8 (drop 52 text)
    → long inner.session ≡ take 8 (drop 60 text) → int inner.expires ≡ take 4 (drop 68 text) → text ≡ plain_text (take 16 text) number inner (drop 72 text)
plain-from_parts text number inner a b c d e f g h i =
    sym (take-append-drop 16 text)
    ∙ ap (λ (rest : List ℕ). take 16 text ++ rest)
    (cut text (long number) 16 8 24 refl a ∙ ap (λ (rest : List ℕ). long number ++ rest)
    (cut text (int 0) 24 4 28 refl b ∙ ap (λ (rest : List ℕ). int 0 ++ rest)
    (cut text (int inner_bytes) 28 4 32 refl c ∙ ap (λ (rest : List ℕ). int inner_bytes ++ rest)
    (cut text (int inner_constructor) 32 4 36 refl d ∙ ap (λ (rest : List ℕ). int inner_constructor ++ rest)
    (cut text (long inner.nonce) 36 8 44 refl e ∙ ap (λ (rest : List ℕ). long inner.nonce ++ rest)
    (cut text (long inner.temp) 44 8 52 refl f ∙ ap (λ (rest : List ℕ). long inner.temp ++ rest)
    (cut text (long inner.perm) 52 8 60 refl g ∙ ap (λ (rest : List ℕ). long inner.perm ++ rest)
    (cut text (long inner.session) 60 8 68 refl h ∙ ap (λ (rest : List ℕ). long inner.session ++ rest)
    (cut text (int inner.expires) 68 4 72 refl i)))))))))
    ∙ sym (plain-parts (take 16 text) number inner (drop 72 text))

-- ---- pieces written one after the other

pub three_written : (o a b c : List ℕ) → o ++ a ++ b ++ c ≡ o ++ (a ++ b ++ c)
three_written o a b c = simp append_assoc

pub six_written : (o a b c d e f : List ℕ) → o ++ a ++ b ++ c ++ d ++ e ++ f ≡ o ++ (a ++ b ++ c ++ d ++ e ++ f)
six_written o a b c d e f = simp append_assoc

-- the inner object, field by field
pub inner-written : (o n1 n2 n3 n4 n5 n6 r1 r2 r3 r4 r5 r6 : List ℕ) (inner : Inner) → n1 ≡ o ++ r1 → n2 ≡ n1 ++ r2 → n3 ≡ n2 ++ r3 → n4 ≡ n3 ++ r4 → n5 ≡ n4 ++ r5 → n6 ≡ n5 ++ r6
    → r1 ≡ int inner_constructor → r2 ≡ long inner.nonce → r3 ≡ long inner.temp → r4 ≡ long inner.perm → r5 ≡ long inner.session → r6 ≡ int inner.expires → n6 ≡ o ++ inner_text inner
unfolding inner_text
inner-written o n1 n2 n3 n4 n5 n6 r1 r2 r3 r4 r5 r6 inner w1 w2 w3 w4 w5 w6 t1 t2 t3 t4 t5 t6 =
    w6 ∙ ap (λ (n : List ℕ). n ++ r6) (w5 ∙ ap (λ (n : List ℕ). n ++ r5) (w4 ∙ ap (λ (n : List ℕ). n ++ r4) (w3 ∙ ap (λ (n : List ℕ). n ++ r3) (w2 ∙ ap (λ (n : List ℕ). n ++ r2) w1))))
    ∙ (six_written o r1 r2 r3 r4 r5 r6
    ∙ (ap (λ (r : List ℕ). o ++ (r ++ r2 ++ r3 ++ r4 ++ r5 ++ r6)) t1
    ∙ (ap (λ (r : List ℕ). o ++ (int inner_constructor ++ r ++ r3 ++ r4 ++ r5 ++ r6)) t2
    ∙ (ap (λ (r : List ℕ). o ++ (int inner_constructor ++ long inner.nonce ++ r ++ r4 ++ r5 ++ r6)) t3
    ∙ (ap (λ (r : List ℕ). o ++ (int inner_constructor ++ long inner.nonce ++ long inner.temp ++ r ++ r5 ++ r6)) t4
    ∙ (ap (λ (r : List ℕ). o ++ (int inner_constructor ++ long inner.nonce ++ long inner.temp ++ long inner.perm ++ r ++ r6)) t5
    ∙ ap (λ (r : List ℕ). o ++ (int inner_constructor ++ long inner.nonce ++ long inner.temp ++ long inner.perm ++ long inner.session ++ r)) t6))))))

-- how many bytes a plain text has
pub length-plain : (random : List ℕ) (number : ℕ) (inner : Inner) (padding : List ℕ) → length random ≡ 16 → length padding ≡ 8 → length (plain_text random number inner padding) ≡ 80
length-plain random number inner padding sixteen eight =
    ap length (plain-parts random number inner padding) ∙ (length-append random (long number ++ after_number padding inner) ∙ omega (arith, sixteen, eight))

-- ---- comparisons

pub not_same : (xs ys : List ℕ) → true ≡ not (bytes_eq xs ys) → xs ≡ ys → ⊥
not_same xs ys e same =
    let yes = (bytes_eq-Decides xs ys).1 same in
    let no : true ≡ false = e ∙ ap not yes in cc

is_true : (b : Bool) → false ≡ not b → b ≡ true
is_true true e = refl
is_true false e = cc

pub not_other : (xs ys : List ℕ) → false ≡ not (bytes_eq xs ys) → xs ≡ ys
not_other xs ys e = (bytes_eq-Decides xs ys).0 (is_true (bytes_eq xs ys) e)

pub take-front : (n : ℕ) (xs ys : List ℕ) → n ≡ length xs → take n (xs ++ ys) ≡ xs
take-front n xs ys e = ap (λ (m : ℕ). take m (xs ++ ys)) e ∙ take-append_seam xs ys
