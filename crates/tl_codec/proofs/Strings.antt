-- A string at the front of a text: its length, its content and its padding.
use Rattle.std.proofs.Common.{◌≡◌, ℕ, suc, ◌+◌, ◌^◌, ◌<◌, ◌≤◌, ltb, eqb, true, false, inl, inr, List, [], ◌∷◌, ◌++◌, length, take, drop, replicate, Ok, refl, sym, ap, subst, ◌∙◌, append_assoc, arith}
use Rattle.std.proofs.Math.Seq.{take-add}
use Rattle.std.proofs.lemmas.Bool.{cases_lt, cases_eq, lt-ltb, le-ltb, eq-eqb, ne_eqb}
use Rattle.std.proofs.lemmas.List.{take_at, drop_at, take-take, take-append-drop, length-append, length-take, length-drop, length-replicate}
use Rattle.byteorder.specs.Endian.{little_bytes, little_number}
use Rattle.byteorder.specs.Numbers.{length-bytes_low_first, little_from-lt, little_number-reads_back}
use Rattle.tl_codec.specs.Standard.{bytes_max}
use Rattle.octets.specs.Bytes.{IsBytes}
use Rattle.tl_codec.specs.Spelling.{Bytes, padding_of, head, long_head, IsHead, ReadsBytes, spelling}
use Rattle.tl_codec.specs.Reading.{◌>>=◌, Takes, raw_at, head_at, bytes_at}
use Rattle.tl_codec.proofs.Steps.{bind_ok, same_parts, same_value}
use Rattle.tl_codec.proofs.Numbers.{little_bytes-little_number, raw_takes, raw_again}

-- ---- the length in front

-- the length in front takes so many bytes of the text, and says a size
record TakesHead (text : List ℕ) (found : ℕ × ℕ) : Type 0 where
  head : IsHead found.1 (take found.0 text)
  enough : found.0 ≤ length text

-- a text with a first byte isn't empty
some : (more : List ℕ) → eqb (suc (length more)) 0 ≡ false
some more = ne_eqb _ _ (λ none. omega arith)

head_is_short : (first : ℕ) (more : List ℕ) → first < 254 → head_at (first ∷ more) ≡ Ok (1, first)
unfolding head_at
head_is_short first more lt = let test : ltb first 254 ≡ true = lt-ltb _ _ lt in rw (some more, test) refl

head_is_long : (first : ℕ) (more : List ℕ) → first ≡ 254 → 3 ≤ length more → head_at (first ∷ more) ≡ Ok (4, little_number 3 more)
unfolding head_at
head_is_long first more is enough =
    let above : ltb first 254 ≡ false = le-ltb _ _ (omega arith) in
    let equal : eqb first 254 ≡ true = eq-eqb _ _ is in
    let whole : ltb (suc (length more)) 4 ≡ false = le-ltb _ _ (omega arith) in
    rw (some more, above, equal, whole) refl

head_is_cut : (first : ℕ) (more : List ℕ) (found : ℕ × ℕ) → first ≡ 254 → length more < 3 → head_at (first ∷ more) ≡ Ok found → ⊥
unfolding head_at
head_is_cut first more found is lacks e =
    let above : ltb first 254 ≡ false = le-ltb _ _ (omega arith) in
    let equal : eqb first 254 ≡ true = eq-eqb _ _ is in
    let cut : ltb (suc (length more)) 4 ≡ true = lt-ltb _ _ (omega arith) in
    let no = rw (some more, above, equal, cut) at e in
    cc

head_is_none : (first : ℕ) (more : List ℕ) (found : ℕ × ℕ) → 254 ≤ first → (first ≡ 254 → ⊥) → head_at (first ∷ more) ≡ Ok found → ⊥
unfolding head_at
head_is_none first more found above other e =
    let not_short : ltb first 254 ≡ false = le-ltb _ _ above in
    let not_long : eqb first 254 ≡ false = ne_eqb _ _ other in
    let no = rw (some more, not_short, not_long) at e in
    cc

takes_short : (first : ℕ) (more : List ℕ) → first < 254 → TakesHead (first ∷ more) (1, first)
takes_short first more lt = record { head = inl (lt, refl); enough = omega arith }

takes_long : (first : ℕ) (more : List ℕ) → first ≡ 254 → 3 ≤ length more → IsBytes more → TakesHead (first ∷ more) (4, little_number 3 more)
takes_long first more is enough fits =
    let size = little_number 3 more in
    let below : size < 256 ^ 3 = little_from-lt 0 3 more fits in
    let same : first ∷ take 3 more ≡ long_head size = rw (is, little_bytes-little_number 3 more enough fits) refl in
    record { head = inr (omega arith, same); enough = omega arith }

head_takes : (text : List ℕ) (found : ℕ × ℕ) → IsBytes text → head_at text ≡ Ok found → TakesHead text found
unfolding head_at
head_takes [] found fits e = absurd cc
head_takes (first ∷ more) found fits e =
    let tail : IsBytes more = λ i. fits (suc i) in
    let at : TakesHead (first ∷ more) found =
    elim (cases_lt first 254) [
      | inl lt ↦ subst (TakesHead (first ∷ more)) (same_value (head_at (first ∷ more)) (1, first) found (head_is_short first more lt) e) (takes_short first more lt)
      | inr above ↦ elim (cases_eq first 254) [
        | inl is ↦ elim (cases_lt (length more) 3) [
          | inl cut ↦ absurd (head_is_cut first more found is cut e)
          | inr enough ↦ subst (TakesHead (first ∷ more)) (same_value (head_at (first ∷ more)) (4, little_number 3 more) found (head_is_long first more is enough) e) (takes_long first more is enough tail)
        ]
        | inr other ↦ absurd (head_is_none first more found above other e)
      ]
    ] in at

head_again : (size : ℕ) (front tail : List ℕ) → IsHead size front → head_at (front ++ tail) ≡ Ok (length front, size)
head_again size front tail (inl short) = rw short.1 (head_is_short size tail short.0)
head_again size front tail (inr long) =
    let cells = little_bytes 3 size in
    let count : length cells ≡ 3 = length-bytes_low_first 0 3 size in
    let small : size < 256 ^ 3 = omega (arith, long.0) in
    let back = little_number-reads_back 3 size tail small in
    let is = head_is_long 254 (cells ++ tail) refl (omega (arith, length-append cells tail)) in
    rw long.1 (is ∙ rw back refl)

-- ---- the whole string

-- a text in three parts
three_parts : (a b : ℕ) (text : List ℕ) → text ≡ (take a text ++ take b (drop a text)) ++ drop (a + b) text
three_parts a b text = rw (← take-add a b text) (sym (take-append-drop (a + b) text))

pub bytes_take : (text content rest : List ℕ) → IsBytes text → bytes_at text ≡ Ok (content, rest) → Takes Bytes content text rest
unfolding bytes_at
bytes_take text content rest fits e =
    let a = bind_ok (head_at text) (λ head. raw_at (head.0 + head.1 + padding_of (head.0 + head.1)) text >>= λ field. Ok (take head.1 (drop head.0 field.0), field.1)) (content, rest) e in
    let h = a.0.0 in
    let n = a.0.1 in
    let size = h + n + padding_of (h + n) in
    let b = bind_ok (raw_at size text) (λ field. Ok (take n (drop h field.0), field.1)) (content, rest) a.2 in
    let raw = raw_takes size text b.0.0 b.0.1 b.1 in
    let begun = head_takes text a.0 fits a.1 in
    let enough : size ≤ length text = raw.0 in
    let field = take size text in
    let field_len : length field ≡ size = omega (arith, length-take size text) in
    let front = take h field in
    let front_is : front ≡ take h text = take-take h size text (omega arith) in
    let front_len : length front ≡ h = rw front_is (omega (arith, length-take h text, begun.enough)) in
    let inner = take n (drop h field) in
    let inner_len : length inner ≡ n = omega (arith, length-take n (drop h field), length-drop h field, field_len) in
    let padding = drop (h + n) field in
    let padding_len : length padding ≡ padding_of (length front + length inner) = rw (front_len, inner_len) (omega (arith, length-drop (h + n) field, field_len)) in
    let begins : IsHead (length inner) front = rw (inner_len, front_is) begun.head in
    let same = same_parts {A = List ℕ} {B = List ℕ} (Ok (take n (drop h b.0.0), b.0.1)) (take n (drop h b.0.0)) content b.0.1 rest refl b.2 in
    let content_is : inner ≡ content = ap (λ (x : List ℕ). take n (drop h x)) raw.1 ∙ same.0 in
    let rest_is : drop size text ≡ rest = raw.2 ∙ same.1 in
    let whole : text ≡ field ++ drop size text = sym (take-append-drop size text) in
    subst (λ (p : List ℕ). Takes Bytes p text rest) content_is (field, (front, padding, begins, padding_len, three_parts h n field), subst (λ (r : List ℕ). text ≡ field ++ r) rest_is whole)

pub bytes_again : (content text rest : List ℕ) → ReadsBytes content text → bytes_at (text ++ rest) ≡ Ok (content, rest)
unfolding bytes_at
bytes_again content text rest read =
    let front = read.0 in
    let padding = read.1 in
    let size = length front + length content + padding_of (length front + length content) in
    let split : text ++ rest ≡ front ++ (content ++ padding ++ rest) = rw read.4 (append_assoc (front ++ content) padding rest ∙ append_assoc front content (padding ++ rest) ∙ ap (λ (x : List ℕ). front ++ x) (sym (append_assoc content padding rest))) in
    let begun : head_at (text ++ rest) ≡ Ok (length front, length content) = ap head_at split ∙ head_again (length content) front (content ++ padding ++ rest) read.2 in
    let len : length text ≡ size = rw read.4 (omega (arith, length-append (front ++ content) padding, length-append front content, read.3)) in
    let field : raw_at size (text ++ rest) ≡ Ok (text, rest) = raw_again size text rest len in
    let after : drop (length front) text ≡ content ++ padding = ap (drop (length front)) (read.4 ∙ append_assoc front content padding) ∙ drop_at front (content ++ padding) (length front) refl in
    let inner : take (length content) (drop (length front) text) ≡ content = ap (take (length content)) after ∙ take_at content padding (length content) refl in
    rw (begun, field, inner) refl

-- the short form is a head, and zeros are a padding
pub spelling_reads : (content : List ℕ) → length content ≤ bytes_max → ReadsBytes content (spelling Bytes content)
unfolding spelling
spelling_reads content fits =
    let size = length content in
    let front = head size in
    let padding = replicate (padding_of (length front + size)) 0 in
    let begins : IsHead size front =
    elim (cases_lt size 254) [
      | inl lt ↦ let test : ltb size 254 ≡ true = lt-ltb _ _ lt in inl (lt, rw test refl)
      | inr le ↦ let test : ltb size 254 ≡ false = le-ltb _ _ le in inr (fits, rw test refl)
    ] in
    (front, padding, begins, length-replicate (padding_of (length front + size)) 0, refl)
