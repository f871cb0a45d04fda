-- What is sent begins as nothing else.
use Rattle.std.proofs.Common.{◌≡◌, ℕ, ◌≤◌, List, [], ◌∷◌, take, length, refl, sym, ap, ◌∙◌, arith, true, false, Bool, Option}
use Rattle.std.proofs.lemmas.List.{take-take}
use Rattle.std.specs.Prelude.{◌||◌, slice_set, if◌then◌else◌, nat_eq, replicate}
use Rattle.std.specs.List.{starts_with}
use Rattle.obfus.specs.Starts.{begins_as_another, begins_full, begins_plain, abridged_start, head_start, post_start, get_start, options_start, tls_start, padded_start, intermediate_start, first_mended, next_mended, start_of}
use Rattle.obfus.specs.Streams.{ciphered}
use Rattle.obfus.specs.declared.tag.Tag.{Tag}
use Rattle.obfus.proofs.Undone.{length-first, sent_front, start_long, start_front}

-- the bytes begin as no start may, and not as a full connection
pub record Clean (bytes : List ℕ) : Type 0 where
  pub other : begins_as_another bytes ≡ false
  pub unnumbered : begins_full bytes ≡ false

-- that is told by the first 8 bytes
another_front : (bytes : List ℕ) → begins_as_another (take 8 bytes) ≡ begins_as_another bytes
another_front [] = refl
another_front (x0 ∷ []) = refl
another_front (x0 ∷ x1 ∷ []) = refl
another_front (x0 ∷ x1 ∷ x2 ∷ []) = refl
another_front (x0 ∷ x1 ∷ x2 ∷ x3 ∷ xs) = refl

zero_front : (bytes : List ℕ) → starts_with nat_eq (take 4 bytes) (replicate 4 0) ≡ starts_with nat_eq bytes (replicate 4 0)
zero_front [] = refl
zero_front (x0 ∷ []) = refl
zero_front (x0 ∷ x1 ∷ []) = refl
zero_front (x0 ∷ x1 ∷ x2 ∷ []) = refl
zero_front (x0 ∷ x1 ∷ x2 ∷ x3 ∷ xs) = refl

full_front : (bytes : List ℕ) → begins_full (take 8 bytes) ≡ begins_full bytes
full_front [] = refl
full_front (x0 ∷ []) = refl
full_front (x0 ∷ x1 ∷ []) = refl
full_front (x0 ∷ x1 ∷ x2 ∷ []) = refl
full_front (x0 ∷ x1 ∷ x2 ∷ x3 ∷ xs) = zero_front xs

clean_by_front : (xs ys : List ℕ) → take 8 xs ≡ take 8 ys → Clean xs → Clean ys
clean_by_front xs ys same clean = record {
  other = sym (another_front ys) ∙ sym (ap (λ (l : List ℕ). begins_as_another l) same) ∙ another_front xs ∙ clean.other;
  unnumbered = sym (full_front ys) ∙ sym (ap (λ (l : List ℕ). begins_full l) same) ∙ full_front xs ∙ clean.unnumbered;
}

-- no first byte 01 begins another connection
another_cases : (b : Bool) (x0 x1 x2 x3 : ℕ) (xs : List ℕ) → begins_as_another (x0 ∷ x1 ∷ x2 ∷ x3 ∷ xs) ≡ b
    → begins_as_another (if b then slice_set (x0 ∷ x1 ∷ x2 ∷ x3 ∷ xs) 0 1 else x0 ∷ x1 ∷ x2 ∷ x3 ∷ xs) ≡ false
another_cases true x0 x1 x2 x3 xs is = refl
another_cases false x0 x1 x2 x3 xs is = is

mended_first : (bytes : List ℕ) → 4 ≤ length bytes → begins_as_another (first_mended bytes) ≡ false
mended_first [] long = absurd (omega arith)
mended_first (x0 ∷ []) long = absurd (omega arith)
mended_first (x0 ∷ x1 ∷ []) long = absurd (omega arith)
mended_first (x0 ∷ x1 ∷ x2 ∷ []) long = absurd (omega arith)
mended_first (x0 ∷ x1 ∷ x2 ∷ x3 ∷ xs) long = another_cases (begins_as_another (x0 ∷ x1 ∷ x2 ∷ x3 ∷ xs)) x0 x1 x2 x3 xs refl

-- nor does a byte 4 of 01 begin a full one
full_cases : (b : Bool) (x0 x1 x2 x3 x4 : ℕ) (xs : List ℕ) → begins_as_another (x0 ∷ x1 ∷ x2 ∷ x3 ∷ x4 ∷ xs) ≡ false
    → begins_full (x0 ∷ x1 ∷ x2 ∷ x3 ∷ x4 ∷ xs) ≡ b
    → Clean (if b then slice_set (x0 ∷ x1 ∷ x2 ∷ x3 ∷ x4 ∷ xs) 4 1 else x0 ∷ x1 ∷ x2 ∷ x3 ∷ x4 ∷ xs)
full_cases true x0 x1 x2 x3 x4 xs other is = record { other = other; unnumbered = refl }
full_cases false x0 x1 x2 x3 x4 xs other is = record { other = other; unnumbered = is }

mended_next : (bytes : List ℕ) → 5 ≤ length bytes → begins_as_another bytes ≡ false → Clean (next_mended bytes)
mended_next [] long other = absurd (omega arith)
mended_next (x0 ∷ []) long other = absurd (omega arith)
mended_next (x0 ∷ x1 ∷ []) long other = absurd (omega arith)
mended_next (x0 ∷ x1 ∷ x2 ∷ []) long other = absurd (omega arith)
mended_next (x0 ∷ x1 ∷ x2 ∷ x3 ∷ []) long other = absurd (omega arith)
mended_next (x0 ∷ x1 ∷ x2 ∷ x3 ∷ x4 ∷ xs) long other =
    full_cases (begins_full (x0 ∷ x1 ∷ x2 ∷ x3 ∷ x4 ∷ xs)) x0 x1 x2 x3 x4 xs other refl

pub sent_clean : (secret : Option (List ℕ)) (tag : Tag) (dc : ℕ) (drawn : List ℕ) → length drawn ≡ 64
    → Clean (ciphered secret (start_of tag dc drawn))
sent_clean secret tag dc drawn long =
    let start : List ℕ = start_of tag dc drawn in
    let mended : List ℕ = next_mended (first_mended drawn) in
    let clean : Clean mended = mended_next (first_mended drawn) (omega (arith, length-first drawn, long)) (mended_first drawn (omega arith)) in
    let sent : take 56 (ciphered secret start) ≡ take 56 mended =
    sent_front secret start (start_long tag dc drawn long) ∙ start_front tag dc drawn long in
    clean_by_front mended (ciphered secret start)
    (sym (take-take 8 56 mended (omega arith)) ∙ ap (take 8) (sym sent) ∙ take-take 8 56 (ciphered secret start) (omega arith))
    clean

or_first : (a b : Bool) → (a || b) ≡ false → a ≡ false
or_first true b none = none
or_first false b none = refl

or_last : (a b : Bool) → (a || b) ≡ false → b ≡ false
or_last true true none = none
or_last true false none = refl
or_last false b none = none

or_head : (a b c d e f : Bool) → (a || b || c || d || e || f) ≡ false → a ≡ false
or_head true b c d e f none = none
or_head false b c d e f none = refl

or_none : (a b : Bool) → a ≡ false → b ≡ false → (a || b) ≡ false
or_none true b first last = first
or_none false b first last = last

-- what begins as no start may and isn't full begins as no plain connection
pub unplain : (bytes : List ℕ) → Clean bytes → begins_plain bytes ≡ false
unplain bytes clean =
    let s : List ℕ → Bool = λ (word : List ℕ). starts_with nat_eq bytes word in
    let upto_tls : Bool = s abridged_start || s head_start || s post_start || s get_start || s options_start || s tls_start in
    let upto_padded = or_first (upto_tls || s padded_start) (s intermediate_start) clean.other in
    let abridged = or_head (s abridged_start) (s head_start) (s post_start) (s get_start) (s options_start) (s tls_start)
    (or_first upto_tls (s padded_start) upto_padded) in
    let intermediate = or_last (upto_tls || s padded_start) (s intermediate_start) clean.other in
    let padded = or_last upto_tls (s padded_start) upto_padded in
    or_none (s abridged_start || s intermediate_start || s padded_start) (begins_full bytes)
    (or_none (s abridged_start || s intermediate_start) (s padded_start) (or_none (s abridged_start) (s intermediate_start) abridged intermediate) padded)
    clean.unnumbered
