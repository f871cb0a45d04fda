-- Numbers in decimal.
use Rattle.std.proofs.Common.{◌≡◌, ◌≢◌, ◌∙◌, ℕ, ◌+◌, ◌%◌, ◌<◌, ◌≤◌, ◌^◌, eqb, List, [], ◌∷◌, All, Bool, true, false, Option, Some, None, Result, Ok, Err, MatchResult, IfNone, Bor, ap, sym, refl, subst, arith}
use Rattle.std.specs.Result.{result_ok}
use Rattle.std.specs.Bool.{then_some}
use Rattle.std.specs.Fmt.{decimal}
use Rattle.std.specs.Str.{IsUtf8, bytes_eq}
use Rattle.std.specs.Str.Parse.{ParsesUnsigned}
use Rattle.std.proofs.lemmas.Fmt.{IsAscii-decimal, parse-decimal, decimal_by_steps}
use Rattle.std.proofs.lemmas.Str.{IsUtf8-from_ascii}
use Rattle.std.proofs.lemmas.Slice.Eq.{bytes_eq-Decides}
use Rattle.std.proofs.lemmas.List.Elements.{All-cons, All-nil, All-append}
use Rattle.std.proofs.lemmas.Bool.{ne_eqb}
use Rattle.auth_keys.specs.KeyFile.{HasNoBlank, is_blank}

-- what an error says of bytes that are no text
pub not_from_err : {A E : Type 0} (r : Result A E) (P : A → Type 0) (N : Type 0) (R : E → Type 0) → result_ok r ≡ None → MatchResult r P (λ e. N × R e) → N
not_from_err (Ok x) P N R e h = cc
not_from_err (Err d) P N R e h = h.0

-- what a success says of the text
pub text_from_ok : {E : Type 0} (r : Result (Bor (List ℕ)) E) (bytes : List ℕ) (Q : Type 0) (R : E → Type 0) (text : Bor (List ℕ)) → Some text ≡ result_ok r → MatchResult r (λ s. (s.now ≡ bytes) × Q) R → text.now ≡ bytes
text_from_ok (Ok s) bytes Q R text e h = let same : text ≡ s = cc in ap (λ (t : Bor (List ℕ)). t.now) same ∙ h.0
text_from_ok (Err d) bytes Q R text e h = cc

-- the digits of a number are text
pub text-decimal : (word : List ℕ) (n : ℕ) → n < 2 ^ 64 → word ≡ decimal n → IsUtf8 word
text-decimal word n fits e = subst IsUtf8 (sym e) (IsUtf8-from_ascii (decimal n) (IsAscii-decimal n fits))

-- a word that spells a number is parsed to it
pub parsed-decimal : {E : Type 0} (word text : List ℕ) (r : Result ℕ E) (n : ℕ) → n < 2 ^ 64 → text ≡ word → word ≡ decimal n → ParsesUnsigned 64 10 text r → result_ok r ≡ Some n
parsed-decimal word text r n fits same e h = ap result_ok (parse-decimal 64 n text r fits fits (same ∙ e) h)

pub same_number : (a b : ℕ) (o : Option ℕ) → Some a ≡ o → o ≡ Some b → a ≡ b
same_number a b o e f = cc

-- where the spelling of what was parsed isn't the word, the word spells no number
pub if_other : (b : Bool) (parsed : ℕ) (o : Option ℕ) (P : Type 0) → o ≡ then_some b parsed → (b ≡ false → P) → IfNone o P
if_other true parsed o P e h = subst (λ o. IfNone o P) (sym e) tt
if_other false parsed o P e h = subst (λ o. IfNone o P) (sym e) (h refl)

pub differs : (b : Bool) (spelled word : List ℕ) → b ≡ bytes_eq spelled word → b ≡ false → spelled ≡ word → ⊥
differs b spelled word e not_same same = let yes = (bytes_eq-Decides spelled word).1 same in cc

-- no blank stands in a number
digit-not_blank : (byte : ℕ) → 48 ≤ byte → is_blank byte ≡ false
digit-not_blank byte h =
    let no_space : eqb byte 32 ≡ false = ne_eqb byte 32 (λ e. omega (arith, h, e)) in
    let no_tab : eqb byte 9 ≡ false = ne_eqb byte 9 (λ e. omega (arith, h, e)) in
    rw (no_space, no_tab) refl

pub no_blank-decimal : (n : ℕ) → n < 2 ^ 64 → HasNoBlank (decimal n)
no_blank-decimal = decimal_by_steps (λ n digits. HasNoBlank digits)
    (λ n small. All-cons (λ b. is_blank b ≡ false) (48 + n) [] (digit-not_blank (48 + n) (omega arith)) (All-nil (λ b. is_blank b ≡ false)))
    (λ n digits large before. All-append (λ b. is_blank b ≡ false) digits ((48 + n % 10) ∷ []) before
    (All-cons (λ b. is_blank b ≡ false) (48 + n % 10) [] (digit-not_blank (48 + n % 10) (omega arith)) (All-nil (λ b. is_blank b ≡ false))))
