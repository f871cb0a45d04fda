-- Numbers in decimal.
use Rattle.std.proofs.Common.{◌≡◌, ◌∙◌, ℕ, ◌<◌, ◌^◌, List, Bool, true, false, Option, Some, Result, Ok, Err, IfNone, IfSome, IfErr, IsErrAnd, OnOk, ap, sym, refl, subst}
use Rattle.std.specs.Result.{result_ok}
use Rattle.std.specs.Bool.{then_some}
use Rattle.std.specs.Fmt.{decimal}
use Rattle.std.specs.Str.{bytes_eq}
use Rattle.std.specs.Str.Parse.{ParsesUnsigned}
use Rattle.std.proofs.lemmas.Fmt.{parse-decimal}
use Rattle.std.proofs.lemmas.Slice.Eq.{bytes_eq-Decides}

-- a text that spells a number is parsed to it
pub parsed-decimal : {E : Type 0} (text : List ℕ) (r : Result ℕ E) (n : ℕ) → n < 2 ^ 64 → text ≡ decimal n → ParsesUnsigned 64 10 text r → result_ok r ≡ Some n
parsed-decimal text r n fits e h = ap result_ok (parse-decimal 64 n text r fits fits e h)

pub same_number : (a b : ℕ) (o : Option ℕ) → Some a ≡ o → o ≡ Some b → a ≡ b
same_number a b o e f = cc

-- where the spelling of what was read isn't the text, the text spells nothing
pub if_other : (b : Bool) (read : ℕ) (o : Option ℕ) (P : Type 0) → o ≡ then_some b read → (b ≡ false → P) → IfNone o P
if_other true read o P e h = subst (λ o. IfNone o P) (sym e) tt
if_other false read o P e h = subst (λ o. IfNone o P) (sym e) (h refl)

pub differs : (b : Bool) (spelled text : List ℕ) → b ≡ bytes_eq spelled text → b ≡ false → spelled ≡ text → ⊥
differs b spelled text e not_same same = let yes = (bytes_eq-Decides spelled text).1 same in cc

-- where it is the text, the text spells that
pub if_same : (b : Bool) (read : ℕ) (o : Option ℕ) (P : ℕ → Type 0) → o ≡ then_some b read → (b ≡ true → P read) → IfSome o P
if_same true read o P e h = subst (λ o. IfSome o P) (sym e) (h refl)
if_same false read o P e h = subst (λ o. IfSome o P) (sym e) tt

pub alike : (b : Bool) (spelled text : List ℕ) → b ≡ bytes_eq spelled text → b ≡ true → spelled ≡ text
alike b spelled text e same = (bytes_eq-Decides spelled text).0 (sym e ∙ same)

-- whatever the error
pub if_err : {T E : Type 0} (r : Result T E) (P : Type 0) → P → IfErr r (λ _. P)
if_err (Ok x) P h = tt
if_err (Err e) P h = h

pub on_ok : {T E : Type 0} (r : Result T E) (P : Type 0) (x : T) → OnOk r P → Some x ≡ result_ok r → P
on_ok (Ok y) P x h e = h
on_ok (Err d) P x h e = cc

-- the error that was passed on
pub passed_on : {T E : Type 0} (r : Result T E) (fault : E) (P : E → Type 0) → IsErrAnd r (λ e. e ≡ fault) → P fault → IfErr r P
passed_on (Ok x) fault P same h = tt
passed_on (Err e) fault P same h = subst P (sym same) h
