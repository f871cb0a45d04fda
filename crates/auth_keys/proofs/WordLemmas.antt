-- The words of a line.
use Rattle.std.proofs.Common.{◌≡◌, ◌≢◌, ◌∙◌, ℕ, ◌+◌, ◌<◌, ◌≤◌, ◌^◌, List, [], ◌∷◌, ◌++◌, Ok, true, false, eqb, nat_le, ◌⊎◌, inl, inr, ap, sym, refl, subst, arith, get_or}
use Rattle.std.specs.Fmt.{decimal}
use Rattle.std.specs.Prelude.{codes}
use Rattle.std.proofs.lemmas.Fmt.{decimal_injective}
use Rattle.std.proofs.lemmas.List.Elements.{All-cons, All-nil, All-head, All-tail}
use Rattle.std.specs.List.{list_all}
use Rattle.std.proofs.lemmas.Bool.{leb-true, and_parts, ne_eqb}
use Rattle.hex.proofs.HexLemmas.{decode_of-same}
use Rattle.msg_ids.specs.Moments.{latest_moment}
use Rattle.auth_keys.specs.KeyFile.{AreDigitsOf, HasNoBlank, IsLeftOut, IsSayable, IsSpelt, Says, is_blank}
use Rattle.auth_keys.specs.Words.{IsCut}
use Rattle.auth_keys.specs.declared.key.KeyKind.{KeyKind}
use Rattle.auth_keys.specs.declared.key.KeyKind.TheVariants.{Perm, Temp}
use Rattle.auth_keys.specs.declared.ring.RingKey.{RingKey}
use Rattle.auth_keys.proofs.NumberLemmas.{no_blank-decimal}

-- two fronts with no blank, each before a blank, are one
same_front : (a b : List ℕ) (c d : ℕ) (x y : List ℕ) → HasNoBlank a → HasNoBlank b → is_blank c ≡ true → is_blank d ≡ true → a ++ c ∷ x ≡ b ++ d ∷ y → (a ≡ b) × (x ≡ y)
same_front [] [] c d x y h k is is' e = (refl, cc)
same_front [] (f ∷ b) c d x y h k is is' e =
    let same : c ≡ f = cc in
    let wrong : true ≡ false = sym is ∙ (ap is_blank same ∙ All-head (λ b. is_blank b ≡ false) f b k) in
    cc
same_front (f ∷ a) [] c d x y h k is is' e =
    let same : f ≡ d = cc in
    let wrong : true ≡ false = sym is' ∙ (ap is_blank (sym same) ∙ All-head (λ b. is_blank b ≡ false) f a h) in
    cc
same_front (f ∷ a) (g ∷ b) c d x y h k is is' e =
    let rest : a ++ c ∷ x ≡ b ++ d ∷ y = cc in
    let first : f ≡ g = cc in
    let more = same_front a b c d x y (All-tail (λ b. is_blank b ≡ false) f a h) (All-tail (λ b. is_blank b ≡ false) g b k) is is' rest in
    (ap (λ n. n ∷ a) first ∙ ap (λ l. g ∷ l) more.0, more.1)

-- a text is cut in one way
cut-one : (text a b x y : List ℕ) → IsCut text a x → IsCut text b y → (a ≡ b) × (x ≡ y)
cut-one text a b x y h k = same_front a b h.blank k.blank x y h.no_blank k.no_blank h.is k.is (sym h.whole ∙ k.whole)

no_blank_inside : (text a : List ℕ) (blank : ℕ) (x : List ℕ) → HasNoBlank text → is_blank blank ≡ true → text ≡ a ++ blank ∷ x → ⊥
no_blank_inside text [] blank x h is e = let wrong : true ≡ false = sym is ∙ All-head (λ b. is_blank b ≡ false) blank x (subst HasNoBlank e h) in cc
no_blank_inside text (c ∷ a) blank x h is e = no_blank_inside (a ++ blank ∷ x) a blank x (All-tail (λ b. is_blank b ≡ false) c (a ++ blank ∷ x) (subst HasNoBlank e h)) is refl

-- what has no blank isn't cut
pub not_cut : (text front rest : List ℕ) → HasNoBlank text → IsCut text front rest → ⊥
not_cut text front rest none h = no_blank_inside text front h.blank rest none h.is h.whole

-- a moment of expiry that a line says has no blank in it
pub no_blank-expires : (expires : ℕ) → IsSayable (Temp expires) → HasNoBlank (decimal expires)
no_blank-expires expires h = no_blank-decimal expires (omega (arith, h.1))

-- a key has one reading of its digits
pub digits-one : (digits a b : List ℕ) → AreDigitsOf digits a → AreDigitsOf digits b → a ≡ b
digits-one digits a b h k = decode_of-same digits a b h.decoded k.decoded

-- ---- what a line says

not_hash : (line : List ℕ) (byte : ℕ) (rest : List ℕ) → line ≡ byte ∷ rest → byte ≢ 35 → IsLeftOut line → ⊥
not_hash [] byte rest e other left = cc
not_hash (first ∷ line) byte rest e other left = let same : byte ≡ first = cc in other (same ∙ left)

spelled-not_left_out : (line : List ℕ) (kind : KeyKind) (digits : List ℕ) → IsSpelt line kind digits → IsLeftOut line → ⊥
spelled-not_left_out line Perm digits (blank, is, e) left = not_hash line _ _ e (λ x. omega (arith, x)) left
spelled-not_left_out line (Temp expires) digits (first, second, is, is', e) left = not_hash line _ _ e (λ x. omega (arith, x)) left

-- a line that says a key isn't left out
pub said-not_left_out : (line : List ℕ) (entry : RingKey) → Says line entry → IsLeftOut line → ⊥
said-not_left_out line entry h left = spelled-not_left_out line entry.kind h.digits h.spelled left

abbrev first_of : List ℕ → ℕ
first_of line = get_or line 0 0

-- ---- the words of a line

-- the word for a kind
abbrev word_for : KeyKind → List ℕ
word_for Perm = codes "perm"
word_for (Temp expires) = codes "temp"

-- the digits that stand behind that word, or behind the moment that follows it
abbrev HasDigits : KeyKind → List ℕ → List ℕ → Type 0
HasDigits Perm rest digits = rest ≡ digits
HasDigits (Temp expires) rest digits = IsCut rest (decimal expires) digits

letters : (word : List ℕ) → list_all (λ b. nat_le 33 b) word ≡ true → HasNoBlank word
letters [] e = All-nil (λ b. is_blank b ≡ false)
letters (byte ∷ word) e =
    let parts = and_parts (nat_le 33 byte) (list_all (λ b. nat_le 33 b) word) e in
    let large : 33 ≤ byte = leb-true 33 byte parts.0 in
    let no_space : eqb byte 32 ≡ false = ne_eqb byte 32 (λ s. omega (arith, large, s)) in
    let no_tab : eqb byte 9 ≡ false = ne_eqb byte 9 (λ s. omega (arith, large, s)) in
    let here : is_blank byte ≡ false = rw (no_space, no_tab) refl in
    All-cons (λ b. is_blank b ≡ false) byte word here (letters word parts.1)

said-cut : (line : List ℕ) (kind : KeyKind) (digits : List ℕ) → IsSayable kind → IsSpelt line kind digits → (rest : List ℕ) × IsCut line (word_for kind) rest × HasDigits kind rest digits
said-cut line Perm digits h (blank, is, e) = (digits, record { no_blank = letters (codes "perm") refl; blank = blank; is = is; whole = e }, refl)
said-cut line (Temp expires) digits h (first, second, is, is', e) = (
  decimal expires ++ second ∷ digits,
  record { no_blank = letters (codes "temp") refl; blank = first; is = is; whole = e },
  record { no_blank = no_blank-expires expires h; blank = second; is = is'; whole = refl },
)

-- the kind and the digits of a line are one
words-one : (kind other : KeyKind) (digits last : List ℕ) (rest more : List ℕ) → IsSayable kind → IsSayable other → word_for kind ≡ word_for other → rest ≡ more
    → HasDigits kind rest digits → HasDigits other more last → (kind ≡ other) × (digits ≡ last)
words-one Perm Perm digits last rest more h k w e a b = (refl, sym a ∙ (e ∙ b))
words-one Perm (Temp expires) digits last rest more h k w e a b = let f : 112 ≡ 116 = ap first_of w in absurd (omega (arith, f))
words-one (Temp expires) Perm digits last rest more h k w e a b = let f : 116 ≡ 112 = ap first_of w in absurd (omega (arith, f))
words-one (Temp expires) (Temp other) digits last rest more h k w e a b =
    let both = cut-one rest (decimal expires) (decimal other) digits last a (subst (λ (r : List ℕ). IsCut r (decimal other) last) (sym e) b) in
    (ap Temp (decimal_injective expires other (omega (arith, h.1)) (omega (arith, k.1)) both.0), both.1)

abbrev entry_with : List ℕ → KeyKind → RingKey
entry_with key kind = record { key = key; kind = kind }

-- a line says one key
pub says-one : (line : List ℕ) (entry other : RingKey) → Says line entry → Says line other → entry ≡ other
says-one line entry other h k =
    let a = said-cut line entry.kind h.digits h.kind h.spelled in
    let b = said-cut line other.kind k.digits k.kind k.spelled in
    let cut = cut-one line (word_for entry.kind) (word_for other.kind) a.0 b.0 a.1 b.1 in
    let same = words-one entry.kind other.kind h.digits k.digits a.0 b.0 h.kind k.kind cut.0 cut.1 a.2 b.2 in
    let key = digits-one k.digits entry.key other.key (subst (λ (d : List ℕ). AreDigitsOf d entry.key) same.1 h.decoded) k.decoded in
    ap (λ (kind : KeyKind). entry_with entry.key kind) same.0 ∙ ap (λ (key : List ℕ). entry_with key other.kind) key

-- ---- what the words say

-- what stands behind the word of a temporary key
pub record IsTemp (rest key : List ℕ) : Type 0 where
  pub expires : ℕ
  pub digits : List ℕ
  pub from_one : 1 ≤ expires
  pub to_latest : expires ≤ latest_moment
  pub cut : IsCut rest (decimal expires) digits
  pub decoded : AreDigitsOf digits key

word-said : (kind : KeyKind) (word rest digits key : List ℕ) → IsSayable kind → word ≡ word_for kind → HasDigits kind rest digits → AreDigitsOf digits key
    → ((word ≡ codes "perm") × AreDigitsOf rest key) ⊎ ((word ≡ codes "temp") × IsTemp rest key)
word-said Perm word rest digits key h w a d = inl (w, subst (λ (l : List ℕ). AreDigitsOf l key) (sym a) d)
word-said (Temp expires) word rest digits key h w a d = inr (w, record { expires = expires; digits = digits; from_one = h.0; to_latest = h.1; cut = a; decoded = d })

-- what a line that says a key says in its words
pub says-words : (line word rest : List ℕ) (entry : RingKey) → IsCut line word rest → Says line entry → ((word ≡ codes "perm") × AreDigitsOf rest entry.key) ⊎ ((word ≡ codes "temp") × IsTemp rest entry.key)
says-words line word rest entry h says =
    let a = said-cut line entry.kind says.digits says.kind says.spelled in
    let cut = cut-one line word (word_for entry.kind) rest a.0 h a.1 in
    word-said entry.kind word rest says.digits entry.key says.kind cut.0 (subst (λ (r : List ℕ). HasDigits entry.kind r says.digits) (sym cut.1) a.2) says.decoded

-- a line that says a key has a blank
pub says-blank : (line : List ℕ) (entry : RingKey) → HasNoBlank line → Says line entry → ⊥
says-blank line entry none says = let a = said-cut line entry.kind says.digits says.kind says.spelled in not_cut line (word_for entry.kind) a.0 none a.1

-- where the word isn't that of a permanent key, it is that of a temporary one
pub temp-only : (line word rest : List ℕ) (entry : RingKey) → IsCut line word rest → (word ≡ codes "perm" → ⊥) → Says line entry → (word ≡ codes "temp") × IsTemp rest entry.key
temp-only line word rest entry h other says = elim (says-words line word rest entry h says) [
  | inl perm ↦ absurd (other perm.0)
  | inr temp ↦ temp
]

-- the moment and the digits of a temporary key are what the words behind it are
pub temp-words : (rest front digits key : List ℕ) → IsCut rest front digits → (h : IsTemp rest key) → (front ≡ decimal h.expires) × AreDigitsOf digits key
temp-words rest front digits key k h =
    let both = cut-one rest front (decimal h.expires) digits h.digits k h.cut in
    (both.0, subst (λ (l : List ℕ). AreDigitsOf l key) (sym both.1) h.decoded)
