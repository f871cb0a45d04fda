-- Tests, filters and facts of some element.
use Rattle.std.proofs.Common.{◌≡◌, ℕ, zero, suc, ◌<◌, ◌≤◌, ◌⊎◌, inl, inr, Bool, true, false, cond, List, [], ◌∷◌, length, ap, ◌∙◌, sym, refl, subst, arith}
use Rattle.std.proofs.lemmas.Bool.{ltb-true, ltb-false, lt-ltb, le-ltb}
use Rattle.std.specs.Prelude.{Any, filter, nat_lt, slice_index_or}
use Rattle.salt_line.specs.Rows.{Row}

pub bool_cases : (b : Bool) → (b ≡ true) ⊎ (b ≡ false)
bool_cases true = inl refl
bool_cases false = inr refl

same_tests-go : (a b c d : ℕ) → (a < b → c < d) → (c < d → a < b) → ((nat_lt c d ≡ true) ⊎ (nat_lt c d ≡ false))
    → nat_lt a b ≡ nat_lt c d
same_tests-go a b c d there back (inl holds) = lt-ltb a b (back (ltb-true c d holds)) ∙ sym holds
same_tests-go a b c d there back (inr fails) =
    let past = ltb-false c d fails in
    let not_below : b ≤ a = grind (arith, there) in
    le-ltb a b not_below ∙ sym fails

-- two tests that are true at the same numbers are one test
pub same_tests : (a b c d : ℕ) → (a < b → c < d) → (c < d → a < b) → nat_lt a b ≡ nat_lt c d
same_tests a b c d there back = same_tests-go a b c d there back (bool_cases (nat_lt c d))

pub filter_yes : (p : Row → Bool) (x : Row) (xs : List Row) → p x ≡ true → filter p (x ∷ xs) ≡ x ∷ filter p xs
filter_yes p x xs e = ap (λ b. cond b (x ∷ filter p xs) (filter p xs)) e

pub filter_no : (p : Row → Bool) (x : Row) (xs : List Row) → p x ≡ false → filter p (x ∷ xs) ≡ filter p xs
filter_no p x xs e = ap (λ b. cond b (x ∷ filter p xs) (filter p xs)) e

-- a filter by one test is a filter by an equal test
pub filter-ext : (p q : Row → Bool) → ((x : Row) → p x ≡ q x) → (xs : List Row) → filter p xs ≡ filter q xs
filter-ext p q same [] = refl
filter-ext p q same (x ∷ xs) =
    ap (λ b. cond b (x ∷ filter p xs) (filter p xs)) (same x)
    ∙ ap (λ l. cond (q x) (x ∷ l) l) (filter-ext p q same xs)

filter-filter-go : (p q : Row → Bool) (x : Row) (xs : List Row) → (q x ≡ true → p x ≡ true)
    → filter q (filter p xs) ≡ filter q xs → ((p x ≡ true) ⊎ (p x ≡ false)) → ((q x ≡ true) ⊎ (q x ≡ false))
    → filter q (filter p (x ∷ xs)) ≡ filter q (x ∷ xs)
filter-filter-go p q x xs less rest (inl py) (inl qy) =
    ap (filter q) (filter_yes p x xs py) ∙ filter_yes q x (filter p xs) qy ∙ ap (λ l. x ∷ l) rest ∙ sym (filter_yes q x xs qy)
filter-filter-go p q x xs less rest (inl py) (inr qn) =
    ap (filter q) (filter_yes p x xs py) ∙ filter_no q x (filter p xs) qn ∙ rest ∙ sym (filter_no q x xs qn)
filter-filter-go p q x xs less rest (inr pn) (inl qy) =
    let e : true ≡ false = sym (less qy) ∙ pn in cc
filter-filter-go p q x xs less rest (inr pn) (inr qn) =
    ap (filter q) (filter_no p x xs pn) ∙ rest ∙ sym (filter_no q x xs qn)

-- a stricter filter takes no notice of a laxer one before it
pub filter-filter : (p q : Row → Bool) → ((x : Row) → q x ≡ true → p x ≡ true) → (xs : List Row)
    → filter q (filter p xs) ≡ filter q xs
filter-filter p q less [] = refl
filter-filter p q less (x ∷ xs) =
    filter-filter-go p q x xs (less x) (filter-filter p q less xs) (bool_cases (p x)) (bool_cases (q x))

pub any_here : (P : Row → Type 0) (x : Row) (xs : List Row) → P x → Any P (x ∷ xs)
any_here P x xs h = (0, x, omega arith, refl, h)

pub any_there : (P : Row → Type 0) (x : Row) (xs : List Row) → Any P xs → Any P (x ∷ xs)
any_there P x xs some = let inside = some.2 in (suc some.0, some.1, omega arith, some.3, some.4)

any_cases-go : (P : Row → Type 0) (x : Row) (xs : List Row) (k : ℕ) (y : Row) → k < length (x ∷ xs)
    → slice_index_or (x ∷ xs) k y ≡ y → P y → (P x) ⊎ (Any P xs)
any_cases-go P x xs zero y inside is h = inl (subst P (sym is) h)
any_cases-go P x xs (suc k) y inside is h = inr (k, y, omega arith, is, h)

pub any_cases : (P : Row → Type 0) (x : Row) (xs : List Row) → Any P (x ∷ xs) → (P x) ⊎ (Any P xs)
any_cases P x xs some = any_cases-go P x xs some.0 some.1 some.2 some.3 some.4

pub not_any : (P : Row → Type 0) → Any P [] → ⊥
not_any P some = let inside = some.2 in omega arith

any_from_filter-go : (P : Row → Type 0) (p : Row → Bool) (x : Row) (xs : List Row) → (Any P (filter p xs) → Any P xs)
    → ((p x ≡ true) ⊎ (p x ≡ false)) → Any P (filter p (x ∷ xs)) → Any P (x ∷ xs)
any_from_filter-go P p x xs rest (inl holds) some =
    elim (any_cases P x (filter p xs) (subst (Any P) (filter_yes p x xs holds) some)) [
      | inl here ↦ any_here P x xs here
      | inr there ↦ any_there P x xs (rest there)
    ]
any_from_filter-go P p x xs rest (inr fails) some =
    any_there P x xs (rest (subst (Any P) (filter_no p x xs fails) some))

-- some element that a filter kept is some element
pub any_from_filter : (P : Row → Type 0) (p : Row → Bool) (xs : List Row) → Any P (filter p xs) → Any P xs
any_from_filter P p [] some = some
any_from_filter P p (x ∷ xs) some = any_from_filter-go P p x xs (any_from_filter P p xs) (bool_cases (p x)) some

any_to_filter-go : (P : Row → Type 0) (p : Row → Bool) (x : Row) (xs : List Row) → (P x → p x ≡ true)
    → (Any P xs → Any P (filter p xs)) → ((p x ≡ true) ⊎ (p x ≡ false)) → Any P (x ∷ xs) → Any P (filter p (x ∷ xs))
any_to_filter-go P p x xs kept rest (inl holds) some =
    elim (any_cases P x xs some) [
      | inl here ↦ subst (Any P) (sym (filter_yes p x xs holds)) (any_here P x (filter p xs) here)
      | inr there ↦ subst (Any P) (sym (filter_yes p x xs holds)) (any_there P x (filter p xs) (rest there))
    ]
any_to_filter-go P p x xs kept rest (inr fails) some =
    elim (any_cases P x xs some) [
      | inl here ↦ let e : true ≡ false = sym (kept here) ∙ fails in cc
      | inr there ↦ subst (Any P) (sym (filter_no p x xs fails)) (rest there)
    ]

-- a filter keeps some element of which the test is true
pub any_to_filter : (P : Row → Type 0) (p : Row → Bool) → ((x : Row) → P x → p x ≡ true) → (xs : List Row)
    → Any P xs → Any P (filter p xs)
any_to_filter P p kept [] some = some
any_to_filter P p kept (x ∷ xs) some =
    any_to_filter-go P p x xs (kept x) (any_to_filter P p kept xs) (bool_cases (p x)) some

-- some element of which one fact holds is one of which a weaker fact holds
pub any_weaker : (P Q : Row → Type 0) → ((x : Row) → P x → Q x) → (xs : List Row) → Any P xs → Any Q xs
any_weaker P Q weaker xs some = (some.0, some.1, some.2, some.3, weaker some.1 some.4)
