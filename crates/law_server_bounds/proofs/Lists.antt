-- Lists.
use Rattle.std.proofs.Common.{◌≡◌, ◌∙◌, ℕ, zero, suc, Bool, true, false, cond, Option, Some, None, List, [], ◌∷◌, ◌++◌, length, get_or, ap, sym, subst, refl, arith, inl, inr}
use Rattle.std.specs.Prelude.{map}
use Rattle.std.specs.List.{All, AllByRecursion, Contains, filter, find, flat_map}
use Rattle.std.proofs.lemmas.Bool.{cases_Bool, cond-true, cond-false, cond_both}
use Rattle.std.proofs.lemmas.List.Elements.{All-nil, All-cons, All-head, All-tail, All-weaker}

-- a chosen member of an option
or_else : {X : Type 0} → X → Option X → X
or_else x None = x
or_else x (Some y) = y

pub some-same : {X : Type 0} (one other : X) → Some one ≡ Some other → one ≡ other
unfolding or_else
some-same one other is = ap (or_else one) is

pub none-some : {X : Type 0} (x : X) → None ≡ Some x → ⊥
none-some {X} x same =
    let P : Option X → Type 0 = λ o. elim o [ Some z ↦ ⊥ | None ↦ Unit {0} ] in
    subst P same tt

-- what is found is a member, and passes the test
pub find-holds : {X : Type 0} (test : X → Bool) (xs : List X) (x : X) → find test xs ≡ Some x → Contains xs x × (test x ≡ true)
find-holds test [] x is = absurd (none-some x is)
find-holds {X} test (first ∷ xs) x is =
    elim (cases_Bool (test first)) [
      | inl holds ↦
          let same = some-same first x (sym (cond-true (test first) (Some first) (find test xs) holds) ∙ is) in
          let T : X → Type 0 = λ x. test x ≡ true in
          ((0, omega arith, same), subst T same holds)
      | inr fails ↦
          let rest = find-holds test xs x (sym (cond-false (test first) (Some first) (find test xs) fails) ∙ is) in
          let has = rest.0 in
          ((suc has.0, let within = has.1 in omega arith, has.2), rest.1)
    ]

pub find-all : {X : Type 0} (P : X → Type 0) (test : X → Bool) (xs : List X) (x : X) → All P xs → find test xs ≡ Some x → P x
find-all P test xs x all is =
    let has = (find-holds test xs x is).0 in
    subst P has.2 (all has.0 x has.1)

pub all-filter : {X : Type 0} (P : X → Type 0) (test : X → Bool) (xs : List X) → All P xs → All P (filter test xs)
all-filter P test [] all = All-nil P
all-filter {X} P test (x ∷ xs) all =
    let rest = all-filter P test xs (All-tail P x xs all) in
    cond_both (test x) (x ∷ filter test xs) (filter test xs) (λ (kept : List X). All P kept)
    (λ is. All-cons P x (filter test xs) (All-head P x xs all) rest) (λ is. rest)

pub all-map : {X : Type 0} (P : X → Type 0) (change : X → X) (xs : List X) → ((x : X) → P x → P (change x)) → All P xs → All P (map change xs)
all-map P change [] keeps all = All-nil P
all-map P change (x ∷ xs) keeps all =
    All-cons P (change x) (map change xs) (keeps x (All-head P x xs all)) (all-map P change xs keeps (All-tail P x xs all))

contains-later : {X : Type 0} (x first : X) (xs : List X) → Contains xs x → Contains (first ∷ xs) x
contains-later x first xs has = (suc has.0, let within = has.1 in omega (arith, within), has.2)

-- what is left of a list stands in it and passes the test
pub filter-there : {X : Type 0} (test : X → Bool) (xs : List X) → All (λ x. Contains xs x × (test x ≡ true)) (filter test xs)
filter-there test [] = All-nil (λ x. Contains [] x × (test x ≡ true))
filter-there {X} test (first ∷ xs) =
    let There : X → Type 0 = λ x. Contains xs x × (test x ≡ true) in
    let Then : X → Type 0 = λ x. Contains (first ∷ xs) x × (test x ≡ true) in
    let rest : All Then (filter test xs) = All-weaker There Then (λ x there. (contains-later x first xs there.0, there.1)) (filter test xs) (filter-there test xs) in
    cond_both (test first) (first ∷ filter test xs) (filter test xs) (λ (left : List X). All Then left)
    (λ is. All-cons Then first (filter test xs) ((0, omega arith, refl), is) rest) (λ is. rest)

-- ---- all members, one by one

pub find-of : {X : Type 0} (P : X → Type 0) (test : X → Bool) (xs : List X) (x : X) → AllByRecursion P xs → find test xs ≡ Some x → P x
find-of P test [] x all is = absurd (none-some x is)
find-of P test (first ∷ xs) x all is =
    elim (cases_Bool (test first)) [
      | inl holds ↦ subst P (some-same first x (sym (cond-true (test first) (Some first) (find test xs) holds) ∙ is)) all.0
      | inr fails ↦ find-of P test xs x all.1 (sym (cond-false (test first) (Some first) (find test xs) fails) ∙ is)
    ]

pub rec-append : {X : Type 0} (P : X → Type 0) (xs ys : List X) → AllByRecursion P xs → AllByRecursion P ys → AllByRecursion P (xs ++ ys)
rec-append P [] ys h k = k
rec-append P (x ∷ xs) ys h k = (h.0, rec-append P xs ys h.1 k)

pub rec-filter : {X : Type 0} (P : X → Type 0) (test : X → Bool) (xs : List X) → AllByRecursion P xs → AllByRecursion P (filter test xs)
rec-filter P test [] h = tt
rec-filter {X} P test (x ∷ xs) h =
    let rest = rec-filter P test xs h.1 in
    cond_both (test x) (x ∷ filter test xs) (filter test xs) (λ (kept : List X). AllByRecursion P kept) (λ is. (h.0, rest)) (λ is. rest)

front-both : {X : Type 0} (P : X → Type 0) (xs ys : List X) → AllByRecursion P (xs ++ ys) → AllByRecursion P xs × AllByRecursion P ys
front-both P [] ys h = (tt, h)
front-both P (x ∷ xs) ys h = let rest = front-both P xs ys h.1 in ((h.0, rest.0), rest.1)

-- all members of lists that are put one after the other
pub all-split : {X : Type 0} (P : X → Type 0) (lists : List (List X)) → AllByRecursion P (flat_map (λ (group : List X). group) lists) → AllByRecursion (λ (group : List X). AllByRecursion P group) lists
all-split P [] h = tt
all-split {X} P (list ∷ lists) h =
    let both = front-both P list (flat_map (λ (group : List X). group) lists) h in
    (both.0, all-split P lists both.1)
