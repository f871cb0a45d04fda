-- Lists of which all members are such.
use Rattle.std.proofs.Common.{◌≡◌, ◌∙◌, Bool, true, Option, Some, None, List, [], ◌∷◌, ◌++◌, ap, sym, subst, inl, inr}
use Rattle.std.specs.Prelude.{map}
use Rattle.std.specs.List.{AllByRecursion, filter, find, flat_map}
use Rattle.std.proofs.lemmas.Bool.{cases_Bool, cond-true, cond-false, cond_both}

or_else : {X : Type 0} → X → Option X → X
or_else x None = x
or_else x (Some y) = y

pub some-same : {X : Type 0} (one other : X) → Some one ≡ Some other → one ≡ other
unfolding or_else
some-same one other is = ap (or_else one) is

pub none-some : {X : Type 0} (x : X) → None ≡ Some x → ⊥
none-some {X} x same =
    let P : Option X → Type 0 = λ o. elim o [ Some z ↦ ⊥ | None ↦ Unit {0} ] in
    subst P same tt

pub weaker : {X : Type 0} (P Q : X → Type 0) (xs : List X) → ((x : X) → P x → Q x) → AllByRecursion P xs → AllByRecursion Q xs
weaker P Q [] so h = tt
weaker P Q (x ∷ xs) so h = (so x h.0, weaker P Q xs so h.1)

pub all-append : {X : Type 0} (P : X → Type 0) (xs ys : List X) → AllByRecursion P xs → AllByRecursion P ys → AllByRecursion P (xs ++ ys)
all-append P [] ys h k = k
all-append P (x ∷ xs) ys h k = (h.0, all-append P xs ys h.1 k)

pub all-front : {X : Type 0} (P : X → Type 0) (xs ys : List X) → AllByRecursion P (xs ++ ys) → AllByRecursion P xs × AllByRecursion P ys
all-front P [] ys h = (tt, h)
all-front P (x ∷ xs) ys h = let rest = all-front P xs ys h.1 in ((h.0, rest.0), rest.1)

pub all-push : {X : Type 0} (P : X → Type 0) (xs : List X) (x : X) → AllByRecursion P xs → P x → AllByRecursion P (xs ++ x ∷ [])
all-push P xs x h p = all-append P xs (x ∷ []) h (p, tt)

pub all-map : {X Y : Type 0} (P : X → Type 0) (Q : Y → Type 0) (change : X → Y) (xs : List X) → ((x : X) → P x → Q (change x)) → AllByRecursion P xs → AllByRecursion Q (map change xs)
all-map P Q change [] so h = tt
all-map P Q change (x ∷ xs) so h = (so x h.0, all-map P Q change xs so h.1)

pub all-filter : {X : Type 0} (P : X → Type 0) (test : X → Bool) (xs : List X) → AllByRecursion P xs → AllByRecursion P (filter test xs)
all-filter P test [] h = tt
all-filter {X} P test (x ∷ xs) h =
    let rest = all-filter P test xs h.1 in
    cond_both (test x) (x ∷ filter test xs) (filter test xs) (λ (kept : List X). AllByRecursion P kept) (λ is. (h.0, rest)) (λ is. rest)

-- those that pass a test do so
pub filter-tested : {X : Type 0} (P : X → Type 0) (test : X → Bool) (xs : List X) → AllByRecursion P xs → AllByRecursion (λ x. P x × (test x ≡ true)) (filter test xs)
filter-tested P test [] h = tt
filter-tested {X} P test (x ∷ xs) h =
    let Q : X → Type 0 = λ x. P x × (test x ≡ true) in
    let rest = filter-tested P test xs h.1 in
    cond_both (test x) (x ∷ filter test xs) (filter test xs) (λ (kept : List X). AllByRecursion Q kept) (λ is. ((h.0, is), rest)) (λ is. rest)

-- what is found is one of them, and passes the test
pub find-all : {X : Type 0} (P : X → Type 0) (test : X → Bool) (xs : List X) (x : X) → AllByRecursion P xs → find test xs ≡ Some x → P x × (test x ≡ true)
find-all P test [] x h is = absurd (none-some x is)
find-all {X} P test (first ∷ xs) x h is =
    elim (cases_Bool (test first)) [
      | inl holds ↦
          let same = some-same first x (sym (cond-true (test first) (Some first) (find test xs) holds) ∙ is) in
          let T : X → Type 0 = λ x. P x × (test x ≡ true) in
          subst T same (h.0, holds)
      | inr fails ↦ find-all P test xs x h.1 (sym (cond-false (test first) (Some first) (find test xs) fails) ∙ is)
    ]

-- all members of lists that are put one after the other
pub all-split : {X : Type 0} (P : X → Type 0) (lists : List (List X)) → AllByRecursion P (flat_map (λ (group : List X). group) lists) → AllByRecursion (λ (group : List X). AllByRecursion P group) lists
all-split P [] h = tt
all-split {X} P (list ∷ lists) h =
    let both = all-front P list (flat_map (λ (group : List X). group) lists) h in
    (both.0, all-split P lists both.1)

pub both-all : {X : Type 0} (P Q : X → Type 0) (xs : List X) → AllByRecursion P xs → AllByRecursion Q xs → AllByRecursion (λ x. P x × Q x) xs
both-all P Q [] h k = tt
both-all P Q (x ∷ xs) h k = ((h.0, k.0), both-all P Q xs h.1 k.1)
