-- Members of lists: all are so, some are.
use Rattle.std.proofs.Common.{◌≡◌, ◌∙◌, ◌==◌, zero, suc, ℕ, ◌<◌, Bool, true, false, Some, None, List, [], ◌∷◌, ◌++◌, length, length-append, map, filter, inl, inr, refl, sym, ap, subst, arith}
use Rattle.std.specs.Prelude.{◌⊎◌}
use Rattle.std.specs.List.{AllByRecursion, Contains, find, list_any}
use Rattle.std.proofs.lemmas.Bool.{cases_Bool, cond-true, cond-false, eqb-true}
use Rattle.law_order.specs.After.{is_among}

pub none-some : {X : Type 0} (x : X) → None ≡ Some x → ⊥
none-some x is = cc

pub some-same : {X : Type 0} (x y : X) → Some x ≡ Some y → x ≡ y
some-same x y is = cc

pub true-false : true ≡ false → ⊥
true-false is = cc

pub here : {X : Type 0} (x : X) (xs : List X) → Contains (x ∷ xs) x
here x xs = (0, omega arith, refl)

pub later : {X : Type 0} (x y : X) (xs : List X) → Contains xs x → Contains (y ∷ xs) x
later x y xs h = let below : h.0 < length xs = h.1 in (suc h.0, omega arith, h.2)

-- a member is the first one, or one of the others
pub first_or : {X : Type 0} (x y : X) (xs : List X) → Contains (y ∷ xs) x → (y ≡ x) ⊎ Contains xs x
first_or x y xs (zero, below, is) = inl is
first_or x y xs (suc k, below, is) = inr (k, omega (arith, below), is)

pub nobody : {X : Type 0} (x : X) → Contains [] x → ⊥
nobody x among = let below : among.0 < 0 = among.1 in omega (arith, below)

pub each_of : {X : Type 0} (P : X → Type 0) (xs : List X) → AllByRecursion P xs → (x : X) → Contains xs x → P x
each_of P [] h x among = absurd (nobody x among)
each_of P (y ∷ xs) h x among =
    elim (first_or x y xs among) [
      | inl is ↦ subst P is h.0
      | inr other ↦ each_of P xs h.1 x other
    ]

-- ---- all

-- all members are so
pub all-members : {X : Type 0} (P : X → Type 0) (xs : List X) → ((x : X) → Contains xs x → P x) → AllByRecursion P xs
all-members P [] so = tt
all-members P (x ∷ xs) so = (so x (here x xs), all-members P xs (λ y among. so y (later y x xs among)))

pub all-weaker : {X : Type 0} (P Q : X → Type 0) (xs : List X) → ((x : X) → P x → Q x) → AllByRecursion P xs → AllByRecursion Q xs
all-weaker P Q [] so all = tt
all-weaker P Q (x ∷ xs) so all = (so x all.0, all-weaker P Q xs so all.1)

pub all-append : {X : Type 0} (P : X → Type 0) (xs ys : List X) → AllByRecursion P xs → AllByRecursion P ys → AllByRecursion P (xs ++ ys)
all-append P [] ys all more = more
all-append P (x ∷ xs) ys all more = (all.0, all-append P xs ys all.1 more)

pub all-front : {X : Type 0} (P : X → Type 0) (xs ys : List X) → AllByRecursion P (xs ++ ys) → AllByRecursion P xs
all-front P [] ys all = tt
all-front P (x ∷ xs) ys all = (all.0, all-front P xs ys all.1)

pub all-map : {X Y : Type 0} (P : X → Type 0) (Q : Y → Type 0) (f : X → Y) (xs : List X) → ((x : X) → P x → Q (f x)) → AllByRecursion P xs → AllByRecursion Q (map f xs)
all-map P Q f [] so all = tt
all-map P Q f (x ∷ xs) so all = (so x all.0, all-map P Q f xs so all.1)

pub all-made : {X Y : Type 0} (P : Y → Type 0) (f : X → Y) (xs : List X) → ((x : X) → P (f x)) → AllByRecursion P (map f xs)
all-made P f [] so = tt
all-made P f (x ∷ xs) so = (so x, all-made P f xs so)

pub all-filter : {X : Type 0} (P : X → Type 0) (test : X → Bool) (xs : List X) → AllByRecursion P xs → AllByRecursion P (filter test xs)
all-filter P test [] all = tt
all-filter P test (x ∷ xs) all =
    let rest = all-filter P test xs all.1 in
    elim (cases_Bool (test x)) [
      | inl is ↦ rw is (all.0, rest)
      | inr fails ↦ rw fails rest
    ]

-- what is found is so
pub all-found : {X : Type 0} (P : X → Type 0) (test : X → Bool) (xs : List X) (x : X) → find test xs ≡ Some x → AllByRecursion P xs → P x × (test x ≡ true)
all-found P test [] x is all = absurd (none-some x is)
all-found P test (y ∷ xs) x is all =
    elim (cases_Bool (test y)) [
      | inl holds ↦
          let same : y ≡ x = some-same y x (sym (cond-true (test y) (Some y) (find test xs) holds) ∙ is) in
          (subst P same all.0, ap test (sym same) ∙ holds)
      | inr fails ↦ all-found P test xs x (sym (cond-false (test y) (Some y) (find test xs) fails) ∙ is) all.1
    ]

-- ---- some

pub any-there : {X : Type 0} (test : X → Bool) (xs : List X) (x : X) → Contains xs x → test x ≡ true → list_any test xs ≡ true
any-there test [] x among is = absurd (nobody x among)
any-there test (y ∷ xs) x among is =
    elim (cases_Bool (test y)) [
      | inl holds ↦ rw holds refl
      | inr fails ↦
          elim (first_or x y xs among) [
            | inl same ↦ absurd (true-false (sym is ∙ (ap test (sym same) ∙ fails)))
            | inr other ↦ rw fails (any-there test xs x other is)
          ]
    ]

pub any-found : {X : Type 0} (test : X → Bool) (xs : List X) → list_any test xs ≡ true → (x : X) × Contains xs x × (test x ≡ true)
any-found test [] is = absurd (true-false (sym is))
any-found test (y ∷ xs) is =
    elim (cases_Bool (test y)) [
      | inl holds ↦ (y, here y xs, holds)
      | inr fails ↦
          let rest = any-found test xs (rw fails at is) in
          (rest.0, later rest.0 y xs rest.1, rest.2)
    ]

pub some-append : {X : Type 0} (test : X → Bool) (xs ys : List X) → list_any test xs ≡ true → list_any test (xs ++ ys) ≡ true
some-append test [] ys is = absurd (true-false (sym is))
some-append test (x ∷ xs) ys is =
    elim (cases_Bool (test x)) [
      | inl holds ↦ rw holds refl
      | inr fails ↦ rw fails (some-append test xs ys (rw fails at is))
    ]

pub some-last : {X : Type 0} (test : X → Bool) (xs : List X) (x : X) → test x ≡ true → list_any test (xs ++ x ∷ []) ≡ true
some-last test [] x is = rw is refl
some-last test (y ∷ xs) x is =
    elim (cases_Bool (test y)) [
      | inl holds ↦ rw holds refl
      | inr fails ↦ rw fails (some-last test xs x is)
    ]

-- a number that passes stays where others are taken out
pub among-filter : (test : ℕ → Bool) (number : ℕ) (numbers : List ℕ) → test number ≡ true → is_among number numbers ≡ true → is_among number (filter test numbers) ≡ true
among-filter test number [] passes is = is
among-filter test number (first ∷ numbers) passes is =
    elim (cases_Bool (first == number)) [
      | inl same ↦
          let kept : test first ≡ true = ap test (eqb-true first number same) ∙ passes in
          rw kept (rw same refl)
      | inr other ↦
          let rest = among-filter test number numbers passes (rw other at is) in
          elim (cases_Bool (test first)) [
            | inl kept ↦ rw kept (rw other rest)
            | inr out ↦ rw out rest
          ]
    ]

-- ---- the last one

-- of a list with one more, a member is that one, or stands where it stood
pub split-last : {X : Type 0} (xs before behind : List X) (last x : X) → xs ++ last ∷ [] ≡ before ++ x ∷ behind
    → ((before ≡ xs) × (x ≡ last)) ⊎ ((rest : List X) × (xs ≡ before ++ x ∷ rest))
split-last [] [] behind last x is = inl (refl, cc)
split-last {X} [] (first ∷ before) behind last x is =
    let count : length (last ∷ []) ≡ length (first ∷ (before ++ x ∷ behind)) = ap length is in
    let more = length-append before (x ∷ behind) in absurd (omega arith)
split-last (y ∷ xs) [] behind last x is = inr (xs, cc)
split-last (y ∷ xs) (first ∷ before) behind last x is =
    let head : y ≡ first = cc in
    let tail : xs ++ last ∷ [] ≡ before ++ x ∷ behind = cc in
    elim (split-last xs before behind last x tail) [
      | inl ends ↦ inl (let here = ends.0 in cc, ends.1)
      | inr inside ↦ let there = inside.1 in inr (inside.0, cc)
    ]

-- ---- images

pub map-append : {X Y : Type 0} (f : X → Y) (xs ys : List X) → map f (xs ++ ys) ≡ map f xs ++ map f ys
map-append f [] ys = refl
map-append f (x ∷ xs) ys = ap (λ (rest : List _). f x ∷ rest) (map-append f xs ys)

pub map-back : {X Y : Type 0} (f : X → Y) (g : Y → X) (ys : List Y) → ((y : Y) → f (g y) ≡ y) → map f (map g ys) ≡ ys
map-back f g [] same = refl
map-back f g (y ∷ ys) same = ap (λ (first : _). first ∷ map f (map g ys)) (same y) ∙ ap (λ (rest : List _). y ∷ rest) (map-back f g ys same)
