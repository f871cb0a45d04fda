-- Lists: what holds of all elements and of all pairs.
use Rattle.std.proofs.Common.{◌≡◌, ℕ, zero, suc, ◌<◌, List, [], ◌∷◌, ◌++◌, length, get_or, subst, arith}
use Rattle.std.specs.List.{All, AllPairs}
use Rattle.std.specs.Prelude.{map}
use Rattle.std.proofs.lemmas.List.Elements.{All-nil, All-cons, All-head, All-tail, All-map, All-append, All-weaker}

pairs-at : {X : Type 0} (R : X → X → Type 0) (x : X) (xs : List X) → All (R x) xs → AllPairs R xs
    → (i j : ℕ) (d : X) → i < j → j < length (x ∷ xs) → R (get_or (x ∷ xs) i d) (get_or (x ∷ xs) j d)
pairs-at R x xs first rest zero zero d lt within = absurd (omega arith)
pairs-at R x xs first rest (suc i) zero d lt within = absurd (omega arith)
pairs-at R x xs first rest zero (suc j) d lt within = first j d (omega arith)
pairs-at R x xs first rest (suc i) (suc j) d lt within = rest i j d (omega arith) (omega arith)

pub pairs-cons : {X : Type 0} (R : X → X → Type 0) (x : X) (xs : List X) → All (R x) xs → AllPairs R xs → AllPairs R (x ∷ xs)
pairs-cons R x xs first rest = pairs-at R x xs first rest

pub pairs-head : {X : Type 0} (R : X → X → Type 0) (x : X) (xs : List X) → AllPairs R (x ∷ xs) → All (R x) xs
pairs-head R x xs all = λ k d within. all 0 (suc k) d (omega arith) (omega arith)

pub pairs-tail : {X : Type 0} (R : X → X → Type 0) (x : X) (xs : List X) → AllPairs R (x ∷ xs) → AllPairs R xs
pairs-tail R x xs all = λ i j d lt within. all (suc i) (suc j) d (omega arith) (omega arith)

pub pairs-nil : {X : Type 0} (R : X → X → Type 0) → AllPairs R []
pairs-nil R = λ i j d lt within. absurd (omega arith)

pub all-unmap : {X Y : Type 0} (P : Y → Type 0) (f : X → Y) (xs : List X) → All P (map f xs) → All (λ x. P (f x)) xs
all-unmap P f [] all = All-nil (λ x. P (f x))
all-unmap P f (x ∷ xs) all =
    All-cons (λ x. P (f x)) x xs (All-head P (f x) (map f xs) all) (all-unmap P f xs (All-tail P (f x) (map f xs) all))

pub pairs-map : {X Y : Type 0} (R : Y → Y → Type 0) (f : X → Y) (xs : List X) → AllPairs (λ x y. R (f x) (f y)) xs → AllPairs R (map f xs)
pairs-map R f [] all = pairs-nil R
pairs-map {X} R f (x ∷ xs) all =
    let S : X → X → Type 0 = λ x y. R (f x) (f y) in
    pairs-cons R (f x) (map f xs) (All-map (R (f x)) f xs (pairs-head S x xs all)) (pairs-map R f xs (pairs-tail S x xs all))

pub pairs-unmap : {X Y : Type 0} (R : Y → Y → Type 0) (f : X → Y) (xs : List X) → AllPairs R (map f xs) → AllPairs (λ x y. R (f x) (f y)) xs
pairs-unmap {X} R f [] all = pairs-nil (λ (x y : X). R (f x) (f y))
pairs-unmap {X} R f (x ∷ xs) all =
    let S : X → X → Type 0 = λ x y. R (f x) (f y) in
    pairs-cons S x xs (all-unmap (R (f x)) f xs (pairs-head R (f x) (map f xs) all)) (pairs-unmap R f xs (pairs-tail R (f x) (map f xs) all))

-- what holds of what a map gives holds of every list of which it gives the same

pub all-same : {X Y : Type 0} (P : Y → Type 0) (f : X → Y) (xs ys : List X) → map f xs ≡ map f ys → All (λ x. P (f x)) xs → All (λ x. P (f x)) ys
all-same {Y = Y} P f xs ys same all =
    let Q : List Y → Type 0 = All P in
    all-unmap P f ys (subst Q same (All-map P f xs all))

pub pairs-same : {X Y : Type 0} (R : Y → Y → Type 0) (f : X → Y) (xs ys : List X) → map f xs ≡ map f ys
    → AllPairs (λ x y. R (f x) (f y)) xs → AllPairs (λ x y. R (f x) (f y)) ys
pairs-same {Y = Y} R f xs ys same all =
    let Q : List Y → Type 0 = AllPairs R in
    pairs-unmap R f ys (subst Q same (pairs-map R f xs all))

-- ---- parts

pub all-left : {X : Type 0} (P : X → Type 0) (xs ys : List X) → All P (xs ++ ys) → All P xs
all-left P [] ys all = All-nil P
all-left P (x ∷ xs) ys all = All-cons P x xs (All-head P x (xs ++ ys) all) (all-left P xs ys (All-tail P x (xs ++ ys) all))

pub all-right : {X : Type 0} (P : X → Type 0) (xs ys : List X) → All P (xs ++ ys) → All P ys
all-right P [] ys all = all
all-right P (x ∷ xs) ys all = all-right P xs ys (All-tail P x (xs ++ ys) all)

-- one taken out of the middle
pub all-out : {X : Type 0} (P : X → Type 0) (xs : List X) (x : X) (ys : List X) → All P (xs ++ x ∷ ys) → All P (xs ++ ys)
all-out P xs x ys all =
    All-append P xs ys (all-left P xs (x ∷ ys) all) (All-tail P x ys (all-right P xs (x ∷ ys) all))

pub all-middle : {X : Type 0} (P : X → Type 0) (xs : List X) (x : X) (ys : List X) → All P (xs ++ x ∷ ys) → P x
all-middle P xs x ys all = All-head P x ys (all-right P xs (x ∷ ys) all)

pub pairs-out : {X : Type 0} (R : X → X → Type 0) (xs : List X) (x : X) (ys : List X) → AllPairs R (xs ++ x ∷ ys) → AllPairs R (xs ++ ys)
pairs-out R [] x ys all = pairs-tail R x ys all
pairs-out R (first ∷ xs) x ys all =
    pairs-cons R first (xs ++ ys) (all-out (R first) xs x ys (pairs-head R first (xs ++ x ∷ ys) all))
    (pairs-out R xs x ys (pairs-tail R first (xs ++ x ∷ ys) all))

-- the others differ from one in the middle, where all differ
pub pairs-middle : {X : Type 0} (R : X → X → Type 0) (back : (x y : X) → R x y → R y x) (xs : List X) (x : X) (ys : List X)
    → AllPairs R (xs ++ x ∷ ys) → All (λ y. R y x) (xs ++ ys)
pairs-middle R back [] x ys all = All-weaker (R x) (λ y. R y x) (back x) ys (pairs-head R x ys all)
pairs-middle R back (first ∷ xs) x ys all =
    All-cons (λ y. R y x) first (xs ++ ys) (all-middle (R first) xs x ys (pairs-head R first (xs ++ x ∷ ys) all))
    (pairs-middle R back xs x ys (pairs-tail R first (xs ++ x ∷ ys) all))
