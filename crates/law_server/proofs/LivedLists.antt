-- Pairs of a list, and counts over numbers that are all different.
use Rattle.std.proofs.Common.{◌≡◌, ◌≢◌, ℕ, zero, suc, ◌≤◌, ◌<◌, Bool, true, false, List, [], ◌∷◌, length, get_or, ap, sym, refl, arith, inl, inr}
use Rattle.std.specs.Prelude.{map, ◌==◌}
use Rattle.std.specs.List.{All, AllPairs, Contains}
use Rattle.std.proofs.lemmas.Bool.{cases_Bool, ne_eqb}
use Rattle.std.proofs.lemmas.List.Elements.{All-nil, All-cons, All-head, All-tail}
use Rattle.waits.specs.Jobs.{one_if}
use Rattle.law_server.proofs.Counting.{count}

pub pairs-head : {X : Type 0} (R : X → X → Type 0) (x : X) (xs : List X) → AllPairs R (x ∷ xs) → All (R x) xs
pairs-head R x xs all = λ k d within. all 0 (suc k) d (omega arith) (omega arith)

pub pairs-tail : {X : Type 0} (R : X → X → Type 0) (x : X) (xs : List X) → AllPairs R (x ∷ xs) → AllPairs R xs
pairs-tail R x xs all = λ i j d lt within. all (suc i) (suc j) d (omega arith) (omega arith)

pub pairs-nil : {X : Type 0} (R : X → X → Type 0) → AllPairs R []
pairs-nil R = λ i j d lt within. absurd (omega arith)

pairs-at : {X : Type 0} (R : X → X → Type 0) (x : X) (xs : List X) → All (R x) xs → AllPairs R xs
    → (i j : ℕ) (d : X) → i < j → j < length (x ∷ xs) → R (get_or (x ∷ xs) i d) (get_or (x ∷ xs) j d)
pairs-at R x xs first rest zero zero d lt within = absurd (omega arith)
pairs-at R x xs first rest (suc i) zero d lt within = absurd (omega arith)
pairs-at R x xs first rest zero (suc j) d lt within = first j d (omega arith)
pairs-at R x xs first rest (suc i) (suc j) d lt within = rest i j d (omega arith) (omega arith)

pub pairs-cons : {X : Type 0} (R : X → X → Type 0) (x : X) (xs : List X) → All (R x) xs → AllPairs R xs → AllPairs R (x ∷ xs)
pairs-cons R x xs first rest = pairs-at R x xs first rest

pub all-unmap : {X Y : Type 0} (P : Y → Type 0) (f : X → Y) (xs : List X) → All P (map f xs) → All (λ x. P (f x)) xs
all-unmap P f [] all = All-nil (λ x. P (f x))
all-unmap P f (x ∷ xs) all =
    All-cons (λ x. P (f x)) x xs (All-head P (f x) (map f xs) all) (all-unmap P f xs (All-tail P (f x) (map f xs) all))

-- ---- counts

-- what is counted has one that passes
pub count-some : {X : Type 0} (test : X → Bool) (xs : List X) → 1 ≤ count test xs → (x : X) × Contains xs x × (test x ≡ true)
count-some test [] one = absurd (omega arith)
count-some {X} test (x ∷ xs) one =
    elim (cases_Bool (test x)) [
      | inl is ↦ (x, (0, omega arith, refl), is)
      | inr fails ↦
          let off : one_if (test x) ≡ 0 = ap one_if fails in
          let rest = count-some test xs (omega arith) in
          let has = rest.1 in
          (rest.0, (suc has.0, let within = has.1 in omega arith, has.2), rest.2)
    ]

-- one that passes is counted
pub count-at : {X : Type 0} (test : X → Bool) (xs : List X) (k : ℕ) (d : X) → k < length xs → test (get_or xs k d) ≡ true → 1 ≤ count test xs
count-at test [] k d within is = absurd (omega arith)
count-at test (x ∷ xs) zero d within is = let first : one_if (test x) ≡ 1 = ap one_if is in omega arith
count-at test (x ∷ xs) (suc k) d within is = let rest = count-at test xs k d (omega arith) is in omega arith

-- ---- numbers that are all different

abbrev pub Differ : List ℕ → Type 0
Differ numbers = AllPairs (λ one other. one ≢ other) numbers

pub counted-none : (number : ℕ) (numbers : List ℕ) → All (λ other. number ≢ other) numbers → count (λ other. other == number) numbers ≡ 0
counted-none number [] all = refl
counted-none number (first ∷ numbers) all =
    let P : ℕ → Type 0 = λ other. number ≢ other in
    let rest = counted-none number numbers (All-tail P first numbers all) in
    let off : (first == number) ≡ false = ne_eqb first number (λ same. All-head P first numbers all (sym same)) in
    let none : one_if (first == number) ≡ 0 = ap one_if off in omega arith
