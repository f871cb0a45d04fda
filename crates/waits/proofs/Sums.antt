-- Sums over lists.
use Rattle.std.proofs.Common.{◌≡◌, ℕ, ◌+◌, ◌≤◌, Bool, true, false, cond, if◌then◌else◌, List, [], ◌∷◌, ◌++◌, length, map, refl, arith}
use Rattle.std.specs.List.{filter}
use Rattle.waits.specs.Jobs.{one_if}
use Rattle.waits.specs.Stamps.{weigh, tally}

pub weigh_append : {X : Type 0} (m : X → ℕ) (xs ys : List X) → weigh m (xs ++ ys) ≡ weigh m xs + weigh m ys
weigh_append m [] ys = omega arith
weigh_append m (x ∷ xs) ys = let rest = weigh_append m xs ys in omega arith

pub weigh_le : {X : Type 0} (m n : X → ℕ) → ((x : X) → m x ≤ n x) → (xs : List X) → weigh m xs ≤ weigh n xs
weigh_le m n less [] = omega arith
weigh_le m n less (x ∷ xs) = let here = less x in let rest = weigh_le m n less xs in omega arith

pub weigh_sum : {X : Type 0} (m n k : X → ℕ) → ((x : X) → m x ≡ n x + k x) → (xs : List X) → weigh m xs ≡ weigh n xs + weigh k xs
weigh_sum m n k same [] = refl
weigh_sum m n k same (x ∷ xs) = let here = same x in let rest = weigh_sum m n k same xs in omega arith

pub weigh_same : {X : Type 0} (m n : X → ℕ) → ((x : X) → m x ≡ n x) → (xs : List X) → weigh m xs ≡ weigh n xs
weigh_same m n same [] = refl
weigh_same m n same (x ∷ xs) = let here = same x in let rest = weigh_same m n same xs in omega arith

pub weigh_map : {X Y : Type 0} (m : Y → ℕ) (f : X → Y) (xs : List X) → weigh m (map f xs) ≡ weigh (λ x. m (f x)) xs
weigh_map m f [] = refl
weigh_map m f (x ∷ xs) = let rest = weigh_map m f xs in omega arith

-- one element among others
pub weigh_with : {X : Type 0} (m : X → ℕ) (x : X) (front back : List X) → weigh m (front ++ x ∷ back) ≡ m x + weigh m (front ++ back)
weigh_with m x front back = omega (arith, weigh_append m front (x ∷ back), weigh_append m front back)

-- ---- how many pass a test

pub one_if_le : (a b : Bool) → (a ≡ true → b ≡ true) → one_if a ≤ one_if b
one_if_le true b leads = let held = leads refl in rw held (omega arith)
one_if_le false b leads = omega arith

pub one_if_true : (a : Bool) → one_if a ≡ 0 → a ≡ false
one_if_true true none = absurd (omega arith)
one_if_true false none = refl

pub at_most_one : (a : Bool) → one_if a ≤ 1
at_most_one true = omega arith
at_most_one false = omega arith

pub tally_le : {X : Type 0} (test : X → Bool) (xs : List X) → tally test xs ≤ length xs
tally_le test [] = omega arith
tally_le test (x ∷ xs) = let here = at_most_one (test x) in let rest = tally_le test xs in omega arith

pub tally_less : {X : Type 0} (p q : X → Bool) → ((x : X) → p x ≡ true → q x ≡ true) → (xs : List X) → tally p xs ≤ tally q xs
tally_less p q leads xs = weigh_le (λ x. one_if (p x)) (λ x. one_if (q x)) (λ x. one_if_le (p x) (q x) (leads x)) xs

weigh_cond : {X : Type 0} (m : X → ℕ) (keeps : Bool) (x : X) (ys : List X) → weigh m (cond keeps (x ∷ ys) ys) ≡ (if keeps then m x else 0) + weigh m ys
weigh_cond m true x ys = refl
weigh_cond m false x ys = omega arith

pub weigh_filter : {X : Type 0} (m : X → ℕ) (test : X → Bool) (xs : List X) → weigh m (filter test xs) ≡ weigh (λ x. if test x then m x else 0) xs
weigh_filter m test [] = refl
weigh_filter m test (x ∷ xs) = let here = weigh_cond m (test x) x (filter test xs) in let rest = weigh_filter m test xs in omega arith

pub part_le : (a : Bool) (n : ℕ) → (if a then n else 0) ≤ n
part_le true n = omega arith
part_le false n = omega arith
