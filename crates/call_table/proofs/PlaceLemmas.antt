-- Places in ascending lists.
use Rattle.std.proofs.Common.{◌≡◌, ◌≢◌, ℕ, zero, suc, ◌<◌, ◌≤◌, Bool, true, false, ltb, eqb, Some, None, List, [], ◌∷◌, map, length, get_or, insert, ap, refl, inl, inr, arith}
use Rattle.std.specs.Prelude.{slice_get}
use Rattle.std.specs.List.{AllWithin, remove}
use Rattle.std.specs.List.Sorted.{IsNonDecreasingBy}
use Rattle.std.proofs.lemmas.Bool.{cases_lt, cases_eq, lt-ltb, le-ltb, eq-eqb, ne_eqb}
use Rattle.call_table.specs.declared.names.Named.{Named}
use Rattle.call_table.specs.Kept.{passes}
use Rattle.call_table.specs.Held.{IsAbove, Rises, place, with_member, found, without}

abbrev pub number_of : Named → ℕ
number_of one = one.number

-- ---- what rises

pub above_at : {X : Type 0} (key : X → ℕ) (floor : ℕ) (xs : List X) → IsAbove floor (map key xs) → (i : ℕ) (d : X) → i < length xs → floor < key (get_or xs i d)
above_at key floor [] h i d l = absurd (omega arith)
above_at key floor (x ∷ xs) h zero d l = h.0
above_at key floor (x ∷ xs) h (suc i) d l = above_at key floor xs h.1 i d (omega arith)

pub never_falls : {X : Type 0} (key : X → ℕ) (xs : List X) → Rises (map key xs) → IsNonDecreasingBy key xs
never_falls key [] h i j d le l = absurd (omega arith)
never_falls key (x ∷ xs) h zero zero d le l = omega arith
never_falls key (x ∷ xs) h zero (suc j) d le l = let a : key x < key (get_or xs j d) = above_at key (key x) xs h.0 j d (omega arith) in omega arith
never_falls key (x ∷ xs) h (suc i) zero d le l = absurd (omega arith)
never_falls key (x ∷ xs) h (suc i) (suc j) d le l = never_falls key xs h.1 i j d (omega arith) (omega arith)

pub map_same : (xs : List ℕ) → map (λ x. x) xs ≡ xs
map_same [] = refl
map_same (x ∷ xs) = ap (λ ys. x ∷ ys) (map_same xs)

-- ---- the place

-- where a search by halving ends is the place
pub place_from_partition : {X : Type 0} (key : X → ℕ) (number : ℕ) (xs : List X) (i : ℕ) → i ≤ length xs → AllWithin (λ x. ltb (key x) number ≡ true) xs 0 i → AllWithin (λ x. ltb (key x) number ≡ false) xs i (length xs) → i ≡ place number (map key xs)
place_from_partition key number [] i le below above = omega arith
place_from_partition key number (x ∷ xs) zero le below above = rw (above 0 x (omega arith) (omega arith)) refl
place_from_partition key number (x ∷ xs) (suc i) le below above =
    let here : ltb (key x) number ≡ true = below 0 x (omega arith) (omega arith) in
    let rest : i ≡ place number (map key xs) = place_from_partition key number xs i (omega arith) (λ k d lo hi. below (suc k) d (omega arith) (omega arith)) (λ k d lo hi. above (suc k) d (omega arith) (omega arith)) in
    rw here (omega arith)

pub place_later : (number x : ℕ) (xs : List ℕ) → x < number → place number (x ∷ xs) ≡ suc (place number xs)
place_later number x xs below = let e : ltb x number ≡ true = lt-ltb x number below in rw e (omega arith)

pub place_first : (number x : ℕ) (xs : List ℕ) → number ≤ x → place number (x ∷ xs) ≡ 0
place_first number x xs above = let e : ltb x number ≡ false = le-ltb x number above in rw e refl

-- ---- a member enters or leaves

-- it is there and stays
pub member_stays : (member : ℕ) (xs : List ℕ) (k : ℕ) → k ≡ place member xs → passes (λ one. eqb one member) (slice_get xs k) ≡ true → with_member member true xs ≡ xs
member_stays member [] k at there = cc
member_stays member (x ∷ xs) zero at there = elim (cases_lt x member) [
  | inl below ↦ absurd (omega (arith, place_later member x xs below))
  | inr above ↦ let e : ltb x member ≡ false = le-ltb x member above in let there' : eqb x member ≡ true = there in rw (e, there') refl
]
member_stays member (x ∷ xs) (suc k) at there = elim (cases_lt x member) [
  | inl below ↦ let e : ltb x member ≡ true = lt-ltb x member below in rw e (ap (λ ys. x ∷ ys) (member_stays member xs k (omega (arith, place_later member x xs below)) there))
  | inr above ↦ absurd (omega (arith, place_first member x xs above))
]

-- it is there and leaves
pub member_leaves : (member : ℕ) (xs : List ℕ) (k : ℕ) → k ≡ place member xs → passes (λ one. eqb one member) (slice_get xs k) ≡ true → with_member member false xs ≡ remove xs k
member_leaves member [] k at there = cc
member_leaves member (x ∷ xs) zero at there = elim (cases_lt x member) [
  | inl below ↦ absurd (omega (arith, place_later member x xs below))
  | inr above ↦ let e : ltb x member ≡ false = le-ltb x member above in let there' : eqb x member ≡ true = there in rw (e, there') refl
]
member_leaves member (x ∷ xs) (suc k) at there = elim (cases_lt x member) [
  | inl below ↦ let e : ltb x member ≡ true = lt-ltb x member below in rw e (ap (λ ys. x ∷ ys) (member_leaves member xs k (omega (arith, place_later member x xs below)) there))
  | inr above ↦ absurd (omega (arith, place_first member x xs above))
]

-- it isn't there and stays away
pub member_away : (member : ℕ) (xs : List ℕ) (k : ℕ) → k ≡ place member xs → passes (λ one. eqb one member) (slice_get xs k) ≡ false → with_member member false xs ≡ xs
member_away member [] k at there = refl
member_away member (x ∷ xs) zero at there = elim (cases_lt x member) [
  | inl below ↦ absurd (omega (arith, place_later member x xs below))
  | inr above ↦ let e : ltb x member ≡ false = le-ltb x member above in let there' : eqb x member ≡ false = there in rw (e, there') refl
]
member_away member (x ∷ xs) (suc k) at there = elim (cases_lt x member) [
  | inl below ↦ let e : ltb x member ≡ true = lt-ltb x member below in rw e (ap (λ ys. x ∷ ys) (member_away member xs k (omega (arith, place_later member x xs below)) there))
  | inr above ↦ absurd (omega (arith, place_first member x xs above))
]

-- it isn't there and enters
pub member_enters : (member : ℕ) (xs : List ℕ) (k : ℕ) → k ≡ place member xs → passes (λ one. eqb one member) (slice_get xs k) ≡ false → with_member member true xs ≡ insert xs k member
member_enters member [] k at there = rw at refl
member_enters member (x ∷ xs) zero at there = elim (cases_lt x member) [
  | inl below ↦ absurd (omega (arith, place_later member x xs below))
  | inr above ↦ let e : ltb x member ≡ false = le-ltb x member above in let there' : eqb x member ≡ false = there in rw (e, there') refl
]
member_enters member (x ∷ xs) (suc k) at there = elim (cases_lt x member) [
  | inl below ↦ let e : ltb x member ≡ true = lt-ltb x member below in rw e (ap (λ ys. x ∷ ys) (member_enters member xs k (omega (arith, place_later member x xs below)) there))
  | inr above ↦ absurd (omega (arith, place_first member x xs above))
]

-- ---- the name at a place

none_found_above : (number floor : ℕ) (names : List Named) → number ≤ floor → IsAbove floor (map number_of names) → found number names ≡ None
none_found_above number floor [] le h = refl
none_found_above number floor (one ∷ names) le h = let e : eqb one.number number ≡ false = ne_eqb one.number number (λ same. omega (arith, h.0)) in rw e (none_found_above number floor names le h.1)

pub none_found_past : (number : ℕ) (names : List Named) → length names ≤ place number (map number_of names) → found number names ≡ None
none_found_past number [] at = refl
none_found_past number (one ∷ names) at = elim (cases_lt one.number number) [
  | inl below ↦ let e : eqb one.number number ≡ false = ne_eqb one.number number (λ same. omega arith) in rw e (none_found_past number names (omega (arith, place_later number one.number (map number_of names) below)))
  | inr above ↦ absurd (omega (arith, place_first number one.number (map number_of names) above))
]

pub none_found_at : (number : ℕ) (names : List Named) (k : ℕ) (d : Named) → k ≡ place number (map number_of names) → k < length names → (get_or names k d).number ≢ number → Rises (map number_of names) → found number names ≡ None
none_found_at number [] k d at within other rises = absurd (omega arith)
none_found_at number (one ∷ names) zero d at within other rises = elim (cases_lt one.number number) [
  | inl below ↦ absurd (omega (arith, place_later number one.number (map number_of names) below))
  | inr above ↦ let e : eqb one.number number ≡ false = ne_eqb one.number number other in rw e (none_found_above number one.number names above rises.0)
]
none_found_at number (one ∷ names) (suc k) d at within other rises = elim (cases_lt one.number number) [
  | inl below ↦ let e : eqb one.number number ≡ false = ne_eqb one.number number (λ same. omega arith) in rw e (none_found_at number names k d (omega (arith, place_later number one.number (map number_of names) below)) (omega arith) other rises.1)
  | inr above ↦ absurd (omega (arith, place_first number one.number (map number_of names) above))
]

pub found_at : (number : ℕ) (names : List Named) (k : ℕ) (d : Named) → k ≡ place number (map number_of names) → k < length names → (get_or names k d).number ≡ number → found number names ≡ Some (get_or names k d).place
found_at number [] k d at within same = absurd (omega arith)
found_at number (one ∷ names) zero d at within same = let e : eqb one.number number ≡ true = eq-eqb one.number number same in rw e refl
found_at number (one ∷ names) (suc k) d at within same = elim (cases_lt one.number number) [
  | inl below ↦ let e : eqb one.number number ≡ false = ne_eqb one.number number (λ same. omega arith) in rw e (found_at number names k d (omega (arith, place_later number one.number (map number_of names) below)) (omega arith) same)
  | inr above ↦ absurd (omega (arith, place_first number one.number (map number_of names) above))
]

-- ---- a name is taken out

pub without_at : (number : ℕ) (names : List Named) (k : ℕ) (d : Named) → k ≡ place number (map number_of names) → k < length names → (get_or names k d).number ≡ number → remove names k ≡ without number names
without_at number [] k d at within same = absurd (omega arith)
without_at number (one ∷ names) zero d at within same = let e : eqb one.number number ≡ true = eq-eqb one.number number same in rw e refl
without_at number (one ∷ names) (suc k) d at within same = elim (cases_lt one.number number) [
  | inl below ↦ let e : eqb one.number number ≡ false = ne_eqb one.number number (λ same. omega arith) in rw e (ap (λ ns. one ∷ ns) (without_at number names k d (omega (arith, place_later number one.number (map number_of names) below)) (omega arith) same))
  | inr above ↦ absurd (omega (arith, place_first number one.number (map number_of names) above))
]

-- where it isn't found, nothing is taken out
pub without_none : (number : ℕ) (names : List Named) → found number names ≡ None → without number names ≡ names
without_none number [] absent = refl
without_none number (one ∷ names) absent = elim (cases_eq one.number number) [
  | inl same ↦ let e : eqb one.number number ≡ true = eq-eqb one.number number same in let here : Some one.place ≡ None = rw e at absent in cc
  | inr other ↦ let e : eqb one.number number ≡ false = ne_eqb one.number number other in let rest : found number names ≡ None = rw e at absent in rw e (ap (λ ns. one ∷ ns) (without_none number names rest))
]

-- what passes at a place stands within
pub passes_within : {X : Type 0} (f : X → Bool) (k : ℕ) (xs : List X) → passes f (slice_get xs k) ≡ true → k < length xs
passes_within f k [] h = cc
passes_within f zero (x ∷ xs) h = omega arith
passes_within f (suc k) (x ∷ xs) h = omega (arith, passes_within f k xs h)
