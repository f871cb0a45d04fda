-- Places in ascending lists.
use Rattle.std.proofs.Common.{◌≡◌, ◌≢◌, ℕ, zero, suc, ◌+◌, ◌<◌, ◌≤◌, ◌++◌, true, false, ltb, eqb, Option, Some, None, List, [], ◌∷◌, map, length, get_or, set, insert, ap, refl, inl, inr, arith, add-one}
use Rattle.std.specs.List.{AllWithin}
use Rattle.std.specs.List.Sorted.{IsNonDecreasingBy}
use Rattle.std.proofs.lemmas.Bool.{cases_lt, cases_eq, lt-ltb, le-ltb, eq-eqb, ne_eqb}
use Rattle.id_window.specs.declared.mark.Mark.{Mark}
use Rattle.id_window.specs.declared.rows.Row.{Row}
use Rattle.id_window.specs.declared.rows.Accepted.{Accepted}
use Rattle.id_window.specs.History.{inserted}
use Rattle.id_window.specs.Window.{IsAbove, Rises, mark_in, with_mark}
use Rattle.id_window.specs.Places.{place, last_below, first_above}

-- the numbers of two orders
abbrev pub row_number : Row → ℕ
row_number row = row.number

abbrev pub accepted_key : Accepted → ℕ
accepted_key one = one.number

-- ---- what rises

pub above_at : {X : Type 0} (key : X → ℕ) (floor : ℕ) (xs : List X) → IsAbove floor (map key xs) → (i : ℕ) (d : X) → i < length xs → floor < key (get_or xs i d)
above_at key floor [] h i d l = absurd (omega arith)
above_at key floor (x ∷ xs) h zero d l = h.0
above_at key floor (x ∷ xs) h (suc i) d l = above_at key floor xs h.1 i d (omega arith)

-- what is above a number is above a lower one
pub above_lower : (low high : ℕ) (numbers : List ℕ) → low ≤ high → IsAbove high numbers → IsAbove low numbers
above_lower low high [] le h = tt
above_lower low high (n ∷ ns) le h = (omega (arith, h.0), above_lower low high ns le h.1)

-- what rises by its keys doesn't fall by them
pub never_falls : {X : Type 0} (key : X → ℕ) (xs : List X) → Rises (map key xs) → IsNonDecreasingBy key xs
never_falls key [] h i j d le l = absurd (omega arith)
never_falls key (x ∷ xs) h zero zero d le l = omega arith
never_falls key (x ∷ xs) h zero (suc j) d le l = let a : key x < key (get_or xs j d) = above_at key (key x) xs h.0 j d (omega arith) in omega arith
never_falls key (x ∷ xs) h (suc i) zero d le l = absurd (omega arith)
never_falls key (x ∷ xs) h (suc i) (suc j) d le l = never_falls key xs h.1 i j d (omega arith) (omega arith)

-- ---- the place

-- where a search by halving ends is the place
pub place_from_partition : {X : Type 0} (key : X → ℕ) (number : ℕ) (xs : List X) (i : ℕ) → i ≤ length xs → AllWithin (λ x. ltb (key x) number ≡ true) xs 0 i → AllWithin (λ x. ltb (key x) number ≡ false) xs i (length xs) → i ≡ place number (map key xs)
place_from_partition key number [] i le below above = omega arith
place_from_partition key number (x ∷ xs) zero le below above = rw (above 0 x (omega arith) (omega arith)) refl
place_from_partition key number (x ∷ xs) (suc i) le below above =
    let here : ltb (key x) number ≡ true = below 0 x (omega arith) (omega arith) in
    let rest : i ≡ place number (map key xs) = place_from_partition key number xs i (omega arith) (λ k d lo hi. below (suc k) d (omega arith) (omega arith)) (λ k d lo hi. above (suc k) d (omega arith) (omega arith)) in
    rw here (omega arith)

-- a number that is above the last one has its place behind all
pub place_behind : {X : Type 0} (key : X → ℕ) (number : ℕ) (xs : List X) (k : ℕ) (d : X) → Rises (map key xs) → length xs ≡ suc k → key (get_or xs k d) < number → suc k ≡ place number (map key xs)
place_behind key number [] k d rises long below = absurd (omega arith)
place_behind key number (x ∷ []) zero d rises long below = let e : ltb (key x) number ≡ true = lt-ltb (key x) number below in rw e (omega arith)
place_behind key number (x ∷ (y ∷ ys)) zero d rises long below = absurd (omega arith)
place_behind key number (x ∷ xs) (suc k) d rises long below =
    let here : key x < key (get_or xs k d) = above_at key (key x) xs rises.0 k d (omega arith) in
    let e : ltb (key x) number ≡ true = lt-ltb (key x) number (omega arith) in
    let rest : suc k ≡ place number (map key xs) = place_behind key number xs k d rises.1 (omega arith) below in
    rw e (omega arith)

-- the place of a number that is above the first one, or isn't
pub place_later : (number x : ℕ) (xs : List ℕ) → x < number → place number (x ∷ xs) ≡ suc (place number xs)
place_later number x xs below = let e : ltb x number ≡ true = lt-ltb x number below in rw e (omega arith)

pub place_first : (number x : ℕ) (xs : List ℕ) → number ≤ x → place number (x ∷ xs) ≡ 0
place_first number x xs above = let e : ltb x number ≡ false = le-ltb x number above in rw e refl

-- a number that is above an entry, and not above the next one, has its place between them
pub place_between : {X : Type 0} (key : X → ℕ) (number : ℕ) (xs : List X) (k : ℕ) (d e : X) → Rises (map key xs) → suc k < length xs → key (get_or xs k d) < number → number ≤ key (get_or xs (suc k) e) → suc k ≡ place number (map key xs)
place_between key number [] k d e rises long below above = absurd (omega arith)
place_between key number (x ∷ []) zero d e rises long below above = absurd (omega arith)
place_between key number (x ∷ (y ∷ ys)) zero d e rises long below above =
    let first = place_first number (key y) (map key ys) above in
    let later = place_later number (key x) (map key (y ∷ ys)) below in
    omega (arith, first, later)
place_between key number (x ∷ xs) (suc k) d e rises long below above =
    let here : key x < key (get_or xs k d) = above_at key (key x) xs rises.0 k d (omega arith) in
    let rest : suc k ≡ place number (map key xs) = place_between key number xs k d e rises.1 (omega arith) below above in
    let later = place_later number (key x) (map key xs) (omega arith) in
    omega (arith, rest, later)

-- ---- the place in two parts

above_front : {X : Type 0} (key : X → ℕ) (floor : ℕ) (xs ys : List X) → IsAbove floor (map key (xs ++ ys)) → IsAbove floor (map key xs)
above_front key floor [] ys h = tt
above_front key floor (x ∷ xs) ys h = (h.0, above_front key floor xs ys h.1)

pub rises_front : {X : Type 0} (key : X → ℕ) (xs ys : List X) → Rises (map key (xs ++ ys)) → Rises (map key xs)
rises_front key [] ys h = tt
rises_front key (x ∷ xs) ys h = (above_front key (key x) xs ys h.0, rises_front key xs ys h.1)

pub rises_back : {X : Type 0} (key : X → ℕ) (xs ys : List X) → Rises (map key (xs ++ ys)) → Rises (map key ys)
rises_back key [] ys h = h
rises_back key (x ∷ xs) ys h = rises_back key xs ys h.1

-- within the first part it is that of the whole
pub place_front : {X : Type 0} (key : X → ℕ) (number : ℕ) (xs ys : List X) → place number (map key xs) < length xs → place number (map key xs) ≡ place number (map key (xs ++ ys))
place_front key number [] ys within = absurd (omega (arith, within))
place_front key number (x ∷ xs) ys within = elim (cases_lt (key x) number) [
  | inl below ↦
      let own = place_later number (key x) (map key xs) below in
      let rest : place number (map key xs) ≡ place number (map key (xs ++ ys)) = place_front key number xs ys (omega (arith, own, within)) in
      omega (arith, own, rest, place_later number (key x) (map key (xs ++ ys)) below)
  | inr above ↦ omega (arith, place_first number (key x) (map key xs) above, place_first number (key x) (map key (xs ++ ys)) above)
]

-- past the first part it is that in the second
pub place_past : {X : Type 0} (key : X → ℕ) (number : ℕ) (xs ys : List X) → length xs ≤ place number (map key xs)
    → length xs + place number (map key ys) ≡ place number (map key (xs ++ ys))
place_past key number [] ys past = omega arith
place_past key number (x ∷ xs) ys past = elim (cases_lt (key x) number) [
  | inl below ↦
      let own = place_later number (key x) (map key xs) below in
      let rest : length xs + place number (map key ys) ≡ place number (map key (xs ++ ys)) = place_past key number xs ys (omega (arith, own, past)) in
      omega (arith, own, rest, place_later number (key x) (map key (xs ++ ys)) below)
  | inr above ↦ absurd (omega (arith, past, place_first number (key x) (map key xs) above))
]

-- an entry that is put in its place
pub insert_at_place : {X : Type 0} (key : X → ℕ) (x : X) (xs : List X) → insert xs (place (key x) (map key xs)) x ≡ inserted key x xs
insert_at_place key x [] = refl
insert_at_place key x (y ∷ ys) = elim (cases_lt (key y) (key x)) [
  | inl below ↦ let e : ltb (key y) (key x) ≡ true = lt-ltb (key y) (key x) below in rw (e, add-one) (ap (λ zs. y ∷ zs) (insert_at_place key x ys))
  | inr above ↦ let e : ltb (key y) (key x) ≡ false = le-ltb (key y) (key x) above in rw e refl
]

-- ---- the neighbours of a place

pub no_last_below : (number : ℕ) (xs : List Accepted) (before : Option Accepted) → place number (map accepted_key xs) ≡ 0 → last_below number xs before ≡ before
no_last_below number [] before at = refl
no_last_below number (x ∷ xs) before at = elim (cases_lt x.number number) [
  | inl below ↦ absurd (omega (arith, place_later number x.number (map accepted_key xs) below))
  | inr above ↦ let e : ltb x.number number ≡ false = le-ltb x.number number above in rw e refl
]

pub last_below_at : (number : ℕ) (xs : List Accepted) (before : Option Accepted) (k : ℕ) (d : Accepted) → place number (map accepted_key xs) ≡ suc k → last_below number xs before ≡ Some (get_or xs k d)
last_below_at number [] before k d at = absurd (omega arith)
last_below_at number (x ∷ xs) before zero d at = elim (cases_lt x.number number) [
  | inl below ↦ let e : ltb x.number number ≡ true = lt-ltb x.number number below in rw e (no_last_below number xs (Some x) (omega (arith, place_later number x.number (map accepted_key xs) below)))
  | inr above ↦ absurd (omega (arith, place_first number x.number (map accepted_key xs) above))
]
last_below_at number (x ∷ xs) before (suc k) d at = elim (cases_lt x.number number) [
  | inl below ↦ let e : ltb x.number number ≡ true = lt-ltb x.number number below in rw e (last_below_at number xs (Some x) k d (omega (arith, place_later number x.number (map accepted_key xs) below)))
  | inr above ↦ absurd (omega (arith, place_first number x.number (map accepted_key xs) above))
]

pub no_first_above : (number : ℕ) (xs : List Accepted) → length xs ≤ place number (map accepted_key xs) → first_above number xs ≡ None
no_first_above number [] at = refl
no_first_above number (x ∷ xs) at = elim (cases_lt x.number number) [
  | inl below ↦ let e : ltb number x.number ≡ false = le-ltb number x.number (omega arith) in rw e (no_first_above number xs (omega (arith, place_later number x.number (map accepted_key xs) below)))
  | inr above ↦ absurd (omega (arith, place_first number x.number (map accepted_key xs) above))
]

-- it stands at the place, where it has another number
pub first_above_at : (number : ℕ) (xs : List Accepted) (k : ℕ) (d : Accepted) → k ≡ place number (map accepted_key xs) → k < length xs → (get_or xs k d).number ≢ number → first_above number xs ≡ Some (get_or xs k d)
first_above_at number [] k d at within other = absurd (omega arith)
first_above_at number (x ∷ xs) zero d at within other = elim (cases_lt x.number number) [
  | inl below ↦ absurd (omega (arith, place_later number x.number (map accepted_key xs) below))
  | inr above ↦ let e : ltb number x.number ≡ true = lt-ltb number x.number (omega arith) in rw e refl
]
first_above_at number (x ∷ xs) (suc k) d at within other = elim (cases_lt x.number number) [
  | inl below ↦ let e : ltb number x.number ≡ false = le-ltb number x.number (omega arith) in rw e (first_above_at number xs k d (omega (arith, place_later number x.number (map accepted_key xs) below)) (omega arith) other)
  | inr above ↦ absurd (omega (arith, place_first number x.number (map accepted_key xs) above))
]

-- above a number is the first of what rises above it
first_of_above : (number : ℕ) (xs : List Accepted) (d : Accepted) → IsAbove number (map accepted_key xs) → 0 < length xs → first_above number xs ≡ Some (get_or xs 0 d)
first_of_above number [] d h some = absurd (omega arith)
first_of_above number (x ∷ xs) d h some = let e : ltb number x.number ≡ true = lt-ltb number x.number h.0 in rw e refl

-- else it stands behind the place
pub first_above_next : (number : ℕ) (xs : List Accepted) (k : ℕ) (d : Accepted) → k ≡ place number (map accepted_key xs) → suc k < length xs → (get_or xs k d).number ≡ number → Rises (map accepted_key xs) → first_above number xs ≡ Some (get_or xs (suc k) d)
first_above_next number [] k d at within same rises = absurd (omega arith)
first_above_next number (x ∷ xs) zero d at within same rises =
    let e : ltb number x.number ≡ false = le-ltb number x.number (omega arith) in
    rw e (first_of_above number xs d (above_lower number x.number (map accepted_key xs) (omega arith) rises.0) (omega arith))
first_above_next number (x ∷ xs) (suc k) d at within same rises = elim (cases_lt x.number number) [
  | inl below ↦ let e : ltb number x.number ≡ false = le-ltb number x.number (omega arith) in rw e (first_above_next number xs k d (omega (arith, place_later number x.number (map accepted_key xs) below)) (omega arith) same rises.1)
  | inr above ↦ absurd (omega (arith, place_first number x.number (map accepted_key xs) above))
]

pub no_first_above_next : (number : ℕ) (xs : List Accepted) (k : ℕ) (d : Accepted) → k ≡ place number (map accepted_key xs) → suc k ≡ length xs → (get_or xs k d).number ≡ number → first_above number xs ≡ None
no_first_above_next number [] k d at within same = absurd (omega arith)
no_first_above_next number (x ∷ []) zero d at within same = let e : ltb number x.number ≡ false = le-ltb number x.number (omega arith) in rw e refl
no_first_above_next number (x ∷ (y ∷ ys)) zero d at within same = absurd (omega arith)
no_first_above_next number (x ∷ xs) (suc k) d at within same = elim (cases_lt x.number number) [
  | inl below ↦ let e : ltb number x.number ≡ false = le-ltb number x.number (omega arith) in rw e (no_first_above_next number xs k d (omega (arith, place_later number x.number (map accepted_key xs) below)) (omega arith) same)
  | inr above ↦ absurd (omega (arith, place_first number x.number (map accepted_key xs) above))
]

-- ---- the row at a place

pub no_mark_above : (number floor : ℕ) (rows : List Row) → number ≤ floor → IsAbove floor (map row_number rows) → mark_in number rows ≡ None
no_mark_above number floor [] le h = refl
no_mark_above number floor (row ∷ rows) le h = let e : eqb row.number number ≡ false = ne_eqb row.number number (λ same. omega (arith, h.0)) in rw e (no_mark_above number floor rows le h.1)

pub no_mark_past : (number : ℕ) (rows : List Row) → length rows ≤ place number (map row_number rows) → mark_in number rows ≡ None
no_mark_past number [] at = refl
no_mark_past number (row ∷ rows) at = elim (cases_lt row.number number) [
  | inl below ↦ let e : eqb row.number number ≡ false = ne_eqb row.number number (λ same. omega arith) in rw e (no_mark_past number rows (omega (arith, place_later number row.number (map row_number rows) below)))
  | inr above ↦ absurd (omega (arith, place_first number row.number (map row_number rows) above))
]

pub no_mark_at : (number : ℕ) (rows : List Row) (k : ℕ) (d : Row) → k ≡ place number (map row_number rows) → k < length rows → (get_or rows k d).number ≢ number → Rises (map row_number rows) → mark_in number rows ≡ None
no_mark_at number [] k d at within other rises = absurd (omega arith)
no_mark_at number (row ∷ rows) zero d at within other rises = elim (cases_lt row.number number) [
  | inl below ↦ absurd (omega (arith, place_later number row.number (map row_number rows) below))
  | inr above ↦ let e : eqb row.number number ≡ false = ne_eqb row.number number other in rw e (no_mark_above number row.number rows above rises.0)
]
no_mark_at number (row ∷ rows) (suc k) d at within other rises = elim (cases_lt row.number number) [
  | inl below ↦ let e : eqb row.number number ≡ false = ne_eqb row.number number (λ same. omega arith) in rw e (no_mark_at number rows k d (omega (arith, place_later number row.number (map row_number rows) below)) (omega arith) other rises.1)
  | inr above ↦ absurd (omega (arith, place_first number row.number (map row_number rows) above))
]

pub mark_at : (number : ℕ) (rows : List Row) (k : ℕ) (d : Row) → k ≡ place number (map row_number rows) → k < length rows → (get_or rows k d).number ≡ number → mark_in number rows ≡ Some (get_or rows k d).mark
mark_at number [] k d at within same = absurd (omega arith)
mark_at number (row ∷ rows) zero d at within same = let e : eqb row.number number ≡ true = eq-eqb row.number number same in rw e refl
mark_at number (row ∷ rows) (suc k) d at within same = elim (cases_lt row.number number) [
  | inl below ↦ let e : eqb row.number number ≡ false = ne_eqb row.number number (λ same. omega arith) in rw e (mark_at number rows k d (omega (arith, place_later number row.number (map row_number rows) below)) (omega arith) same)
  | inr above ↦ absurd (omega (arith, place_first number row.number (map row_number rows) above))
]

-- ---- another mark

pub with_mark_absent : (number : ℕ) (mark : Mark) (rows : List Row) → mark_in number rows ≡ None → with_mark number mark rows ≡ rows
with_mark_absent number mark [] absent = refl
with_mark_absent number mark (row ∷ rows) absent = elim (cases_eq row.number number) [
  | inl same ↦ let e : eqb row.number number ≡ true = eq-eqb row.number number same in let found : Some row.mark ≡ None = rw e at absent in cc
  | inr other ↦ let e : eqb row.number number ≡ false = ne_eqb row.number number other in let rest : mark_in number rows ≡ None = rw e at absent in rw e (ap (λ rows. row ∷ rows) (with_mark_absent number mark rows rest))
]

pub with_mark_at : (number : ℕ) (mark : Mark) (rows : List Row) (k : ℕ) (d : Row) → k ≡ place number (map row_number rows) → k < length rows → (get_or rows k d).number ≡ number → set rows k (record { number = number; mark = mark }) ≡ with_mark number mark rows
with_mark_at number mark [] k d at within same = absurd (omega arith)
with_mark_at number mark (row ∷ rows) zero d at within same = let e : eqb row.number number ≡ true = eq-eqb row.number number same in rw e refl
with_mark_at number mark (row ∷ rows) (suc k) d at within same = elim (cases_lt row.number number) [
  | inl below ↦ let e : eqb row.number number ≡ false = ne_eqb row.number number (λ same. omega arith) in rw e (ap (λ rows. row ∷ rows) (with_mark_at number mark rows k d (omega (arith, place_later number row.number (map row_number rows) below)) (omega arith) same))
  | inr above ↦ absurd (omega (arith, place_first number row.number (map row_number rows) above))
]
