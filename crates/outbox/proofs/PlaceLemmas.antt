-- Places in ascending lists.
use Rattle.std.proofs.Common.{◌≡◌, ◌≢◌, ℕ, zero, suc, ◌+◌, ◌<◌, ◌≤◌, true, false, ltb, eqb, List, [], ◌∷◌, map, length, get_or, insert, ap, refl, inl, inr, arith, add-one}
use Rattle.std.specs.List.{AllWithin, position_or_len}
use Rattle.std.specs.List.Sorted.{IsNonDecreasingBy}
use Rattle.std.proofs.lemmas.Bool.{cases_lt, lt-ltb, le-ltb, eq-eqb, ne_eqb}
use Rattle.outbox.specs.Places.{IsAbove, Rises, place, inserted}

module _ {X : Type 0} (key : X → ℕ) where
  -- ---- what rises

  pub above_at : (floor : ℕ) (xs : List X) → IsAbove floor (map key xs) → (i : ℕ) (d : X) → i < length xs → floor < key (get_or xs i d)
  above_at floor [] h i d l = absurd (omega arith)
  above_at floor (x ∷ xs) h zero d l = h.0
  above_at floor (x ∷ xs) h (suc i) d l = above_at floor xs h.1 i d (omega arith)

  -- what rises by its keys doesn't fall by them
  pub never_falls : (xs : List X) → Rises (map key xs) → IsNonDecreasingBy key xs
  never_falls [] h i j d le l = absurd (omega arith)
  never_falls (x ∷ xs) h zero zero d le l = omega arith
  never_falls (x ∷ xs) h zero (suc j) d le l = let a : key x < key (get_or xs j d) = above_at (key x) xs h.0 j d (omega arith) in omega arith
  never_falls (x ∷ xs) h (suc i) zero d le l = absurd (omega arith)
  never_falls (x ∷ xs) h (suc i) (suc j) d le l = never_falls xs h.1 i j d (omega arith) (omega arith)

  -- ---- the place

  -- where a search by halving ends is the place
  pub place_from_partition : (number : ℕ) (xs : List X) (i : ℕ) → i ≤ length xs → AllWithin (λ x. ltb (key x) number ≡ true) xs 0 i → AllWithin (λ x. ltb (key x) number ≡ false) xs i (length xs) → i ≡ place number (map key xs)
  place_from_partition number [] i le below above = omega arith
  place_from_partition number (x ∷ xs) zero le below above = rw (above 0 x (omega arith) (omega arith)) refl
  place_from_partition number (x ∷ xs) (suc i) le below above =
      let here : ltb (key x) number ≡ true = below 0 x (omega arith) (omega arith) in
      let rest : i ≡ place number (map key xs) = place_from_partition number xs i (omega arith) (λ k d lo hi. below (suc k) d (omega arith) (omega arith)) (λ k d lo hi. above (suc k) d (omega arith) (omega arith)) in
      rw here (omega arith)

  -- a number that is above the last one has its place behind all
  pub place_behind : (number : ℕ) (xs : List X) (k : ℕ) (d : X) → Rises (map key xs) → length xs ≡ suc k → key (get_or xs k d) < number → suc k ≡ place number (map key xs)
  place_behind number [] k d rises long below = absurd (omega arith)
  place_behind number (x ∷ []) zero d rises long below = let e : ltb (key x) number ≡ true = lt-ltb (key x) number below in rw e (omega arith)
  place_behind number (x ∷ (y ∷ ys)) zero d rises long below = absurd (omega arith)
  place_behind number (x ∷ xs) (suc k) d rises long below =
      let here : key x < key (get_or xs k d) = above_at (key x) xs rises.0 k d (omega arith) in
      let e : ltb (key x) number ≡ true = lt-ltb (key x) number (omega arith) in
      let rest : suc k ≡ place number (map key xs) = place_behind number xs k d rises.1 (omega arith) below in
      rw e (omega arith)

  -- one that isn't above the first has its place in front
  pub place_in_front : (number : ℕ) (xs : List X) (d : X) → 0 < length xs → number ≤ key (get_or xs 0 d) → 0 ≡ place number (map key xs)
  place_in_front number [] d some above = refl
  place_in_front number (x ∷ xs) d some above = let e : ltb (key x) number ≡ false = le-ltb (key x) number above in rw e refl

  -- an entry that is put in its place
  pub insert_at_place : (x : X) (xs : List X) → insert xs (place (key x) (map key xs)) x ≡ inserted key x xs
  insert_at_place x [] = refl
  insert_at_place x (y ∷ ys) = elim (cases_lt (key y) (key x)) [
    | inl below ↦ let e : ltb (key y) (key x) ≡ true = lt-ltb (key y) (key x) below in rw (e, add-one) (ap (λ zs. y ∷ zs) (insert_at_place x ys))
    | inr above ↦ let e : ltb (key y) (key x) ≡ false = le-ltb (key y) (key x) above in rw e refl
  ]

  -- ---- the place is that of the key

  pub place_of_key : (number : ℕ) (xs : List X) (k : ℕ) (d : X) → k ≡ place number (map key xs) → k < length xs → key (get_or xs k d) ≡ number → k ≡ position_or_len (λ x. eqb (key x) number) xs
  place_of_key number [] k d at within same = absurd (omega arith)
  place_of_key number (x ∷ xs) zero d at within same = let e : eqb (key x) number ≡ true = eq-eqb (key x) number same in rw e refl
  place_of_key number (x ∷ xs) (suc k) d at within same = elim (cases_lt (key x) number) [
    | inl below ↦
        let e : eqb (key x) number ≡ false = ne_eqb (key x) number (λ same. omega arith) in
        let f : ltb (key x) number ≡ true = lt-ltb (key x) number below in
        let at' : suc k ≡ place number (map key xs) + 1 = rw f at at in
        let rest : k ≡ position_or_len (λ x. eqb (key x) number) xs = place_of_key number xs k d (omega arith) (omega arith) same in
        rw e (omega arith)
    | inr above ↦ let f : ltb (key x) number ≡ false = le-ltb (key x) number above in let none : suc k ≡ 0 = rw f at at in absurd (omega arith)
  ]

  -- no such key is above one that isn't below it
  pub no_key_above : (number floor : ℕ) (xs : List X) → number ≤ floor → IsAbove floor (map key xs) → length xs ≡ position_or_len (λ x. eqb (key x) number) xs
  no_key_above number floor [] le h = refl
  no_key_above number floor (x ∷ xs) le h =
      let e : eqb (key x) number ≡ false = ne_eqb (key x) number (λ same. omega (arith, h.0)) in
      let rest = no_key_above number floor xs le h.1 in
      rw e (omega arith)

  -- none is there where the place is past the end
  pub no_key_past : (number : ℕ) (xs : List X) → length xs ≤ place number (map key xs) → length xs ≡ position_or_len (λ x. eqb (key x) number) xs
  no_key_past number [] at = refl
  no_key_past number (x ∷ xs) at = elim (cases_lt (key x) number) [
    | inl below ↦
        let e : eqb (key x) number ≡ false = ne_eqb (key x) number (λ same. omega arith) in
        let f : ltb (key x) number ≡ true = lt-ltb (key x) number below in
        let at' : suc (length xs) ≤ place number (map key xs) + 1 = rw f at at in
        let rest = no_key_past number xs (omega arith) in
        rw e (omega arith)
    | inr above ↦ let f : ltb (key x) number ≡ false = le-ltb (key x) number above in let none : suc (length xs) ≤ 0 = rw f at at in absurd (omega arith)
  ]

  -- nor where another one stands there
  pub no_key_at : (number : ℕ) (xs : List X) (k : ℕ) (d : X) → k ≡ place number (map key xs) → k < length xs → key (get_or xs k d) ≢ number → Rises (map key xs) → length xs ≡ position_or_len (λ x. eqb (key x) number) xs
  no_key_at number [] k d at within other rises = absurd (omega arith)
  no_key_at number (x ∷ xs) zero d at within other rises = elim (cases_lt (key x) number) [
    | inl below ↦ let f : ltb (key x) number ≡ true = lt-ltb (key x) number below in let none : 0 ≡ place number (map key xs) + 1 = rw f at at in absurd (omega arith)
    | inr above ↦
        let e : eqb (key x) number ≡ false = ne_eqb (key x) number other in
        let rest = no_key_above number (key x) xs above rises.0 in
        rw e (omega arith)
  ]
  no_key_at number (x ∷ xs) (suc k) d at within other rises = elim (cases_lt (key x) number) [
    | inl below ↦
        let e : eqb (key x) number ≡ false = ne_eqb (key x) number (λ same. omega arith) in
        let f : ltb (key x) number ≡ true = lt-ltb (key x) number below in
        let at' : suc k ≡ place number (map key xs) + 1 = rw f at at in
        let rest = no_key_at number xs k d (omega arith) (omega arith) other rises.1 in
        rw e (omega arith)
    | inr above ↦ let f : ltb (key x) number ≡ false = le-ltb (key x) number above in let none : suc k ≡ 0 = rw f at at in absurd (omega arith)
  ]
