-- The living numbers in ascending order.
use Rattle.std.proofs.Common.{◌≡◌, ◌≢◌, ◌∙◌, ℕ, zero, suc, ◌<◌, ◌≤◌, Bool, true, false, cond, ltb, eqb, Option, Some, None, List, [], ◌∷◌, map, length, get_or, ap, refl, sym, inl, inr, arith}
use Rattle.std.specs.Prelude.{option_map, IsSome}
use Rattle.std.specs.List.{AllZip}
use Rattle.std.proofs.lemmas.Bool.{cases_Bool, cases_lt, cases_eq, lt-ltb, le-ltb, eq-eqb, ne_eqb}
use Rattle.call_table.specs.declared.names.Named.{Named}
use Rattle.call_table.specs.declared.row.Progress.{Progress}
use Rattle.call_table.specs.declared.row.Progress.TheVariants as progress
use Rattle.call_table.specs.declared.row.Row.{Row}
use Rattle.call_table.specs.Table.{State, Name, Call, Table, first_from, with_number, with_own, living_name_in, living_numbers}
use Rattle.call_table.specs.Kept.{Contents, Stands, IsProgressOf, IsRowOf, number_in, is_number, numbers_in, owner_in}
use Rattle.call_table.specs.Held.{IsAbove, Rises, found, number_at, IsIndexed}
use Rattle.call_table.proofs.PlaceLemmas.{number_of}
use Rattle.call_table.proofs.IndexLemmas.{number_found, found_is_first}

-- a number is among these
abbrev has : ℕ → List ℕ → Bool
has number [] = false
has number (x ∷ xs) = cond (eqb x number) true (has number xs)

-- ---- what rises

above_less : (less floor : ℕ) (xs : List ℕ) → less ≤ floor → IsAbove floor xs → IsAbove less xs
above_less less floor [] le h = tt
above_less less floor (x ∷ xs) le h = (omega (arith, h.0), above_less less floor xs le h.1)

above_with : (floor number : ℕ) (xs : List ℕ) → floor < number → IsAbove floor xs → IsAbove floor (with_number number xs)
above_with floor number [] below h = (below, tt)
above_with floor number (x ∷ xs) below h = elim (cases_lt x number) [
  | inl less ↦ let e : ltb x number ≡ true = lt-ltb x number less in rw e (h.0, above_with floor number xs below h.1)
  | inr more ↦ let e : ltb x number ≡ false = le-ltb x number more in rw e (below, h)
]

rises_with : (number : ℕ) (xs : List ℕ) → has number xs ≡ false → Rises xs → Rises (with_number number xs)
rises_with number [] new h = (tt, tt)
rises_with number (x ∷ xs) new h = elim (cases_eq x number) [
  | inl same ↦ let e : eqb x number ≡ true = eq-eqb x number same in let there : true ≡ false = rw e at new in cc
  | inr other ↦
      let n : eqb x number ≡ false = ne_eqb x number other in
      let rest : has number xs ≡ false = rw n at new in
      elim (cases_lt x number) [
        | inl less ↦ let e : ltb x number ≡ true = lt-ltb x number less in rw e (above_with x number xs less h.0, rises_with number xs rest h.1)
        | inr more ↦
            let e : ltb x number ≡ false = le-ltb x number more in
            let below : number < x = omega (arith, other) in
            rw e ((below, above_less number x xs (omega arith) h.0), h)
      ]
]

-- ---- what is among them

has_with : (number own : ℕ) (xs : List ℕ) → has number (with_number own xs) ≡ cond (eqb own number) true (has number xs)
has_with number own [] = refl
has_with number own (x ∷ xs) = elim (cases_lt x own) [
  | inl less ↦
      let e : ltb x own ≡ true = lt-ltb x own less in
      elim (cases_Bool (eqb own number)) [
        | inl hit ↦ elim (cases_Bool (eqb x number)) [
          | inl here ↦ rw (e, here, hit) refl
          | inr there ↦ rw (e, there, has_with number own xs, hit) refl
        ]
        | inr miss ↦ elim (cases_Bool (eqb x number)) [
          | inl here ↦ rw (e, here, miss) refl
          | inr there ↦ rw (e, there, has_with number own xs, miss) refl
        ]
      ]
  | inr more ↦ let e : ltb x own ≡ false = le-ltb x own more in rw e refl
]

none_own : (number : ℕ) (own : Option ℕ) (xs : List ℕ) → own ≢ Some number → has number xs ≡ false → has number (with_own own xs) ≡ false
none_own number None xs isnt h = h
none_own number (Some own) xs isnt h = let e : eqb own number ≡ false = ne_eqb own number (λ same. isnt (ap Some same)) in has_with number own xs ∙ rw e h

none_has : (number : ℕ) (rows : List Row) → ((k : ℕ) → number_at k rows ≢ Some number) → has number (numbers_in rows) ≡ false
none_has number [] none = refl
none_has number (row ∷ rows) none = none_own number (number_in row.progress) (numbers_in rows) (none 0) (none_has number rows (λ k. none (suc k)))

some_own : (number : ℕ) (own : Option ℕ) (xs : List ℕ) → own ≡ Some number → has number (with_own own xs) ≡ true
some_own number None xs is = cc
some_own number (Some own) xs is =
    let same : own ≡ number = cc in
    let e : eqb own number ≡ true = eq-eqb own number same in
    has_with number own xs ∙ rw e refl

more_own : (number : ℕ) (own : Option ℕ) (xs : List ℕ) → has number xs ≡ true → has number (with_own own xs) ≡ true
more_own number None xs h = h
more_own number (Some own) xs h = elim (cases_Bool (eqb own number)) [
  | inl hit ↦ has_with number own xs ∙ rw hit refl
  | inr miss ↦ has_with number own xs ∙ rw miss h
]

some_has : (number : ℕ) (rows : List Row) (k : ℕ) → number_at k rows ≡ Some number → has number (numbers_in rows) ≡ true
some_has number [] k is = cc
some_has number (row ∷ rows) zero is = some_own number (number_in row.progress) (numbers_in rows) is
some_has number (row ∷ rows) (suc k) is = more_own number (number_in row.progress) (numbers_in rows) (some_has number rows k is)

rises_own : (own : Option ℕ) (xs : List ℕ) → ((number : ℕ) → own ≡ Some number → has number xs ≡ false) → Rises xs → Rises (with_own own xs)
rises_own None xs new h = h
rises_own (Some own) xs new h = rises_with own xs (new own refl) h

-- where no number stands twice, they rise
numbers_rise : (rows : List Row) → ((i j number : ℕ) → number_at i rows ≡ Some number → number_at j rows ≡ Some number → i ≡ j) → Rises (numbers_in rows)
numbers_rise [] once = tt
numbers_rise (row ∷ rows) once =
    rises_own (number_in row.progress) (numbers_in rows)
    (λ number is. none_has number rows (λ k told. let e : 0 ≡ suc k = once 0 (suc k) number is told in omega arith))
    (numbers_rise rows (λ i j number a b. let e : suc i ≡ suc j = once (suc i) (suc j) number a b in omega arith))

-- ---- the same numbers in ascending order are the same list

has_none_above : (number floor : ℕ) (xs : List ℕ) → number ≤ floor → IsAbove floor xs → has number xs ≡ false
has_none_above number floor [] le h = refl
has_none_above number floor (x ∷ xs) le h = let e : eqb x number ≡ false = ne_eqb x number (λ same. omega (arith, h.0)) in rw e (has_none_above number floor xs le h.1)

first_least : (x y : ℕ) (ys : List ℕ) → has x (y ∷ ys) ≡ true → IsAbove y ys → y ≤ x
first_least x y ys there h = elim (cases_lt x y) [
  | inl less ↦
      let e : has x (y ∷ ys) ≡ false = let f : eqb y x ≡ false = ne_eqb y x (λ same. omega arith) in rw f (has_none_above x y ys (omega arith) h) in
      let g : true ≡ false = sym there ∙ e in
      cc
  | inr more ↦ more
]

has_first : (x : ℕ) (xs : List ℕ) → has x (x ∷ xs) ≡ true
has_first x xs = let e : eqb x x ≡ true = eq-eqb x x refl in rw e refl

same_tail : (x y : ℕ) (xs ys : List ℕ) → x ≡ y → IsAbove x xs → IsAbove y ys → ((n : ℕ) → has n (x ∷ xs) ≡ has n (y ∷ ys)) → (n : ℕ) → has n xs ≡ has n ys
same_tail x y xs ys first a b same n = elim (cases_eq x n) [
  | inl is ↦ has_none_above n x xs (omega arith) a ∙ sym (has_none_above n y ys (omega arith) b)
  | inr isnt ↦
      let e : eqb x n ≡ false = ne_eqb x n isnt in
      let f : eqb y n ≡ false = ne_eqb y n (λ is. isnt (first ∙ is)) in
      let left : has n (x ∷ xs) ≡ has n xs = rw e refl in
      let right : has n (y ∷ ys) ≡ has n ys = rw f refl in
      sym left ∙ (same n ∙ right)
]

same_list : (xs ys : List ℕ) → Rises xs → Rises ys → ((n : ℕ) → has n xs ≡ has n ys) → xs ≡ ys
same_list [] [] a b same = refl
same_list [] (y ∷ ys) a b same = let e : false ≡ true = same y ∙ has_first y ys in cc
same_list (x ∷ xs) [] a b same = let e : true ≡ false = sym (has_first x xs) ∙ same x in cc
same_list (x ∷ xs) (y ∷ ys) a b same =
    let up : y ≤ x = first_least x y ys (sym (same x) ∙ has_first x xs) b.0 in
    let down : x ≤ y = first_least y x xs (same y ∙ has_first y ys) a.0 in
    let first : x ≡ y = omega arith in
    let rest : xs ≡ ys = same_list xs ys a.1 b.1 (same_tail x y xs ys first a.0 b.0 same) in
    ap (λ z. z ∷ xs) first ∙ ap (λ zs. y ∷ zs) rest

-- ---- the names beside the rows

found_has : (number place : ℕ) (names : List Named) → found number names ≡ Some place → has number (map number_of names) ≡ true
found_has number place [] is = cc
found_has number place (one ∷ names) is = elim (cases_eq one.number number) [
  | inl same ↦ let e : eqb one.number number ≡ true = eq-eqb one.number number same in rw e refl
  | inr other ↦
      let e : eqb one.number number ≡ false = ne_eqb one.number number other in
      let rest : found number names ≡ Some place = rw e at is in
      rw e (found_has number place names rest)
]

unfound_has : (number : ℕ) (names : List Named) → found number names ≡ None → has number (map number_of names) ≡ false
unfound_has number [] is = refl
unfound_has number (one ∷ names) is = elim (cases_eq one.number number) [
  | inl same ↦ let e : eqb one.number number ≡ true = eq-eqb one.number number same in let f : Some one.place ≡ None = rw e at is in cc
  | inr other ↦
      let e : eqb one.number number ≡ false = ne_eqb one.number number other in
      let rest : found number names ≡ None = rw e at is in
      rw e (unfound_has number names rest)
]

same_has : (rows : List Row) (names : List Named) → IsIndexed rows names → (number : ℕ) (own : Option ℕ) → found number names ≡ own → has number (map number_of names) ≡ has number (numbers_in rows)
same_has rows names h number None is =
    unfound_has number names is ∙ sym (none_has number rows (λ k told. let e : None ≡ Some k = sym is ∙ h.complete k number told in cc))
same_has rows names h number (Some place) is =
    found_has number place names is ∙ sym (some_has number rows place (number_found rows names number place h.sound is))

-- the names are the living numbers in ascending order
pub names_are_numbers : (rows : List Row) (names : List Named) → IsIndexed rows names → map number_of names ≡ numbers_in rows
names_are_numbers rows names h =
    same_list (map number_of names) (numbers_in rows) h.rising
    (numbers_rise rows (λ i j number a b. let e : Some i ≡ Some j = sym (h.complete i number a) ∙ h.complete j number b in cc))
    (λ number. same_has rows names h number (found number names) refl)

-- ---- a name that is there is owned

has_at : (names : List Named) (k : ℕ) (one : Named) → k < length names → one ≡ get_or names k one → has one.number (map number_of names) ≡ true
has_at [] k one within is = absurd (omega arith)
has_at (first ∷ names) zero one within is = let e : eqb first.number one.number ≡ true = eq-eqb first.number one.number (ap number_of (sym is)) in rw e refl
has_at (first ∷ names) (suc k) one within is = elim (cases_Bool (eqb first.number one.number)) [
  | inl hit ↦ rw hit refl
  | inr miss ↦ rw miss (has_at names k one (omega arith) is)
]

own_found : (number : ℕ) (rows : List Row) (own : Option ℕ) → own ≡ first_from (λ row. is_number number (number_in row.progress)) 0 rows → own ≢ None → IsSome (owner_in number rows)
own_found number rows None is isnt = absurd (isnt refl)
own_found number rows (Some place) is isnt = rw (sym is) refl

pub number_owned : (rows : List Row) (names : List Named) (k : ℕ) (one : Named) → IsIndexed rows names → k < length names → one ≡ get_or names k one → IsSome (owner_in one.number rows)
number_owned rows names k one h within is =
    own_found one.number rows (found one.number names) (found_is_first rows names one.number (found one.number names) h refl)
    (λ none. let e : true ≡ false = sym (has_at names k one within is) ∙ unfound_has one.number names none in cc)

-- ---- what stands for a table

progress_own : (p : Progress) (s : State) (names : List Name) → IsProgressOf p s names → number_in p ≡ option_map (λ name. name.message.number) (living_name_in s names)
progress_own progress.Queued s names h = rw h refl
progress_own (progress.Sent living under) s [] h = absurd h.1
progress_own (progress.Sent living under) s (name ∷ names) h = rw (h.0, h.1.0) refl
progress_own progress.Held s names h = rw h refl
progress_own (progress.Done bytes) s names h = rw h refl
progress_own (progress.Refused code) s names h = rw h refl
progress_own (progress.Unknown cause) s names h = rw h refl

zip_numbers : (rows : List Row) (calls : List Call) → AllZip IsRowOf rows calls → numbers_in rows ≡ living_numbers calls
zip_numbers [] [] h = refl
zip_numbers [] (call ∷ calls) h = absurd h
zip_numbers (row ∷ rows) [] h = absurd h
zip_numbers (row ∷ rows) (call ∷ calls) h = rw (progress_own row.progress call.state call.names h.0.progress, zip_numbers rows calls h.1) refl

pub numbers_stand : (kept : Contents) (table : Table) → Stands kept table → numbers_in kept.rows ≡ living_numbers table.calls
numbers_stand kept table h = zip_numbers kept.rows table.calls h.rows
