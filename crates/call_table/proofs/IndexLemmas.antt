-- The living numbers beside the rows.
use Rattle.std.proofs.Common.{◌≡◌, ◌≢◌, ◌∙◌, ℕ, zero, suc, ◌+◌, ◌<◌, true, false, eqb, Option, Some, None, List, [], ◌∷◌, ◌++◌, map, length, set, get_or, ap, refl, sym, subst, inl, inr, arith}
use Rattle.std.specs.Prelude.{IfSome}
use Rattle.std.specs.List.{AllByRecursion}
use Rattle.std.proofs.lemmas.Bool.{cases_eq, eq-eqb, ne_eqb}
use Rattle.call_table.specs.declared.names.Named.{Named}
use Rattle.call_table.specs.declared.row.Row.{Row}
use Rattle.call_table.specs.Table.{first_from}
use Rattle.call_table.specs.Kept.{number_in, is_number, IsBelow}
use Rattle.call_table.specs.Held.{IsAbove, Rises, found, without, without_own, number_at, IsIndexed}
use Rattle.call_table.proofs.PlaceLemmas.{number_of}

-- ---- the number at a place after a change

pub number_at-set_same : (rows : List Row) (k : ℕ) (y : Row) → k < length rows → number_at k (set rows k y) ≡ number_in y.progress
number_at-set_same [] k y within = absurd (omega arith)
number_at-set_same (row ∷ rows) zero y within = refl
number_at-set_same (row ∷ rows) (suc k) y within = number_at-set_same rows k y (omega arith)

pub number_at-set_other : (rows : List Row) (k j : ℕ) (y : Row) → j ≢ k → number_at j (set rows k y) ≡ number_at j rows
number_at-set_other [] k j y other = refl
number_at-set_other (row ∷ rows) zero zero y other = absurd (other refl)
number_at-set_other (row ∷ rows) zero (suc j) y other = refl
number_at-set_other (row ∷ rows) (suc k) zero y other = refl
number_at-set_other (row ∷ rows) (suc k) (suc j) y other = number_at-set_other rows k j y (λ same. other (ap suc same))

-- where the changed row has the same number, all have
pub number_at-set : (rows : List Row) (k j : ℕ) (y : Row) → number_in y.progress ≡ number_at k rows → number_at j (set rows k y) ≡ number_at j rows
number_at-set [] k j y same = refl
number_at-set (row ∷ rows) zero zero y same = same
number_at-set (row ∷ rows) zero (suc j) y same = refl
number_at-set (row ∷ rows) (suc k) zero y same = refl
number_at-set (row ∷ rows) (suc k) (suc j) y same = number_at-set rows k j y same

pub number_at-push : (rows : List Row) (j : ℕ) (y : Row) → number_in y.progress ≡ None → number_at j (rows ++ y ∷ []) ≡ number_at j rows
number_at-push [] zero y none = none
number_at-push [] (suc j) y none = refl
number_at-push (row ∷ rows) zero y none = refl
number_at-push (row ∷ rows) (suc j) y none = number_at-push rows j y none

pub number_at-row : (rows : List Row) (k : ℕ) (d : Row) → k < length rows → number_at k rows ≡ number_in (get_or rows k d).progress
number_at-row [] k d within = absurd (omega arith)
number_at-row (row ∷ rows) zero d within = refl
number_at-row (row ∷ rows) (suc k) d within = number_at-row rows k d (omega arith)

-- ---- the same numbers

all_same : (rows after : List Row) (names : List Named) → ((j : ℕ) → number_at j after ≡ number_at j rows) → AllByRecursion (λ one. number_at one.place rows ≡ Some one.number) names → AllByRecursion (λ one. number_at one.place after ≡ Some one.number) names
all_same rows after [] same h = tt
all_same rows after (one ∷ names) same h = (same one.place ∙ h.0, all_same rows after names same h.1)

pub indexed_same : (rows after : List Row) (names : List Named) → ((j : ℕ) → number_at j after ≡ number_at j rows) → IsIndexed rows names → IsIndexed after names
indexed_same rows after names same h = record {
  rising = h.rising;
  sound = all_same rows after names same h.sound;
  complete = λ place number is. h.complete place number (sym (same place) ∙ is);
}

-- ---- one more name

found_push_old : (number place : ℕ) (names : List Named) (one : Named) → found number names ≡ Some place → found number (names ++ one ∷ []) ≡ Some place
found_push_old number place [] one is = cc
found_push_old number place (first ∷ names) one is = elim (cases_eq first.number number) [
  | inl same ↦ let e : eqb first.number number ≡ true = eq-eqb first.number number same in let is' : Some first.place ≡ Some place = rw e at is in rw e is'
  | inr other ↦ let e : eqb first.number number ≡ false = ne_eqb first.number number other in let is' : found number names ≡ Some place = rw e at is in rw e (found_push_old number place names one is')
]

found_push_new : (names : List Named) (one : Named) → AllByRecursion (λ old. old.number < one.number) names → found one.number (names ++ one ∷ []) ≡ Some one.place
found_push_new [] one below = let e : eqb one.number one.number ≡ true = eq-eqb one.number one.number refl in rw e refl
found_push_new (first ∷ names) one below = let e : eqb first.number one.number ≡ false = ne_eqb first.number one.number (λ same. omega (arith, below.0)) in rw e (found_push_new names one below.1)

above_push : (floor : ℕ) (names : List Named) (one : Named) → IsAbove floor (map number_of names) → floor < one.number → IsAbove floor (map number_of (names ++ one ∷ []))
above_push floor [] one h below = (below, tt)
above_push floor (first ∷ names) one h below = (h.0, above_push floor names one h.1 below)

rises_push : (names : List Named) (one : Named) → Rises (map number_of names) → AllByRecursion (λ old. old.number < one.number) names → Rises (map number_of (names ++ one ∷ []))
rises_push [] one h below = (tt, tt)
rises_push (first ∷ names) one h below = (above_push first.number names one h.0 below.0, rises_push names one h.1 below.1)

-- a living number is below what is above all of them
below_at : (number : ℕ) (rows : List Row) (k living : ℕ) → AllByRecursion (IsBelow number) rows → number_at k rows ≡ Some living → living < number
below_at number [] k living h is = cc
below_at number (row ∷ rows) zero living h is = let here : IfSome (Some living) (λ n. n < number) = subst (λ (o : Option ℕ). IfSome o (λ n. n < number)) is h.0 in here
below_at number (row ∷ rows) (suc k) living h is = below_at number rows k living h.1 is

names_below : (number : ℕ) (rows : List Row) (names : List Named) → AllByRecursion (IsBelow number) rows → AllByRecursion (λ one. number_at one.place rows ≡ Some one.number) names → AllByRecursion (λ old. old.number < number) names
names_below number rows [] below h = tt
names_below number rows (one ∷ names) below h = (below_at number rows one.place one.number below h.0, names_below number rows names below h.1)

sound_push : (rows : List Row) (k : ℕ) (y : Row) (names : List Named) (one : Named) → number_at k rows ≡ None → number_at one.place (set rows k y) ≡ Some one.number → AllByRecursion (λ old. number_at old.place rows ≡ Some old.number) names → AllByRecursion (λ old. number_at old.place (set rows k y) ≡ Some old.number) (names ++ one ∷ [])
sound_push rows k y [] one none new h = (new, tt)
sound_push rows k y (first ∷ names) one none new h =
    let other : first.place ≢ k = λ same. let e : Some first.number ≡ None = sym h.0 ∙ ap (λ j. number_at j rows) same ∙ none in cc in
    (number_at-set_other rows k first.place y other ∙ h.0, sound_push rows k y names one none new h.1)

-- a call that wasn't outstanding gets a number above all others
pub indexed_sent : (rows : List Row) (names : List Named) (k : ℕ) (y : Row) (one : Named) → one.place ≡ k → k < length rows → number_at k rows ≡ None → number_in y.progress ≡ Some one.number → AllByRecursion (IsBelow one.number) rows → IsIndexed rows names → IsIndexed (set rows k y) (names ++ one ∷ [])
indexed_sent rows names k y one at within none is below h =
    let all_below = names_below one.number rows names below h.sound in
    let new : number_at k (set rows k y) ≡ Some one.number = number_at-set_same rows k y within ∙ is in
    record {
      rising = rises_push names one h.rising all_below;
      sound = sound_push rows k y names one none (ap (λ j. number_at j (set rows k y)) at ∙ new) h.sound;
      complete = λ place number told. elim (cases_eq place k) [
        | inl same ↦
            let number_is : Some one.number ≡ Some number = sym new ∙ (ap (λ j. number_at j (set rows k y)) (sym same) ∙ told) in
            let number_same : one.number ≡ number = cc in
            let place_same : one.place ≡ place = at ∙ sym same in
            subst (λ (n : ℕ). found n (names ++ one ∷ []) ≡ Some place) number_same (found_push_new names one all_below ∙ ap Some place_same)
        | inr other ↦ found_push_old number place names one (h.complete place number (sym (number_at-set_other rows k place y other) ∙ told))
      ];
    }

-- ---- one name less

found_without : (number other : ℕ) (names : List Named) → other ≢ number → found other (without number names) ≡ found other names
found_without number other [] apart = refl
found_without number other (one ∷ names) apart = elim (cases_eq one.number number) [
  | inl same ↦
      let e : eqb one.number number ≡ true = eq-eqb one.number number same in
      let f : eqb one.number other ≡ false = ne_eqb one.number other (λ is. apart (sym is ∙ same)) in
      rw (e, f) refl
  | inr differs ↦
      let e : eqb one.number number ≡ false = ne_eqb one.number number differs in
      elim (cases_eq one.number other) [
        | inl is ↦ let f : eqb one.number other ≡ true = eq-eqb one.number other is in rw (e, f) refl
        | inr isnt ↦ let f : eqb one.number other ≡ false = ne_eqb one.number other isnt in rw (e, f) (found_without number other names apart)
      ]
]

above_without : (floor number : ℕ) (names : List Named) → IsAbove floor (map number_of names) → IsAbove floor (map number_of (without number names))
above_without floor number [] h = tt
above_without floor number (one ∷ names) h = elim (cases_eq one.number number) [
  | inl same ↦ let e : eqb one.number number ≡ true = eq-eqb one.number number same in rw e h.1
  | inr other ↦ let e : eqb one.number number ≡ false = ne_eqb one.number number other in rw e (h.0, above_without floor number names h.1)
]

rises_without : (number : ℕ) (names : List Named) → Rises (map number_of names) → Rises (map number_of (without number names))
rises_without number [] h = tt
rises_without number (one ∷ names) h = elim (cases_eq one.number number) [
  | inl same ↦ let e : eqb one.number number ≡ true = eq-eqb one.number number same in rw e h.1
  | inr other ↦ let e : eqb one.number number ≡ false = ne_eqb one.number number other in rw e (above_without one.number number names h.0, rises_without number names h.1)
]

-- the others' rows are as they were
sound_above : (rows : List Row) (k number : ℕ) (y : Row) (names : List Named) → number_at k rows ≡ Some number → IsAbove number (map number_of names) → AllByRecursion (λ one. number_at one.place rows ≡ Some one.number) names → AllByRecursion (λ one. number_at one.place (set rows k y) ≡ Some one.number) names
sound_above rows k number y [] own above h = tt
sound_above rows k number y (one ∷ names) own above h =
    let other : one.place ≢ k = λ same. let e : Some one.number ≡ Some number = sym h.0 ∙ (ap (λ j. number_at j rows) same ∙ own) in let f : one.number ≡ number = cc in absurd (omega (arith, above.0, f)) in
    (number_at-set_other rows k one.place y other ∙ h.0, sound_above rows k number y names own above.1 h.1)

sound_without : (rows : List Row) (k number : ℕ) (y : Row) (names : List Named) → number_at k rows ≡ Some number → Rises (map number_of names) → AllByRecursion (λ one. number_at one.place rows ≡ Some one.number) names → AllByRecursion (λ one. number_at one.place (set rows k y) ≡ Some one.number) (without number names)
sound_without rows k number y [] own rises h = tt
sound_without rows k number y (one ∷ names) own rises h = elim (cases_eq one.number number) [
  | inl same ↦
      let e : eqb one.number number ≡ true = eq-eqb one.number number same in
      rw e (sound_above rows k number y names own (subst (λ (n : ℕ). IsAbove n (map number_of names)) same rises.0) h.1)
  | inr differs ↦
      let e : eqb one.number number ≡ false = ne_eqb one.number number differs in
      let other : one.place ≢ k = λ same. let e : Some one.number ≡ Some number = sym h.0 ∙ (ap (λ j. number_at j rows) same ∙ own) in let f : one.number ≡ number = cc in differs f in
      rw e (number_at-set_other rows k one.place y other ∙ h.0, sound_without rows k number y names own rises.1 h.1)
]

-- a call isn't outstanding any more
pub indexed_settled : (rows : List Row) (names : List Named) (k : ℕ) (y : Row) (own : Option ℕ) → k < length rows → number_at k rows ≡ own → number_in y.progress ≡ None → IsIndexed rows names → IsIndexed (set rows k y) (without_own own names)
indexed_settled rows names k y None within own none h = indexed_same rows (set rows k y) names (λ j. number_at-set rows k j y (none ∙ sym own)) h
indexed_settled rows names k y (Some number) within own none h = record {
  rising = rises_without number names h.rising;
  sound = sound_without rows k number y names own h.rising h.sound;
  complete = λ place other told. elim (cases_eq place k) [
    | inl same ↦
        let e : Some other ≡ None = sym told ∙ (ap (λ j. number_at j (set rows k y)) same ∙ (number_at-set_same rows k y within ∙ none)) in cc
    | inr differs ↦
        let was : number_at place rows ≡ Some other = sym (number_at-set_other rows k place y differs) ∙ told in
        let apart : other ≢ number = λ is.
        let e : Some place ≡ Some k = sym (h.complete place other was) ∙ (ap (λ n. found n names) is ∙ h.complete k number own) in
        let f : place ≡ k = cc in
        differs f in
        found_without number other names apart ∙ h.complete place other was
  ];
}

-- ---- the owner of a number

is_number_yes : (number : ℕ) (own : Option ℕ) → own ≡ Some number → is_number number own ≡ true
is_number_yes number own is = let e : eqb number number ≡ true = eq-eqb number number refl in ap (is_number number) is ∙ e

is_number_no : (number : ℕ) (own : Option ℕ) → own ≢ Some number → is_number number own ≡ false
is_number_no number None isnt = refl
is_number_no number (Some own) isnt = ne_eqb own number (λ same. isnt (ap Some same))

none_first : (number first : ℕ) (rows : List Row) → ((k : ℕ) → number_at k rows ≢ Some number) → first_from (λ row. is_number number (number_in row.progress)) first rows ≡ None
none_first number first [] none = refl
none_first number first (row ∷ rows) none =
    let e : is_number number (number_in row.progress) ≡ false = is_number_no number (number_in row.progress) (none 0) in
    rw e (none_first number (first + 1) rows (λ k. none (suc k)))

first_at : (number first : ℕ) (rows : List Row) (k place : ℕ) → place ≡ first + k → number_at k rows ≡ Some number → ((j : ℕ) → number_at j rows ≡ Some number → j ≡ k) → first_from (λ row. is_number number (number_in row.progress)) first rows ≡ Some place
first_at number first [] k place at is alone = cc
first_at number first (row ∷ rows) zero place at is alone =
    let e : is_number number (number_in row.progress) ≡ true = is_number_yes number (number_in row.progress) is in
    rw e (ap Some (omega arith))
first_at number first (row ∷ rows) (suc k) place at is alone =
    let e : is_number number (number_in row.progress) ≡ false = is_number_no number (number_in row.progress) (λ here. let f : 0 ≡ suc k = alone 0 here in absurd (omega arith)) in
    rw e (first_at number (first + 1) rows k place (omega arith) is (λ j told. let f : suc j ≡ suc k = alone (suc j) told in omega arith))

pub number_found : (rows : List Row) (names : List Named) (number place : ℕ) → AllByRecursion (λ one. number_at one.place rows ≡ Some one.number) names → found number names ≡ Some place → number_at place rows ≡ Some number
number_found rows [] number place h is = cc
number_found rows (one ∷ names) number place h is = elim (cases_eq one.number number) [
  | inl same ↦
      let e : eqb one.number number ≡ true = eq-eqb one.number number same in
      let here : Some one.place ≡ Some place = rw e at is in
      let at : one.place ≡ place = cc in
      ap (λ j. number_at j rows) (sym at) ∙ (h.0 ∙ ap Some same)
  | inr other ↦
      let e : eqb one.number number ≡ false = ne_eqb one.number number other in
      let rest : found number names ≡ Some place = rw e at is in
      number_found rows names number place h.1 rest
]

-- what is found is the first row of that number
pub found_is_first : (rows : List Row) (names : List Named) (number : ℕ) (own : Option ℕ) → IsIndexed rows names → own ≡ found number names → own ≡ first_from (λ row. is_number number (number_in row.progress)) 0 rows
found_is_first rows names number None h is = sym (none_first number 0 rows (λ k told. let e : None ≡ Some k = is ∙ h.complete k number told in cc))
found_is_first rows names number (Some place) h is =
    sym (first_at number 0 rows place place (omega arith) (number_found rows names number place h.sound (sym is)) (λ j told. let e : Some place ≡ Some j = is ∙ h.complete j number told in let f : place ≡ j = cc in sym f))

-- ---- what is above every living number

-- the last one is below, and so all are
pub all_below_last : (number : ℕ) (names : List Named) (k : ℕ) (d : Named) → Rises (map number_of names) → length names ≡ suc k → (get_or names k d).number < number → AllByRecursion (λ one. one.number < number) names
all_below_last number [] k d rises long below = tt
all_below_last number (one ∷ []) zero d rises long below = (below, tt)
all_below_last number (one ∷ []) (suc k) d rises long below = absurd (omega arith)
all_below_last number (one ∷ (two ∷ names)) zero d rises long below = absurd (omega arith)
all_below_last number (one ∷ (two ∷ names)) (suc k) d rises long below =
    let rest = all_below_last number (two ∷ names) k d rises.1 (omega arith) below in
    (omega (arith, rises.0.0, rest.0), rest)

pub below_each : (number : ℕ) (names : List Named) (k : ℕ) (d : Named) → k < length names → AllByRecursion (λ one. one.number < number) names → (get_or names k d).number < number
below_each number [] k d within h = absurd (omega arith)
below_each number (one ∷ names) zero d within h = h.0
below_each number (one ∷ names) (suc k) d within h = below_each number names k d (omega arith) h.1

found_below : (number : ℕ) (names : List Named) (own place : ℕ) → AllByRecursion (λ one. one.number < number) names → found own names ≡ Some place → own < number
found_below number [] own place h is = cc
found_below number (one ∷ names) own place h is = elim (cases_eq one.number own) [
  | inl same ↦ omega (arith, h.0)
  | inr other ↦
      let e : eqb one.number own ≡ false = ne_eqb one.number own other in
      let rest : found own names ≡ Some place = rw e at is in
      found_below number names own place h.1 rest
]

own_below : (number : ℕ) (own : Option ℕ) → ((n : ℕ) → own ≡ Some n → n < number) → IfSome own (λ living. living < number)
own_below number None h = tt
own_below number (Some n) h = h n refl

rows_below : (number : ℕ) (rows : List Row) → ((k n : ℕ) → number_at k rows ≡ Some n → n < number) → AllByRecursion (IsBelow number) rows
rows_below number [] h = tt
rows_below number (row ∷ rows) h = (own_below number (number_in row.progress) (λ n is. h 0 n is), rows_below number rows (λ k n is. h (suc k) n is))

-- all names are below where all living numbers are
pub names_are_below : (number : ℕ) (rows : List Row) (names : List Named) → IsIndexed rows names → AllByRecursion (IsBelow number) rows → AllByRecursion (λ one. one.number < number) names
names_are_below number rows names h below = names_below number rows names below h.sound

pub rows_are_below : (number : ℕ) (rows : List Row) (names : List Named) → IsIndexed rows names → AllByRecursion (λ one. one.number < number) names → AllByRecursion (IsBelow number) rows
rows_are_below number rows names h below = rows_below number rows (λ k n is. found_below number names n k below (h.complete k n is))
