-- What is put into ascending lists, and what stays in order.
use Rattle.std.proofs.Common.{◌≡◌, ◌≢◌, ◌∙◌, ℕ, suc, ◌<◌, ◌≤◌, true, false, ◌&&◌, ltb, eqb, Option, Some, None, List, [], ◌∷◌, map, length, ap, refl, sym, inl, inr, arith}
use Rattle.std.specs.List.{list_any, filter_map, cons_option}
use Rattle.std.proofs.lemmas.Bool.{cases_lt, cases_eq, lt-ltb, le-ltb, ltb-false, eq-eqb, ne_eqb, or_parts}
use Rattle.id_window.specs.declared.rows.Row.{Row}
use Rattle.id_window.specs.declared.rows.Accepted.{Accepted}
use Rattle.id_window.specs.History.{inserted}
use Rattle.id_window.specs.Crossing.{is_past, is_short, makes_low, makes_high}
use Rattle.msg_ids.specs.Counters.{is_odd}
use Rattle.id_window.specs.Window.{IsAbove, Rises, IsFrom, SeqsNeverFall, mark_in}
use Rattle.id_window.proofs.PlaceLemmas.{row_number, accepted_key, above_lower}

-- the number is none of these
abbrev pub Absent : ℕ → List ℕ → Type 0
Absent number [] = Unit {0}
Absent number (first ∷ others) = (first ≢ number) × Absent number others

-- no number is below this one
abbrev pub NoneBelow : ℕ → List ℕ → Type 0
NoneBelow least [] = Unit {0}
NoneBelow least (first ∷ others) = (least ≤ first) × NoneBelow least others

pub none_below_above : (least floor : ℕ) (numbers : List ℕ) → least ≤ floor → IsAbove floor numbers → NoneBelow least numbers
none_below_above least floor [] le above = tt
none_below_above least floor (n ∷ ns) le above = (omega (arith, above.0), none_below_above least floor ns le above.1)

-- a number without a mark is in no row
pub absent_from_mark : (number : ℕ) (rows : List Row) → mark_in number rows ≡ None → Absent number (map row_number rows)
absent_from_mark number [] none = tt
absent_from_mark number (row ∷ rows) none = elim (cases_eq row.number number) [
  | inl same ↦ let e : eqb row.number number ≡ true = eq-eqb row.number number same in let found : Some row.mark ≡ None = rw e at none in absurd (cc)
  | inr other ↦ let e : eqb row.number number ≡ false = ne_eqb row.number number other in let rest : mark_in number rows ≡ None = rw e at none in (other, absent_from_mark number rows rest)
]

-- ---- what is put in

module _ {X : Type 0} (key : X → ℕ) where
  pub length-inserted : (x : X) (xs : List X) → length (inserted key x xs) ≡ suc (length xs)
  length-inserted x [] = refl
  length-inserted x (y ∷ ys) = elim (cases_lt (key y) (key x)) [
    | inl below ↦ let e : ltb (key y) (key x) ≡ true = lt-ltb (key y) (key x) below in rw e (ap suc (length-inserted x ys))
    | inr above ↦ let e : ltb (key y) (key x) ≡ false = le-ltb (key y) (key x) above in rw e refl
  ]

  -- it goes first where none is below it
  pub inserted_first : (x : X) (xs : List X) → NoneBelow (key x) (map key xs) → inserted key x xs ≡ x ∷ xs
  inserted_first x [] none = refl
  inserted_first x (y ∷ ys) none = let e : ltb (key y) (key x) ≡ false = le-ltb (key y) (key x) none.0 in rw e refl

  pub inserted_later : (x y : X) (ys : List X) → key y < key x → inserted key x (y ∷ ys) ≡ y ∷ inserted key x ys
  inserted_later x y ys below = let e : ltb (key y) (key x) ≡ true = lt-ltb (key y) (key x) below in rw e refl

  above_inserted : (floor : ℕ) (x : X) (xs : List X) → floor < key x → IsAbove floor (map key xs) → IsAbove floor (map key (inserted key x xs))
  above_inserted floor x [] lt above = (lt, tt)
  above_inserted floor x (y ∷ ys) lt above = elim (cases_lt (key y) (key x)) [
    | inl below ↦ rw (inserted_later x y ys below) (above.0, above_inserted floor x ys lt above.1)
    | inr over ↦ let e : ltb (key y) (key x) ≡ false = le-ltb (key y) (key x) over in rw e (lt, above)
  ]

  -- what rises still does
  pub rises_inserted : (x : X) (xs : List X) → Absent (key x) (map key xs) → Rises (map key xs) → Rises (map key (inserted key x xs))
  rises_inserted x [] absent rises = (tt, tt)
  rises_inserted x (y ∷ ys) absent rises = elim (cases_lt (key y) (key x)) [
    | inl below ↦ rw (inserted_later x y ys below) (above_inserted (key y) x ys below rises.0, rises_inserted x ys absent.1 rises.1)
    | inr over ↦
        let more : key x < key y = omega (arith, absent.0) in
        let e : ltb (key y) (key x) ≡ false = le-ltb (key y) (key x) over in
        rw e ((more, above_lower (key x) (key y) (map key ys) over rises.0), rises)
  ]

  pub rises_from_floor : (floor : ℕ) (x : X) (xs : List X) → floor < key x → Absent (key x) (map key xs) → Rises (floor ∷ map key xs) → Rises (floor ∷ map key (inserted key x xs))
  rises_from_floor floor x xs lt absent rises = (above_inserted floor x xs lt rises.0, rises_inserted x xs absent rises.1)

-- ---- a part of what is put in

abbrev pub option_inserted : {Y : Type 0} → (Y → ℕ) → Option Y → List Y → List Y
option_inserted key None ys = ys
option_inserted key (Some y) ys = inserted key y ys

module _ {X Y : Type 0} (key : X → ℕ) (part_key : Y → ℕ) (part : X → Option Y) (same : (x : X) (y : Y) → part x ≡ Some y → part_key y ≡ key x) where
  -- the parts of what isn't below a number aren't either
  none_below_parts : (least : ℕ) (xs : List X) → NoneBelow least (map key xs) → NoneBelow least (map part_key (filter_map part xs))
  none_below_parts least [] none = tt
  none_below_parts least (x ∷ xs) none = none_below_cons least (part x) (filter_map part xs) (λ y e. omega (arith, same x y e, none.0)) (none_below_parts least xs none.1)
    where
      none_below_cons : (least : ℕ) (o : Option Y) (ys : List Y) → ((y : Y) → o ≡ Some y → least ≤ part_key y) → NoneBelow least (map part_key ys) → NoneBelow least (map part_key (cons_option o ys))
      none_below_cons least None ys first rest = rest
      none_below_cons least (Some y) ys first rest = (first y refl, rest)

  above_parts : (floor : ℕ) (xs : List X) → IsAbove floor (map key xs) → IsAbove floor (map part_key (filter_map part xs))
  above_parts floor [] above = tt
  above_parts floor (x ∷ xs) above = above_cons (part x) (filter_map part xs) (λ y e. omega (arith, same x y e, above.0)) (above_parts floor xs above.1)
    where
      above_cons : (o : Option Y) (ys : List Y) → ((y : Y) → o ≡ Some y → floor < part_key y) → IsAbove floor (map part_key ys) → IsAbove floor (map part_key (cons_option o ys))
      above_cons None ys first rest = rest
      above_cons (Some y) ys first rest = (first y refl, rest)

  -- the parts of what rises rise
  pub rises_parts : (xs : List X) → Rises (map key xs) → Rises (map part_key (filter_map part xs))
  rises_parts [] rises = tt
  rises_parts (x ∷ xs) rises = rises_cons (part x) (filter_map part xs) (λ y e. above_parts (part_key y) xs (let k : part_key y ≡ key x = same x y e in rw k rises.0)) (rises_parts xs rises.1)
    where
      rises_cons : (o : Option Y) (ys : List Y) → ((y : Y) → o ≡ Some y → IsAbove (part_key y) (map part_key ys)) → Rises (map part_key ys) → Rises (map part_key (cons_option o ys))
      rises_cons None ys first rest = rest
      rises_cons (Some y) ys first rest = (first y refl, rest)

  pub absent_parts : (number : ℕ) (xs : List X) → Absent number (map key xs) → Absent number (map part_key (filter_map part xs))
  absent_parts number [] absent = tt
  absent_parts number (x ∷ xs) absent = absent_cons (part x) (filter_map part xs) (λ y e p. absent.0 (sym (same x y e) ∙ p)) (absent_parts number xs absent.1)
    where
      absent_cons : (o : Option Y) (ys : List Y) → ((y : Y) → o ≡ Some y → part_key y ≢ number) → Absent number (map part_key ys) → Absent number (map part_key (cons_option o ys))
      absent_cons None ys first rest = rest
      absent_cons (Some y) ys first rest = (first y refl, rest)

  -- the part of what is put in is put in
  pub parts_inserted : (x : X) (xs : List X) → Rises (map key xs) → filter_map part (inserted key x xs) ≡ option_inserted part_key (part x) (filter_map part xs)
  parts_inserted x [] rises = elim (part x) as (λ o. cons_option o [] ≡ option_inserted part_key o []) [ None ↦ refl | Some y ↦ refl ]
  parts_inserted x (z ∷ zs) rises = elim (cases_lt (key z) (key x)) [
    | inl below ↦ rw (inserted_later key x z zs below) (ap (cons_option (part z)) (parts_inserted x zs rises.1) ∙ behind (part x) (part z) (filter_map part zs) (λ y w e f. omega (arith, same x y e, same z w f)))
    | inr above ↦
        let e : ltb (key z) (key x) ≡ false = le-ltb (key z) (key x) above in
        rw e (before (part x) (filter_map part (z ∷ zs)) (λ y e. none_below_parts (part_key y) (z ∷ zs) (omega (arith, same x y e), none_below_above (part_key y) (key z) (map key zs) (omega (arith, same x y e)) rises.0)))
  ]
    where
      behind : (o q : Option Y) (ys : List Y) → ((y w : Y) → o ≡ Some y → q ≡ Some w → part_key w < part_key y) → cons_option q (option_inserted part_key o ys) ≡ option_inserted part_key o (cons_option q ys)
      behind None q ys lt = refl
      behind (Some y) None ys lt = refl
      behind (Some y) (Some w) ys lt = sym (inserted_later part_key y w ys (lt y w refl refl))

      before : (o : Option Y) (ys : List Y) → ((y : Y) → o ≡ Some y → NoneBelow (part_key y) (map part_key ys)) → cons_option o ys ≡ option_inserted part_key o ys
      before None ys none = refl
      before (Some y) ys none = sym (inserted_first part_key y ys (none y refl))

-- what is put into the numbers
pub numbers_inserted : {X : Type 0} (key : X → ℕ) (x : X) (xs : List X) → map key (inserted key x xs) ≡ inserted (λ number. number) (key x) (map key xs)
numbers_inserted key x [] = refl
numbers_inserted key x (y ∷ ys) = elim (cases_lt (key y) (key x)) [
  | inl below ↦ let e : ltb (key y) (key x) ≡ true = lt-ltb (key y) (key x) below in rw e (ap (λ ns. key y ∷ ns) (numbers_inserted key x ys))
  | inr above ↦ let e : ltb (key y) (key x) ≡ false = le-ltb (key y) (key x) above in rw e refl
]

-- ---- the seqs of what is put in

pub from_lower : (low high : ℕ) (xs : List Accepted) → low ≤ high → IsFrom high xs → IsFrom low xs
from_lower low high [] le from = tt
from_lower low high (x ∷ xs) le from = (omega (arith, from.0), from_lower low high xs le from.1)

from_inserted : (seq : ℕ) (x : Accepted) (xs : List Accepted) → seq ≤ x.seq → IsFrom seq xs → IsFrom seq (inserted accepted_key x xs)
from_inserted seq x [] le from = (le, tt)
from_inserted seq x (y ∷ ys) le from = elim (cases_lt y.number x.number) [
  | inl below ↦ rw (inserted_later accepted_key x y ys below) (from.0, from_inserted seq x ys le from.1)
  | inr above ↦ let e : ltb y.number x.number ≡ false = le-ltb y.number x.number above in rw e (le, from)
]

-- a lower one isn't past it, a higher one isn't short of it
not_past : (number seq : ℕ) (x : Accepted) → x.number < number → makes_low number seq x ≡ false → x.seq ≤ seq
not_past number seq x below apart =
    let e : ltb x.number number ≡ true = lt-ltb x.number number below in
    let none : is_past seq x.seq ≡ false = rw e at apart in
    ltb-false seq x.seq (or_parts (ltb seq x.seq) (eqb x.seq seq && is_odd x.seq) none).0

not_short : (number seq : ℕ) (x : Accepted) → number < x.number → makes_high number seq x ≡ false → seq ≤ x.seq
not_short number seq x above apart =
    let e : ltb number x.number ≡ true = lt-ltb number x.number above in
    let none : is_short seq x.seq ≡ false = rw e at apart in
    ltb-false x.seq seq (or_parts (ltb x.seq seq) (eqb x.seq seq && is_odd x.seq) none).0

pub seqs_inserted : (number seq : ℕ) (xs : List Accepted) → list_any (makes_low number seq) xs ≡ false → list_any (makes_high number seq) xs ≡ false → Absent number (map accepted_key xs) → SeqsNeverFall xs → SeqsNeverFall (inserted accepted_key (record { number = number; seq = seq }) xs)
seqs_inserted number seq [] low high absent falls = (tt, tt)
seqs_inserted number seq (x ∷ xs) low high absent falls =
    let lows = or_parts (makes_low number seq x) (list_any (makes_low number seq) xs) low in
    let highs = or_parts (makes_high number seq x) (list_any (makes_high number seq) xs) high in
    let new : Accepted = record { number = number; seq = seq } in
    elim (cases_lt x.number number) [
      | inl below ↦ rw (inserted_later accepted_key new x xs below) (from_inserted x.seq new xs (not_past number seq x below lows.0) falls.0, seqs_inserted number seq xs lows.1 highs.1 absent.1 falls.1)
      | inr above ↦
          let le : seq ≤ x.seq = not_short number seq x (omega (arith, absent.0)) highs.0 in
          let e : ltb x.number number ≡ false = le-ltb x.number number above in
          rw e ((le, from_lower seq x.seq xs le falls.0), falls)
    ]
