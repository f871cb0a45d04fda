-- What crosses an accepted message crosses a neighbour, since the seqs never fall.
use Rattle.std.proofs.Common.{◌≡◌, ◌∙◌, ℕ, ◌≤◌, Bool, true, false, ◌||◌, ◌&&◌, ltb, eqb, Some, None, List, [], ◌∷◌, map, refl, sym, inl, inr, arith}
use Rattle.std.specs.List.{list_any}
use Rattle.std.proofs.lemmas.Bool.{cases_lt, cases_Bool, lt-ltb, le-ltb, ltb-true, eqb-true, and_parts, or_cases, or_left}
use Rattle.id_window.specs.declared.rows.Accepted.{Accepted}
use Rattle.id_window.specs.declared.cross.Cross.TheVariants.{None as Apart, Low, High}
use Rattle.id_window.specs.Crossing.{is_past, is_short, makes_low, makes_high, crossing}
use Rattle.msg_ids.specs.Counters.{is_odd}
use Rattle.id_window.specs.Window.{IsAbove, Rises, IsFrom, SeqsNeverFall}
use Rattle.id_window.specs.Places.{last_below, first_above, is_some_past, is_some_short}
use Rattle.id_window.proofs.PlaceLemmas.{accepted_key}

-- ---- tests joined by "or"

or_false : (a : Bool) → (a || false) ≡ a
or_false true = refl
or_false false = refl

or_later : (a b c : Bool) → (a ≡ true → b ≡ true) → (a || (b || c)) ≡ (b || c)
or_later true b c since = sym (or_left b c (since refl))
or_later false b c since = refl

or_earlier : (a c : Bool) → (c ≡ true → a ≡ true) → (a || c) ≡ a
or_earlier a true since = let e : a ≡ true = since refl in rw e refl
or_earlier a false since = or_false a

-- ---- a greater seq is past what a lower one is past, a lower one is short of what a greater one is short of

pub is_past-greater : (seq p q : ℕ) → p ≤ q → is_past seq p ≡ true → is_past seq q ≡ true
is_past-greater seq p q le past = elim (cases_lt seq q) [
  | inl below ↦ or_left (ltb seq q) (eqb q seq && is_odd q) (lt-ltb seq q below)
  | inr above ↦ elim (or_cases (ltb seq p) (eqb p seq && is_odd p) past) [
    | inl more ↦ absurd (omega (arith, ltb-true seq p more))
    | inr same ↦ let e : q ≡ p = omega (arith, eqb-true p seq (and_parts (eqb p seq) (is_odd p) same).0) in rw e past
  ]
]

pub is_short-lower : (seq p q : ℕ) → p ≤ q → is_short seq q ≡ true → is_short seq p ≡ true
is_short-lower seq p q le short = elim (cases_lt p seq) [
  | inl below ↦ or_left (ltb p seq) (eqb p seq && is_odd p) (lt-ltb p seq below)
  | inr above ↦ elim (or_cases (ltb q seq) (eqb q seq && is_odd q) short) [
    | inl less ↦ absurd (omega (arith, ltb-true q seq less))
    | inr same ↦ let e : p ≡ q = omega (arith, eqb-true q seq (and_parts (eqb q seq) (is_odd q) same).0) in rw e short
  ]
]

-- ---- the lower neighbour

no_low_above : (number seq floor : ℕ) (xs : List Accepted) → number ≤ floor → IsAbove floor (map accepted_key xs) → list_any (makes_low number seq) xs ≡ false
no_low_above number seq floor [] le above = refl
no_low_above number seq floor (x ∷ xs) le above =
    let e : ltb x.number number ≡ false = le-ltb x.number number (omega (arith, above.0)) in
    rw e (no_low_above number seq floor xs le above.1)

low_behind : (number seq : ℕ) (one : Accepted) (xs : List Accepted) → Rises (map accepted_key xs) → SeqsNeverFall xs → IsFrom one.seq xs → (is_past seq one.seq || list_any (makes_low number seq) xs) ≡ is_some_past seq (last_below number xs (Some one))
low_behind number seq one [] rises falls from = or_false (is_past seq one.seq)
low_behind number seq one (x ∷ xs) rises falls from = elim (cases_lt x.number number) [
  | inl below ↦
      let e : ltb x.number number ≡ true = lt-ltb x.number number below in
      rw e (or_later (is_past seq one.seq) (is_past seq x.seq) (list_any (makes_low number seq) xs) (is_past-greater seq one.seq x.seq from.0)
      ∙ low_behind number seq x xs rises.1 falls.1 falls.0)
  | inr above ↦
      let e : ltb x.number number ≡ false = le-ltb x.number number above in
      let none : list_any (makes_low number seq) xs ≡ false = no_low_above number seq x.number xs above rises.0 in
      rw (e, none) (or_false (is_past seq one.seq))
]

pub low_at_neighbour : (number seq : ℕ) (xs : List Accepted) → Rises (map accepted_key xs) → SeqsNeverFall xs → list_any (makes_low number seq) xs ≡ is_some_past seq (last_below number xs None)
low_at_neighbour number seq [] rises falls = refl
low_at_neighbour number seq (x ∷ xs) rises falls = elim (cases_lt x.number number) [
  | inl below ↦ let e : ltb x.number number ≡ true = lt-ltb x.number number below in rw e (low_behind number seq x xs rises.1 falls.1 falls.0)
  | inr above ↦
      let e : ltb x.number number ≡ false = le-ltb x.number number above in
      rw e (no_low_above number seq x.number xs above rises.0)
]

-- ---- the upper neighbour

short_before : (number seq least : ℕ) (xs : List Accepted) → IsFrom least xs → list_any (makes_high number seq) xs ≡ true → is_short seq least ≡ true
short_before number seq least [] from high = absurd (cc)
short_before number seq least (x ∷ xs) from high = elim (or_cases (makes_high number seq x) (list_any (makes_high number seq) xs) high) [
  | inl here ↦ is_short-lower seq least x.seq from.0 (and_parts (ltb number x.number) (is_short seq x.seq) here).1
  | inr later ↦ short_before number seq least xs from.1 later
]

pub high_at_neighbour : (number seq : ℕ) (xs : List Accepted) → SeqsNeverFall xs → list_any (makes_high number seq) xs ≡ is_some_short seq (first_above number xs)
high_at_neighbour number seq [] falls = refl
high_at_neighbour number seq (x ∷ xs) falls = elim (cases_lt number x.number) [
  | inl below ↦ let e : ltb number x.number ≡ true = lt-ltb number x.number below in rw e (or_earlier (is_short seq x.seq) (list_any (makes_high number seq) xs) (short_before number seq x.seq xs falls.0))
  | inr above ↦ let e : ltb number x.number ≡ false = le-ltb number x.number above in rw e (high_at_neighbour number seq xs falls.1)
]

-- ---- the answers

module _ (number seq : ℕ) (xs : List Accepted) (rises : Rises (map accepted_key xs)) (falls : SeqsNeverFall xs) where
  pub low_there : is_some_past seq (last_below number xs None) ≡ true → Low ≡ crossing number seq xs
  low_there past = let e : list_any (makes_low number seq) xs ≡ true = low_at_neighbour number seq xs rises falls ∙ past in rw e refl

  pub high_there : is_some_past seq (last_below number xs None) ≡ false → is_some_short seq (first_above number xs) ≡ true → High ≡ crossing number seq xs
  high_there past short =
      let e : list_any (makes_low number seq) xs ≡ false = low_at_neighbour number seq xs rises falls ∙ past in
      let f : list_any (makes_high number seq) xs ≡ true = high_at_neighbour number seq xs falls ∙ short in
      rw (e, f) refl

  pub apart_there : is_some_past seq (last_below number xs None) ≡ false → is_some_short seq (first_above number xs) ≡ false → Apart ≡ crossing number seq xs
  apart_there past short =
      let e : list_any (makes_low number seq) xs ≡ false = low_at_neighbour number seq xs rises falls ∙ past in
      let f : list_any (makes_high number seq) xs ≡ false = high_at_neighbour number seq xs falls ∙ short in
      rw (e, f) refl

-- ---- what doesn't cross

pub none_low : (number seq : ℕ) (xs : List Accepted) → crossing number seq xs ≡ Apart → list_any (makes_low number seq) xs ≡ false
none_low number seq xs apart = elim (cases_Bool (list_any (makes_low number seq) xs)) [
  | inl low ↦ let wrong : Low ≡ Apart = rw low at apart in cc
  | inr none ↦ none
]

pub none_high : (number seq : ℕ) (xs : List Accepted) → crossing number seq xs ≡ Apart → list_any (makes_high number seq) xs ≡ false
none_high number seq xs apart = elim (cases_Bool (list_any (makes_high number seq) xs)) [
  | inl high ↦ let wrong : High ≡ Apart = rw (none_low number seq xs apart, high) at apart in cc
  | inr none ↦ none
]
