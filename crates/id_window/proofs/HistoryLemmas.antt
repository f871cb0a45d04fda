-- What one more judgement does to what is kept of a history.
use Rattle.std.proofs.Common.{◌≡◌, ◌≢◌, ◌∙◌, ℕ, zero, suc, ◌+◌, ◌-◌, ◌<◌, ◌≤◌, max, true, false, ltb, eqb, cond, Some, None, [], ◌∷◌, ◌++◌, fold, map, length, take, drop, get_or, ap, subst, refl, sym, inl, inr, arith, add-one}
use Rattle.std.proofs.lemmas.Bool.{cases_lt, le-ltb, eq-eqb, ne_eqb}
use Rattle.std.proofs.lemmas.Grind.{fold-append}
use Rattle.std.proofs.lemmas.List.{length-append, length-take, length-drop, take-append-drop, drop_at, drop-drop, get_or_append_left, get_or_at}
use Rattle.id_window.specs.declared.mark.Mark.{Mark}
use Rattle.id_window.specs.Marks.{Marks, mark_of, given}
use Rattle.id_window.specs.History.{History, FirstJudgement, EachOnce, inserted, ascending, greatest_among, floor, kept, forgotten}
use Rattle.id_window.proofs.OrderLemmas.{Absent, length-inserted, inserted_later}

abbrev pub judged_number : FirstJudgement → ℕ
judged_number judgement = judgement.number

-- ---- marks

pub mark_of-given : (number other : ℕ) (mark : Mark) (marks : Marks) → mark_of number (given other mark marks) ≡ cond (eqb other number) (Some mark) (mark_of number marks)
mark_of-given number other mark marks = fold-append (λ last given. cond (eqb given.0 number) (Some given.1) last) None marks ((other, mark) ∷ [])

pub mark_of-same : (number : ℕ) (mark : Mark) (marks : Marks) → mark_of number (given number mark marks) ≡ Some mark
mark_of-same number mark marks = let e : eqb number number ≡ true = eq-eqb number number refl in mark_of-given number number mark marks ∙ rw e refl

pub mark_of-other : (number other : ℕ) (mark : Mark) (marks : Marks) → number ≢ other → mark_of number (given other mark marks) ≡ mark_of number marks
mark_of-other number other mark marks ne = let e : eqb other number ≡ false = ne_eqb other number (λ p. ne (sym p)) in mark_of-given number other mark marks ∙ rw e refl

-- ---- in ascending order

abbrev pub put : History → FirstJudgement → History
put sorted judgement = inserted judged_number judgement sorted

pub ascending-more : (history : History) (j : FirstJudgement) → ascending (history ++ j ∷ []) ≡ inserted judged_number j (ascending history)
ascending-more history j = fold-append put [] history (j ∷ [])

length_from : (sorted history : History) → length (fold put sorted history) ≡ length sorted + length history
length_from sorted [] = omega arith
length_from sorted (j ∷ js) = omega (arith, length_from (put sorted j) js, length-inserted judged_number j sorted)

pub length-ascending : (history : History) → length (ascending history) ≡ length history
length-ascending history = omega (arith, length_from [] history)

greatest-inserted : (j : FirstJudgement) (js : History) → greatest_among (inserted judged_number j js) ≡ max j.number (greatest_among js)
greatest-inserted j [] = refl
greatest-inserted j (k ∷ ks) = elim (cases_lt k.number j.number) [
  | inl below ↦ rw (inserted_later judged_number j k ks below) (omega (arith, greatest-inserted j ks))
  | inr above ↦ let e : ltb k.number j.number ≡ false = le-ltb k.number j.number above in rw e refl
]

greatest_from : (sorted history : History) → greatest_among (fold put sorted history) ≡ max (greatest_among sorted) (greatest_among history)
greatest_from sorted [] = omega arith
greatest_from sorted (j ∷ js) = omega (arith, greatest_from (put sorted j) js, greatest-inserted j sorted)

pub greatest-ascending : (history : History) → greatest_among (ascending history) ≡ greatest_among history
greatest-ascending history = omega (arith, greatest_from [] history)

pub greatest-append : (first second : History) → greatest_among (first ++ second) ≡ max (greatest_among first) (greatest_among second)
greatest-append [] second = omega arith
greatest-append (j ∷ js) second = omega (arith, greatest-append js second)

absent_inserted : (number : ℕ) (j : FirstJudgement) (js : History) → Absent number (map judged_number (inserted judged_number j js)) → (j.number ≢ number) × Absent number (map judged_number js)
absent_inserted number j [] absent = absent
absent_inserted number j (k ∷ ks) absent = elim (cases_lt k.number j.number) [
  | inl below ↦
      let later : Absent number (map judged_number (k ∷ inserted judged_number j ks)) = rw (inserted_later judged_number j k ks below) at absent in
      let rest = absent_inserted number j ks later.1 in
      (rest.0, (later.0, rest.1))
  | inr above ↦ let e : ltb k.number j.number ≡ false = le-ltb k.number j.number above in rw e at absent
]

absent_from : (number : ℕ) (sorted history : History) → Absent number (map judged_number (fold put sorted history)) → Absent number (map judged_number sorted) × Absent number (map judged_number history)
absent_from number sorted [] absent = (absent, tt)
absent_from number sorted (j ∷ js) absent =
    let rest = absent_from number (put sorted j) js absent in
    let both = absent_inserted number j sorted rest.0 in
    (both.1, (both.0, rest.1))

-- ---- what is kept

pub all_of : (history : History) → forgotten history ++ kept history ≡ ascending history
unfolding kept forgotten
all_of history = take-append-drop (length history - 16384) (ascending history)

pub length-kept : (history : History) → length (kept history) ≡ length history - (length history - 16384)
unfolding kept
length-kept history = omega (arith, length-drop (length history - 16384) (ascending history), length-ascending history)

-- a number above the floor that isn't kept was never recorded
above_greatest : (number : ℕ) (js : History) → greatest_among js < number → Absent number (map judged_number js)
above_greatest number [] lt = tt
above_greatest number (j ∷ js) lt = ((λ same. omega arith), above_greatest number js (omega arith))

absent_pair : (number : ℕ) (first second : History) → Absent number (map judged_number first) → Absent number (map judged_number second) → Absent number (map judged_number (first ++ second))
absent_pair number [] second a b = b
absent_pair number (j ∷ js) second a b = (a.0, absent_pair number js second a.1 b)

pub never_recorded : (number : ℕ) (history : History) → floor history < number → Absent number (map judged_number (kept history)) → Absent number (map judged_number history)
never_recorded number history above absent =
    let all : Absent number (map judged_number (ascending history)) = subst (λ (js : History). Absent number (map judged_number js)) (all_of history) (absent_pair number (forgotten history) (kept history) (above_greatest number (forgotten history) above) absent) in
    (absent_from number [] history all).1

-- a further one is none of them
absent_at : (number : ℕ) (js : History) → Absent number (map judged_number js) → (i : ℕ) (d : FirstJudgement) → i < length js → (get_or js i d).number ≢ number
absent_at number [] absent i d l = absurd (omega arith)
absent_at number (j ∷ js) absent zero d l = absent.0
absent_at number (j ∷ js) absent (suc i) d l = absent_at number js absent.1 i d (omega arith)

pub once_more : (history : History) (j : FirstJudgement) → EachOnce history → Absent j.number (map judged_number history) → EachOnce (history ++ j ∷ [])
once_more history j once absent a b d lt l =
    let long = length-append history (j ∷ []) in
    elim (cases_lt b (length history)) [
      | inl within ↦
          let in_a : a < length history = omega arith in
          rw (get_or_append_left history (j ∷ []) d b within, get_or_append_left history (j ∷ []) d a in_a) (once a b d lt within)
      | inr last ↦
          let e : length history ≡ b = omega arith in
          let in_a : a < length history = omega arith in
          rw (get_or_at history j [] d b e, get_or_append_left history (j ∷ []) d a in_a) (absent_at j.number history absent a d in_a)
    ]

-- ---- one more judgement, where there is room

module _ (history : History) (j : FirstJudgement) (room : length history < 16384) where
  none_yet : length history - 16384 ≡ 0
  none_yet = omega arith

  still_none : length (history ++ j ∷ []) - 16384 ≡ 0
  still_none = omega (arith, length-append history (j ∷ []))

  pub kept-with_room : kept (history ++ j ∷ []) ≡ inserted judged_number j (kept history)
  unfolding kept
  kept-with_room = rw (still_none, none_yet) (ascending-more history j)

  pub floor-with_room : floor (history ++ j ∷ []) ≡ floor history
  unfolding forgotten
  floor-with_room = rw (still_none, none_yet) refl

-- ---- and where there isn't

inserted_behind : (j : FirstJudgement) (first second : History) → greatest_among first < j.number → inserted judged_number j (first ++ second) ≡ first ++ inserted judged_number j second
inserted_behind j [] second lt = refl
inserted_behind j (k ∷ ks) second lt =
    let below : k.number < j.number = omega arith in
    rw (inserted_later judged_number j k (ks ++ second) below) (ap (λ js. k ∷ js) (inserted_behind j ks second (omega arith)))

take_behind : (first second : History) → take (suc (length first)) (first ++ second) ≡ first ++ take 1 second
take_behind [] second = refl
take_behind (j ∷ js) second = ap (λ ks. j ∷ ks) (take_behind js second)

module _ (history : History) (j : FirstJudgement) (full : 16384 ≤ length history) (above : floor history < j.number) where
  one_more : length (history ++ j ∷ []) - 16384 ≡ length (forgotten history) + 1
  unfolding forgotten
  one_more = omega (arith, length-append history (j ∷ []), length-take (length history - 16384) (ascending history), length-ascending history)

  sorted : ascending (history ++ j ∷ []) ≡ forgotten history ++ inserted judged_number j (kept history)
  sorted = ascending-more history j ∙ (ap (inserted judged_number j) (sym (all_of history)) ∙ inserted_behind j (forgotten history) (kept history) above)

  pub kept-full : kept (history ++ j ∷ []) ≡ drop 1 (inserted judged_number j (kept history))
  unfolding kept
  kept-full =
      rw (one_more, sorted) (sym (drop-drop 1 (length (forgotten history)) (forgotten history ++ inserted judged_number j (kept history)))
      ∙ ap (drop 1) (drop_at (forgotten history) (inserted judged_number j (kept history)) (length (forgotten history)) refl))

  pub floor-full : floor (history ++ j ∷ []) ≡ max (floor history) (greatest_among (take 1 (inserted judged_number j (kept history))))
  unfolding forgotten
  floor-full =
      rw (one_more, sorted, add-one) (ap greatest_among (take_behind (forgotten history) (inserted judged_number j (kept history)))
      ∙ greatest-append (forgotten history) (take 1 (inserted judged_number j (kept history))))
