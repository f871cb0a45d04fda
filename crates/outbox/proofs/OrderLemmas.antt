-- The index of replies in order: what is found in it, and that it stays theirs.
use Rattle.std.proofs.Common.{◌≡◌, ◌≢◌, ◌∙◌, sym, ℕ, zero, suc, ◌+◌, ◌<◌, ◌≤◌, true, false, ltb, eqb, Option, Some, None, option_map, List, [], ◌∷◌, ◌++◌, length, get_or, remove, ap, subst, refl, inl, inr, arith, cond, length-append}
use Rattle.std.specs.List.{position_or_len, find}
use Rattle.std.specs.Option.{option_or}
use Rattle.std.proofs.lemmas.Bool.{cases_lt, cases_eq, lt-ltb, le-ltb, eq-eqb, ne_eqb, eqb-true}
use Rattle.std.proofs.lemmas.List.Edits.{length-remove}
use Rattle.std.proofs.lemmas.List.Sums.{passes_at_first}
use Rattle.std.proofs.lemmas.List.Folds.{find-append}
use Rattle.outbox.specs.declared.kept.Kept.{Kept}
use Rattle.outbox.specs.declared.rows.Answered.{Answered}
use Rattle.outbox.specs.Replies.{EachOnce, Replies, by_call, by_number, with_kept, without_number}
use Rattle.outbox.specs.Places.{IsAbove, IsBelow, Rises, inserted, numbers_of, calls_of, number_answering, number_to, AreInOrder, GoesOn}
use Rattle.outbox.proofs.RemoveLemmas.{found_at, none_found, found_removed, some_found, rises_removed, once_removed, once_rising, gone}

abbrev pub reply_call : Kept → ℕ
reply_call kept = kept.call

abbrev pub reply_number : Kept → ℕ
reply_number kept = kept.number

abbrev pub answered_call : Answered → ℕ
answered_call one = one.call

-- ---- one is taken out

-- where a number is found for a call, its entry stands in the index
pub within_index : (call number : ℕ) (answered : List Answered) → number_answering call answered ≡ Some number → position_or_len (λ one. eqb one.call call) answered < length answered
within_index call number answered some = elim (cases_lt (position_or_len (λ one. eqb one.call call) answered) (length answered)) [
  | inl within ↦ within
  | inr past ↦
      let none : find (λ one. eqb one.call call) answered ≡ None = none_found (λ one. eqb one.call call) answered past in
      let lost : None ≡ Some number = rw none at some in
      absurd (cc)
]

-- a call that is kept has a number
pub number_kept : (call : ℕ) (replies : Replies) (i : ℕ) (d : Kept) → i < length replies → (get_or replies i d).call ≡ call → number_to call replies ≢ None
number_kept call replies i d within same none = by (by_call call replies) refl
  where
    by : (o : Option Kept) → by_call call replies ≡ o → ⊥
    by None e = some_found (λ kept. eqb kept.call call) replies i d within (eq-eqb _ _ same) e
    by (Some kept) e = let some : Some kept.number ≡ None = rw e at none in cc

in_order_removed_at : (answered : List Answered) (replies : Replies) (i k : ℕ) (d : Kept) (one : Answered) (call : ℕ) → AreInOrder answered replies → i < length replies → k < length answered → (get_or replies i d).call ≡ call → (get_or answered k one).call ≡ call → AreInOrder (remove answered k) (remove replies i)
in_order_removed_at answered replies i k d one call order within index same same' = record {
  numbers = rises_removed reply_number replies i within order.numbers;
  calls = rises_removed answered_call answered k index order.calls;
  once = once_removed reply_call replies i within order.once;
  same = λ other. elim (cases_eq call other) [
    | inl is ↦
        let none : find (λ (kept : Kept). eqb kept.call other) (remove replies i) ≡ None = gone reply_call replies i d other within (same ∙ is) order.once in
        let none' : find (λ (entry : Answered). eqb entry.call other) (remove answered k) ≡ None = gone answered_call answered k one other index (same' ∙ is) (once_rising answered_call answered order.calls) in
        ap (option_map (λ (entry : Answered). entry.number)) none' ∙ sym (ap (option_map (λ (kept : Kept). kept.number)) none)
    | inr apart ↦
        let left : find (λ (kept : Kept). eqb kept.call other) (remove replies i) ≡ by_call other replies = found_removed (λ (kept : Kept). eqb kept.call other) replies i d within (ne_eqb _ _ (λ e. apart (sym same ∙ e))) in
        let left' : find (λ (entry : Answered). eqb entry.call other) (remove answered k) ≡ find (λ (entry : Answered). eqb entry.call other) answered = found_removed (λ (entry : Answered). eqb entry.call other) answered k one index (ne_eqb _ _ (λ e. apart (sym same' ∙ e))) in
        ap (option_map (λ (entry : Answered). entry.number)) left' ∙ (order.same other ∙ sym (ap (option_map (λ (kept : Kept). kept.number)) left))
  ];
  count = omega (arith, order.count, length-remove answered k index, length-remove replies i within);
}

-- the call of a kept reply stands in the index
pub in_index : (answered : List Answered) (replies : Replies) (i : ℕ) (d : Kept) (call : ℕ) → AreInOrder answered replies → i < length replies → (get_or replies i d).call ≡ call → position_or_len (λ one. eqb one.call call) answered < length answered
in_index answered replies i d call order within same = by (number_answering call answered) refl
  where
    by : (o : Option ℕ) → number_answering call answered ≡ o → position_or_len (λ (one : Answered). eqb one.call call) answered < length answered
    by None e = absurd (number_kept call replies i d within same (sym (order.same call) ∙ e))
    by (Some number) e = within_index call number answered e

-- the index stays that of the replies where one is taken out and its call too
pub in_order_removed : (answered : List Answered) (replies : Replies) (i : ℕ) (d : Kept) (one : Answered) (call : ℕ) → AreInOrder answered replies → i < length replies → (get_or replies i d).call ≡ call → AreInOrder (remove answered (position_or_len (λ one. eqb one.call call) answered)) (remove replies i)
in_order_removed answered replies i d one call order within same =
    let index = in_index answered replies i d call order within same in
    in_order_removed_at answered replies i (position_or_len (λ one. eqb one.call call) answered) d one call order within index same (eqb-true _ _ (passes_at_first (λ (one : Answered). eqb one.call call) answered one index))

-- ---- one is kept

below_appended : (number : ℕ) (kept : Kept) (replies : Replies) → number < kept.number → IsAbove number (numbers_of replies) → IsAbove number (numbers_of (replies ++ kept ∷ []))
below_appended number kept [] below above = (below, tt)
below_appended number kept (first ∷ others) below above = (above.0, below_appended number kept others below above.1)

rises_appended : (kept : Kept) (replies : Replies) → IsBelow kept.number (numbers_of replies) → Rises (numbers_of replies) → Rises (numbers_of (replies ++ kept ∷ []))
rises_appended kept [] below rises = (tt, tt)
rises_appended kept (first ∷ others) below rises = (below_appended first.number kept others below.0 rises.0, rises_appended kept others below.1 rises.1)

once_appended : (kept : Kept) (replies : Replies) → by_call kept.call replies ≡ None → EachOnce reply_call replies → EachOnce reply_call (replies ++ kept ∷ [])
once_appended kept [] new once = (refl, tt)
once_appended kept (first ∷ others) new once = elim (cases_eq first.call kept.call) [
  | inl same ↦ let e : eqb first.call kept.call ≡ true = eq-eqb _ _ same in let some : Some first ≡ None = rw e at new in absurd (cc)
  | inr other ↦
      let e : eqb first.call kept.call ≡ false = ne_eqb _ _ other in
      let f : eqb kept.call first.call ≡ false = ne_eqb _ _ (λ same. other (sym same)) in
      let new' : by_call kept.call others ≡ None = rw e at new in
      let last : find (λ (later : Kept). eqb later.call first.call) (kept ∷ []) ≡ None = rw f refl in
      (find-append (λ (later : Kept). eqb later.call first.call) others (kept ∷ []) ∙ (ap (λ o. option_or o (find (λ (later : Kept). eqb later.call first.call) (kept ∷ []))) once.0 ∙ last), once_appended kept others new' once.1)
]

above_inserted : (floor : ℕ) (one : Answered) (answered : List Answered) → floor < one.call → IsAbove floor (calls_of answered) → IsAbove floor (calls_of (inserted answered_call one answered))
above_inserted floor one [] lt above = (lt, tt)
above_inserted floor one (first ∷ others) lt above = elim (cases_lt first.call one.call) [
  | inl below ↦ let e : ltb first.call one.call ≡ true = lt-ltb _ _ below in rw e (above.0, above_inserted floor one others lt above.1)
  | inr over ↦ let e : ltb first.call one.call ≡ false = le-ltb _ _ over in rw e (lt, above)
]

above_lower : (low high : ℕ) (numbers : List ℕ) → low ≤ high → IsAbove high numbers → IsAbove low numbers
above_lower low high [] le h = tt
above_lower low high (n ∷ ns) le h = (omega (arith, h.0), above_lower low high ns le h.1)

-- a call that has no number is none of an index
abbrev pub Absent : ℕ → List Answered → Type 0
Absent call answered = find (λ one. eqb one.call call) answered ≡ None

absent_from_number : (call : ℕ) (answered : List Answered) → number_answering call answered ≡ None → Absent call answered
absent_from_number call answered none = by (find (λ one. eqb one.call call) answered) refl
  where
    by : (o : Option Answered) → find (λ one. eqb one.call call) answered ≡ o → Absent call answered
    by None e = e
    by (Some one) e = let some : Some one.number ≡ None = rw e at none in absurd (cc)

rises_inserted : (one : Answered) (answered : List Answered) → Absent one.call answered → Rises (calls_of answered) → Rises (calls_of (inserted answered_call one answered))
rises_inserted one [] absent rises = (tt, tt)
rises_inserted one (first ∷ others) absent rises = elim (cases_eq first.call one.call) [
  | inl same ↦ let e : eqb first.call one.call ≡ true = eq-eqb _ _ same in let some : Some first ≡ None = rw e at absent in absurd (cc)
  | inr other ↦
      let e : eqb first.call one.call ≡ false = ne_eqb _ _ other in
      let absent' : Absent one.call others = rw e at absent in
      elim (cases_lt first.call one.call) [
        | inl below ↦ let f : ltb first.call one.call ≡ true = lt-ltb _ _ below in rw f (above_inserted first.call one others below rises.0, rises_inserted one others absent' rises.1)
        | inr over ↦ let f : ltb first.call one.call ≡ false = le-ltb _ _ over in rw f ((omega (arith, other), above_lower one.call first.call (calls_of others) over rises.0), rises)
      ]
]

length-inserted : (one : Answered) (answered : List Answered) → length (inserted answered_call one answered) ≡ suc (length answered)
length-inserted one [] = refl
length-inserted one (first ∷ others) = elim (cases_lt first.call one.call) [
  | inl below ↦ let e : ltb first.call one.call ≡ true = lt-ltb _ _ below in rw e (ap suc (length-inserted one others))
  | inr over ↦ let e : ltb first.call one.call ≡ false = le-ltb _ _ over in rw e refl
]

-- another call is found as before
found_other : (call : ℕ) (one : Answered) (answered : List Answered) → one.call ≢ call → find (λ entry. eqb entry.call call) (inserted answered_call one answered) ≡ find (λ entry. eqb entry.call call) answered
found_other call one [] other = let e : eqb one.call call ≡ false = ne_eqb _ _ other in rw e refl
found_other call one (first ∷ others) other = let e : eqb one.call call ≡ false = ne_eqb _ _ other in elim (cases_lt first.call one.call) [
  | inl below ↦ let f : ltb first.call one.call ≡ true = lt-ltb _ _ below in rw f (ap (λ rest. cond (eqb first.call call) (Some first) rest) (found_other call one others other))
  | inr over ↦ let f : ltb first.call one.call ≡ false = le-ltb _ _ over in rw f (rw e refl)
]

-- and this one, where it is new, is found
found_new : (one : Answered) (answered : List Answered) → Absent one.call answered → find (λ entry. eqb entry.call one.call) (inserted answered_call one answered) ≡ Some one
found_new one [] absent = let e : eqb one.call one.call ≡ true = eq-eqb _ _ refl in rw e refl
found_new one (first ∷ others) absent = elim (cases_eq first.call one.call) [
  | inl same ↦ let e : eqb first.call one.call ≡ true = eq-eqb _ _ same in let some : Some first ≡ None = rw e at absent in absurd (cc)
  | inr other ↦
      let e : eqb first.call one.call ≡ false = ne_eqb _ _ other in
      let absent' : Absent one.call others = rw e at absent in
      elim (cases_lt first.call one.call) [
        | inl below ↦ let f : ltb first.call one.call ≡ true = lt-ltb _ _ below in rw f (rw e (found_new one others absent'))
        | inr over ↦ let f : ltb first.call one.call ≡ false = le-ltb _ _ over in let g : eqb one.call one.call ≡ true = eq-eqb _ _ refl in rw f (rw g refl)
      ]
]

number_found : (call : ℕ) (one : Answered) (answered : List Answered) → Absent one.call answered → number_answering call (inserted answered_call one answered) ≡ cond (eqb one.call call) (Some one.number) (number_answering call answered)
number_found call one answered absent = elim (cases_eq one.call call) [
  | inl same ↦ let e : eqb one.call call ≡ true = eq-eqb _ _ same in rw e (ap (option_map (λ (entry : Answered). entry.number)) (subst (λ (c : ℕ). find (λ (entry : Answered). eqb entry.call c) (inserted answered_call one answered) ≡ Some one) same (found_new one answered absent)))
  | inr other ↦ let e : eqb one.call call ≡ false = ne_eqb _ _ other in rw e (ap (option_map (λ (entry : Answered). entry.number)) (found_other call one answered other))
]

number_appended : (call : ℕ) (kept : Kept) (replies : Replies) → by_call kept.call replies ≡ None → number_to call (replies ++ kept ∷ []) ≡ cond (eqb kept.call call) (Some kept.number) (number_to call replies)
number_appended call kept replies new = elim (cases_eq kept.call call) [
  | inl same ↦
      let e : eqb kept.call call ≡ true = eq-eqb _ _ same in
      let new' : by_call call replies ≡ None = subst (λ (c : ℕ). by_call c replies ≡ None) same new in
      let last : find (λ (later : Kept). eqb later.call call) (kept ∷ []) ≡ Some kept = rw e refl in
      rw e (ap (option_map (λ (kept : Kept). kept.number)) (find-append (λ (later : Kept). eqb later.call call) replies (kept ∷ []) ∙ (ap (λ o. option_or o (find (λ (later : Kept). eqb later.call call) (kept ∷ []))) new' ∙ last)))
  | inr other ↦
      let e : eqb kept.call call ≡ false = ne_eqb _ _ other in
      let last : find (λ (later : Kept). eqb later.call call) (kept ∷ []) ≡ None = rw e refl in
      rw e (ap (option_map (λ (kept : Kept). kept.number)) (find-append (λ (later : Kept). eqb later.call call) replies (kept ∷ []) ∙ (ap (λ o. option_or (by_call call replies) o) last ∙ option_or-none (by_call call replies))))
]
  where
    option_or-none : (o : Option Kept) → option_or o None ≡ o
    option_or-none None = refl
    option_or-none (Some kept) = refl

-- the index stays that of the replies where one more is kept
pub in_order_kept : (one : Answered) (answered : List Answered) (kept : Kept) (replies : Replies) → GoesOn one answered replies → one.call ≡ kept.call → one.number ≡ kept.number → AreInOrder (inserted answered_call one answered) (with_kept kept replies)
in_order_kept one answered kept replies on call number =
    let order = on.order in
    let new : by_call kept.call replies ≡ None = subst (λ (c : ℕ). by_call c replies ≡ None) call on.new in
    let below : IsBelow kept.number (numbers_of replies) = subst (λ (n : ℕ). IsBelow n (numbers_of replies)) number on.above in
    let absent : Absent one.call answered = absent_from_number one.call answered (order.same one.call ∙ ap (option_map (λ (kept : Kept). kept.number)) on.new) in
    record {
      numbers = rises_appended kept replies below order.numbers;
      calls = rises_inserted one answered absent order.calls;
      once = once_appended kept replies new order.once;
      same = λ other. number_found other one answered absent ∙ (fields other ∙ sym (number_appended other kept replies new));
      count = omega (arith, order.count, length-inserted one answered, length-append replies (kept ∷ []));
    }
  where
    fields : (other : ℕ) → cond (eqb one.call other) (Some one.number) (number_answering other answered) ≡ cond (eqb kept.call other) (Some kept.number) (number_to other replies)
    fields other = rw (call, number, on.order.same other) refl

-- ---- what is found

above_number : (call number floor : ℕ) (replies : Replies) → IsAbove floor (numbers_of replies) → number_to call replies ≡ Some number → floor < number
above_number call number floor [] above some = absurd (cc)
above_number call number floor (first ∷ others) above some = elim (cases_eq first.call call) [
  | inl same ↦ let e : eqb first.call call ≡ true = eq-eqb _ _ same in let is : Some first.number ≡ Some number = rw e at some in omega (arith, above.0, some_is is)
  | inr other ↦ let e : eqb first.call call ≡ false = ne_eqb _ _ other in let rest : number_to call others ≡ Some number = rw e at some in above_number call number floor others above.1 rest
]
  where
    some_is : {a b : ℕ} → Some a ≡ Some b → a ≡ b
    some_is e = cc

-- the reply to a call is the one of the number that the index has
pub found_by_its_number : (call number : ℕ) (replies : Replies) → Rises (numbers_of replies) → number_to call replies ≡ Some number → by_number number replies ≡ by_call call replies
found_by_its_number call number [] rises some = refl
found_by_its_number call number (first ∷ others) rises some = elim (cases_eq first.call call) [
  | inl same ↦
      let e : eqb first.call call ≡ true = eq-eqb _ _ same in
      let is : Some first.number ≡ Some number = rw e at some in
      let f : eqb first.number number ≡ true = eq-eqb _ _ (cc) in
      rw (e, f) refl
  | inr other ↦
      let e : eqb first.call call ≡ false = ne_eqb _ _ other in
      let rest : number_to call others ≡ Some number = rw e at some in
      let above : first.number < number = above_number call number first.number others rises.0 rest in
      let f : eqb first.number number ≡ false = ne_eqb _ _ (λ same. omega arith) in
      rw (e, f) (found_by_its_number call number others rises.1 rest)
]

-- a call that the index doesn't have has no reply
pub call_is_new : (call : ℕ) (answered : List Answered) (replies : Replies) → AreInOrder answered replies → length answered ≤ position_or_len (λ one. eqb one.call call) answered → by_call call replies ≡ None
call_is_new call answered replies order past = by (by_call call replies) refl
  where
    by : (o : Option Kept) → by_call call replies ≡ o → by_call call replies ≡ None
    by None e = e
    by (Some kept) e =
        let none : number_answering call answered ≡ None = ap (option_map (λ (one : Answered). one.number)) (none_found (λ (one : Answered). eqb one.call call) answered past) in
        let some : number_to call replies ≡ Some kept.number = ap (option_map (λ (kept : Kept). kept.number)) e in
        let lost : None ≡ Some kept.number = sym none ∙ (order.same call ∙ some) in
        absurd (cc)

-- and one that it has is answered by the reply of its number
pub call_is_found : (call : ℕ) (answered : List Answered) (replies : Replies) (k : ℕ) (d : Answered) → AreInOrder answered replies → k ≡ position_or_len (λ one. eqb one.call call) answered → k < length answered → by_number (get_or answered k d).number replies ≡ by_call call replies
call_is_found call answered replies k d order at within =
    let here : number_answering call answered ≡ Some (get_or answered k d).number = ap (option_map (λ (one : Answered). one.number)) (found_at (λ (one : Answered). eqb one.call call) answered k d at within) in
    found_by_its_number call (get_or answered k d).number replies order.numbers (sym (order.same call) ∙ here)

-- all are below what the last one is below
pub all_below : (number : ℕ) (replies : Replies) (k : ℕ) (d : Kept) → Rises (numbers_of replies) → suc k ≡ length replies → (get_or replies k d).number < number → IsBelow number (numbers_of replies)
all_below number [] k d rises last below = absurd (omega arith)
all_below number (first ∷ []) zero d rises last below = (below, tt)
all_below number (first ∷ []) (suc k) d rises last below = absurd (omega arith)
all_below number (first ∷ (next ∷ others)) zero d rises last below = absurd (omega arith)
all_below number (first ∷ (next ∷ others)) (suc k) d rises last below =
    let rest : IsBelow number (numbers_of (next ∷ others)) = all_below number (next ∷ others) k d rises.1 (omega arith) below in
    (omega (arith, rises.0.0, rest.0), rest)

-- taking out the first of a number
pub without_is : (number : ℕ) (replies : Replies) (k : ℕ) → k ≡ position_or_len (λ kept. eqb kept.number number) replies → k < length replies → remove replies k ≡ without_number number replies
without_is number [] k at within = absurd (omega arith)
without_is number (first ∷ others) zero at within = elim (cases_eq first.number number) [
  | inl same ↦ let e : eqb first.number number ≡ true = eq-eqb _ _ same in rw e refl
  | inr other ↦
      let e : eqb first.number number ≡ false = ne_eqb _ _ other in
      let at' : 0 ≡ 1 + position_or_len (λ kept. eqb kept.number number) others = rw e at at in
      absurd (omega arith)
]
without_is number (first ∷ others) (suc k) at within = elim (cases_eq first.number number) [
  | inl same ↦ let e : eqb first.number number ≡ true = eq-eqb _ _ same in let at' : suc k ≡ 0 = rw e at at in absurd (omega arith)
  | inr other ↦
      let e : eqb first.number number ≡ false = ne_eqb _ _ other in
      let at' : suc k ≡ 1 + position_or_len (λ kept. eqb kept.number number) others = rw e at at in
      rw e (ap (λ rest. first ∷ rest) (without_is number others k (omega arith) (omega arith)))
]

pub without_none : (number : ℕ) (replies : Replies) → length replies ≤ position_or_len (λ kept. eqb kept.number number) replies → without_number number replies ≡ replies
without_none number [] past = refl
without_none number (first ∷ others) past = elim (cases_eq first.number number) [
  | inl same ↦ let e : eqb first.number number ≡ true = eq-eqb _ _ same in let none : suc (length others) ≤ 0 = rw e at past in absurd (omega arith)
  | inr other ↦
      let e : eqb first.number number ≡ false = ne_eqb _ _ other in
      let past' : suc (length others) ≤ 1 + position_or_len (λ kept. eqb kept.number number) others = rw e at past in
      rw e (ap (λ rest. first ∷ rest) (without_none number others (omega arith)))
]
