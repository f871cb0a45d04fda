-- What a window stands for, before and after.
use Rattle.std.proofs.Common.{◌≡◌, ◌≢◌, ◌∙◌, ℕ, zero, suc, ◌+◌, ◌-◌, ◌<◌, ◌≤◌, max, true, false, ltb, eqb, cond, Some, None, List, [], ◌∷◌, ◌++◌, map, length, take, drop, get_or, ap, subst, refl, sym, inl, inr, arith, IfSome}
use Rattle.std.specs.List.{list_any, AllZip}
use Rattle.std.proofs.lemmas.Bool.{cases_lt, cases_eq, cases_Bool, lt-ltb, le-ltb, eq-eqb, ne_eqb}
use Rattle.std.proofs.lemmas.List.{length-append, length-map}
use Rattle.id_window.specs.declared.mark.Mark.{Mark}
use Rattle.id_window.specs.declared.rows.Row.{Row}
use Rattle.id_window.specs.declared.rows.Accepted.{Accepted}
use Rattle.id_window.specs.Marks.{Marks, mark_of, given, is_accepted}
use Rattle.id_window.specs.History.{History, FirstJudgement, Outcome, was_accepted, EachOnce, inserted, noted, greatest_among, greatest, floor, kept, forgotten, accepted_part, accepted_of, found, newly_forgotten}
use Rattle.id_window.specs.Window.{Contents, IsAbove, Rises, IsInOrder, IsRowOf, IsThatOf, mark_in, with_mark, greatest_in}
use Rattle.id_window.proofs.PlaceLemmas.{row_number, accepted_key, with_mark_absent}
use Rattle.id_window.proofs.OrderLemmas.{Absent, NoneBelow, none_below_above, absent_from_mark, inserted_first, inserted_later, option_inserted, parts_inserted}
use Rattle.id_window.proofs.HistoryLemmas.{judged_number, mark_of-same, mark_of-other, all_of, length-kept, greatest-ascending, greatest-append, never_recorded, once_more, kept-with_room, floor-with_room, kept-full, floor-full}

-- ---- rows beside kept judgements

pub numbers_zip : (marks : Marks) (rows : List Row) (js : History) → AllZip (IsRowOf marks) rows js → map row_number rows ≡ map judged_number js
numbers_zip marks [] [] zip = refl
numbers_zip marks [] (j ∷ js) zip = absurd zip
numbers_zip marks (row ∷ rows) [] zip = absurd zip
numbers_zip marks (row ∷ rows) (j ∷ js) zip = let rest = numbers_zip marks rows js zip.1 in let first = zip.0.number in rw (first, rest) refl

row_given : (number : ℕ) (mark : Mark) (marks : Marks) (row : Row) (j : FirstJudgement) → row.number ≢ number → IsRowOf marks row j → IsRowOf (given number mark marks) row j
row_given number mark marks row j other is = record { number = is.number; mark = mark_of-other row.number number mark marks other ∙ is.mark; accepted = is.accepted }

-- a mark for another number
pub zip_given : (number : ℕ) (mark : Mark) (marks : Marks) (rows : List Row) (js : History) → Absent number (map row_number rows) → AllZip (IsRowOf marks) rows js → AllZip (IsRowOf (given number mark marks)) rows js
zip_given number mark marks [] [] absent zip = tt
zip_given number mark marks [] (j ∷ js) absent zip = absurd zip
zip_given number mark marks (row ∷ rows) [] absent zip = absurd zip
zip_given number mark marks (row ∷ rows) (j ∷ js) absent zip = (row_given number mark marks row j absent.0 zip.0, zip_given number mark marks rows js absent.1 zip.1)

-- a row and its judgement go to the same place
pub zip_inserted : (marks : Marks) (row : Row) (j : FirstJudgement) (rows : List Row) (js : History) → IsRowOf marks row j → AllZip (IsRowOf marks) rows js → AllZip (IsRowOf marks) (inserted row_number row rows) (inserted judged_number j js)
zip_inserted marks row j [] [] is zip = (is, tt)
zip_inserted marks row j [] (k ∷ ks) is zip = absurd zip
zip_inserted marks row j (r ∷ rs) [] is zip = absurd zip
zip_inserted marks row j (r ∷ rs) (k ∷ ks) is zip = elim (cases_lt r.number row.number) [
  | inl below ↦
      let below' : k.number < j.number = omega (arith, is.number, zip.0.number) in
      rw (inserted_later row_number row r rs below, inserted_later judged_number j k ks below') (zip.0, zip_inserted marks row j rs ks is zip.1)
  | inr above ↦
      let e : ltb r.number row.number ≡ false = le-ltb r.number row.number above in
      let f : ltb k.number j.number ≡ false = le-ltb k.number j.number (omega (arith, is.number, zip.0.number)) in
      rw (e, f) (is, zip)
]

-- another mark for an accepted number
pub zip_marked : (number : ℕ) (mark : Mark) (marks : Marks) (rows : List Row) (js : History) → Rises (map row_number rows) → is_accepted mark ≡ true → IfSome (mark_in number rows) (λ last. is_accepted last ≡ true) → AllZip (IsRowOf marks) rows js → AllZip (IsRowOf (given number mark marks)) (with_mark number mark rows) js
zip_marked number mark marks [] [] rises taken was zip = tt
zip_marked number mark marks [] (j ∷ js) rises taken was zip = absurd zip
zip_marked number mark marks (row ∷ rows) [] rises taken was zip = absurd zip
zip_marked number mark marks (row ∷ rows) (j ∷ js) rises taken was zip = elim (cases_eq row.number number) [
  | inl same ↦
      let e : eqb row.number number ≡ true = eq-eqb row.number number same in
      let had : is_accepted row.mark ≡ true = rw e at was in
      rw e (
        record { number = sym same ∙ zip.0.number; mark = mark_of-same number mark marks; accepted = taken ∙ (sym had ∙ zip.0.accepted) },
        zip_given number mark marks rows js (absent_above number row.number (map row_number rows) (omega arith) rises.0) zip.1,
      )
  | inr other ↦
      let e : eqb row.number number ≡ false = ne_eqb row.number number other in
      let rest : IfSome (mark_in number rows) (λ last. is_accepted last ≡ true) = rw e at was in
      rw e (row_given number mark marks row j other zip.0, zip_marked number mark marks rows js rises.1 taken rest zip.1)
]
  where
    absent_above : (number least : ℕ) (numbers : List ℕ) → number ≤ least → IsAbove least numbers → Absent number numbers
    absent_above number least [] le above = tt
    absent_above number least (n ∷ ns) le above = ((λ same. omega (arith, above.0)), absent_above number least ns le above.1)

-- ---- answers

found_zip : (number : ℕ) (marks : Marks) (rows : List Row) (js : History) → AllZip (IsRowOf marks) rows js → mark_in number rows ≡ cond (list_any (λ j. eqb j.number number) js) (mark_of number marks) None
found_zip number marks [] [] zip = refl
found_zip number marks [] (j ∷ js) zip = absurd zip
found_zip number marks (row ∷ rows) [] zip = absurd zip
found_zip number marks (row ∷ rows) (j ∷ js) zip = elim (cases_eq row.number number) [
  | inl same ↦
      let e : eqb row.number number ≡ true = eq-eqb row.number number same in
      let f : eqb j.number number ≡ true = eq-eqb j.number number (sym zip.0.number ∙ same) in
      rw (e, f) (sym zip.0.mark ∙ ap (λ n. mark_of n marks) same)
  | inr other ↦
      let e : eqb row.number number ≡ false = ne_eqb row.number number other in
      let f : eqb j.number number ≡ false = ne_eqb j.number number (λ p. other (zip.0.number ∙ p)) in
      rw (e, f) (found_zip number marks rows js zip.1)
]

pub found_is : (w : Contents) (history : History) (marks : Marks) → IsThatOf w history marks → (number : ℕ) → mark_in number w.rows ≡ found number history marks
found_is w history marks stands number = found_zip number marks w.rows (kept history) stands.rows

greatest_zip : (floor : ℕ) (marks : Marks) (rows : List Row) (js : History) → AllZip (IsRowOf marks) rows js → Rises (floor ∷ map row_number rows) → greatest_in floor rows ≡ max floor (greatest_among js)
greatest_zip floor marks [] [] zip rises = omega arith
greatest_zip floor marks [] (j ∷ js) zip rises = absurd zip
greatest_zip floor marks (row ∷ rows) [] zip rises = absurd zip
greatest_zip floor marks (row ∷ rows) (j ∷ js) zip rises = omega (arith, greatest_zip row.number marks rows js zip.1 rises.1, zip.0.number, rises.0.0)

pub greatest_is : (w : Contents) (history : History) (marks : Marks) → IsInOrder w.floor w.rows w.accepted → IsThatOf w history marks → greatest_in w.floor w.rows ≡ greatest history
greatest_is w history marks order stands =
    let all : greatest_among (forgotten history ++ kept history) ≡ greatest history = ap greatest_among (all_of history) ∙ greatest-ascending history in
    omega (arith, greatest_zip w.floor marks w.rows (kept history) stands.rows order.rising, stands.floor, greatest-append (forgotten history) (kept history), all)

-- the last row has the greatest number
pub greatest_last : (floor : ℕ) (rows : List Row) (k : ℕ) (d : Row) → suc k ≡ length rows → (get_or rows k d).number ≡ greatest_in floor rows
greatest_last floor [] k d last = absurd (omega arith)
greatest_last floor (row ∷ []) zero d last = refl
greatest_last floor (row ∷ []) (suc k) d last = absurd (omega arith)
greatest_last floor (row ∷ (r ∷ rs)) zero d last = absurd (omega arith)
greatest_last floor (row ∷ (r ∷ rs)) (suc k) d last = greatest_last row.number (r ∷ rs) k d (omega arith)

-- ---- one more

part_of : (j : FirstJudgement) (one : Accepted) → accepted_part j ≡ Some one → one.number ≡ j.number
part_of j one e = elim (cases_Bool (was_accepted j.outcome)) [
  | inl taken ↦ let made : Accepted = record { number = j.number; seq = j.seq } in let s : Some made ≡ Some one = rw taken at e in let t : made ≡ one = cc in ap accepted_key (sym t)
  | inr left ↦ let s : None ≡ Some one = rw left at e in absurd (cc)
]

module _ (number seq : ℕ) (mark : Mark) (outcome : Outcome) (same : was_accepted outcome ≡ is_accepted mark) where
  pub row_of_new : (marks : Marks) → IsRowOf (given number mark marks) (record { number = number; mark = mark }) (record { number = number; seq = seq; outcome = outcome })
  row_of_new marks = record { number = refl; mark = mark_of-same number mark marks; accepted = sym same }

  -- the accepted ones with the new one, where it was accepted
  pub accepted_entered : (accepted : List Accepted) (js : History) → accepted ≡ accepted_of js → Rises (map judged_number js) → cond (is_accepted mark) (inserted accepted_key (record { number = number; seq = seq }) accepted) accepted ≡ accepted_of (inserted judged_number (record { number = number; seq = seq; outcome = outcome }) js)
  accepted_entered accepted js is rises =
      let one : Accepted = record { number = number; seq = seq } in
      let j : FirstJudgement = record { number = number; seq = seq; outcome = outcome } in
      let parts : accepted_of (inserted judged_number j js) ≡ option_inserted accepted_key (accepted_part j) (accepted_of js) = parts_inserted judged_number accepted_key accepted_part part_of j js rises in
      elim (cases_Bool (is_accepted mark)) [
        | inl taken ↦
            let part : accepted_part j ≡ Some one = rw (same, taken) refl in
            rw taken (ap (inserted accepted_key one) is ∙ (ap (λ o. option_inserted accepted_key o (accepted_of js)) (sym part) ∙ sym parts))
        | inr left ↦
            let part : accepted_part j ≡ None = rw (same, left) refl in
            rw left (is ∙ (ap (λ o. option_inserted accepted_key o (accepted_of js)) (sym part) ∙ sym parts))
      ]

-- the least one is taken out and the new one put in, of what is kept with the new one
record Moved (number seq : ℕ) (mark : Mark) (outcome : Outcome) (marks : Marks) (least : Row) (others : List Row) (accepted : List Accepted) (all : History) : Type 0 where
  rows_now : AllZip (IsRowOf (given number mark marks)) (inserted row_number (record { number = number; mark = mark }) others) (drop 1 all)
  accepted_now : cond (is_accepted mark) (inserted accepted_key (record { number = number; seq = seq }) (cond (is_accepted least.mark) (drop 1 accepted) accepted)) (cond (is_accepted least.mark) (drop 1 accepted) accepted) ≡ accepted_of (drop 1 all)
  least_now : greatest_among (take 1 all) ≡ least.number
  mark_now : mark_of least.number (given number mark marks) ≡ Some least.mark

first_part_out : (row : Row) (j : FirstJudgement) (js : History) (accepted : List Accepted) → is_accepted row.mark ≡ was_accepted j.outcome → accepted ≡ accepted_of (j ∷ js) → cond (is_accepted row.mark) (drop 1 accepted) accepted ≡ accepted_of js
first_part_out row j js accepted same is = elim (cases_Bool (is_accepted row.mark)) [
  | inl taken ↦
      let taken' : was_accepted j.outcome ≡ true = sym same ∙ taken in
      let parts : accepted ≡ record { number = j.number; seq = j.seq } ∷ accepted_of js = rw taken' at is in
      rw taken (ap (drop 1) parts)
  | inr left ↦
      let left' : was_accepted j.outcome ≡ false = sym same ∙ left in
      let parts : accepted ≡ accepted_of js = rw left' at is in
      rw left parts
]

move : (number seq : ℕ) (mark : Mark) (outcome : Outcome) → was_accepted outcome ≡ is_accepted mark → (marks : Marks) (least : Row) (others : List Row) (accepted : List Accepted) (js : History) → least.number < number
    → AllZip (IsRowOf (given number mark marks)) (least ∷ others) js → accepted ≡ accepted_of js → Rises (map judged_number js)
    → Moved number seq mark outcome marks least others accepted (inserted judged_number (record { number = number; seq = seq; outcome = outcome }) js)
move number seq mark outcome same marks least others accepted [] below zip is rises = absurd zip
move number seq mark outcome same marks least others accepted (k ∷ ks) below zip is rises =
    let j : FirstJudgement = record { number = number; seq = seq; outcome = outcome } in
    let row : Row = record { number = number; mark = mark } in
    let later = inserted_later judged_number j k ks (omega (arith, zip.0.number)) in
    let left = first_part_out least k ks accepted zip.0.accepted is in
    rw later (record {
      rows_now = zip_inserted (given number mark marks) row j others ks (row_of_new number seq mark outcome same marks) zip.1;
      accepted_now = accepted_entered number seq mark outcome same (cond (is_accepted least.mark) (drop 1 accepted) accepted) ks left rises.1;
      least_now = omega (arith, zip.0.number);
      mark_now = zip.0.mark;
    })

-- the number is new to the history too
new_number : (w : Contents) (history : History) (marks : Marks) (number : ℕ) → IsThatOf w history marks → w.floor < number → Absent number (map row_number w.rows) → Absent number (map judged_number history)
new_number w history marks number stands above absent =
    never_recorded number history (omega (arith, stands.floor)) (subst (Absent number) (numbers_zip marks w.rows (kept history) stands.rows) absent)

kept_rise : (w : Contents) (history : History) (marks : Marks) → IsThatOf w history marks → Rises (map row_number w.rows) → Rises (map judged_number (kept history))
kept_rise w history marks stands rises = subst Rises (numbers_zip marks w.rows (kept history) stands.rows) rises

module _ (w : Contents) (history : History) (marks : Marks) (number seq : ℕ) (mark : Mark) (outcome : Outcome)
    (order : IsInOrder w.floor w.rows w.accepted) (above : w.floor < number) (new : mark_in number w.rows ≡ None)
    (stands : IsThatOf w history marks) (same : was_accepted outcome ≡ is_accepted mark) where
  absent : Absent number (map row_number w.rows)
  absent = absent_from_mark number w.rows new

  once : EachOnce (noted number seq outcome history)
  once = once_more history (record { number = number; seq = seq; outcome = outcome }) stands.once (new_number w history marks number stands above absent)

  long : length w.rows ≡ length history - (length history - 16384)
  long = omega (arith, length-map w.rows row_number, length-map (kept history) judged_number, ap length (numbers_zip marks w.rows (kept history) stands.rows), length-kept history)

  zip : AllZip (IsRowOf (given number mark marks)) w.rows (kept history)
  zip = zip_given number mark marks w.rows (kept history) absent stands.rows

  more : length (noted number seq outcome history) ≡ length history + 1
  more = length-append history (record { number = number; seq = seq; outcome = outcome } ∷ [])

  -- where the window has room
  pub stands_entered : (room : ℕ) → length w.rows < 16384
      → IsThatOf (record { rows = inserted row_number (record { number = number; mark = mark }) w.rows; accepted = cond (is_accepted mark) (inserted accepted_key (record { number = number; seq = seq }) w.accepted) w.accepted; floor = w.floor; room = room }) (noted number seq outcome history) (given number mark marks)
  stands_entered room short =
      let j : FirstJudgement = record { number = number; seq = seq; outcome = outcome } in
      let row : Row = record { number = number; mark = mark } in
      let short' : length history < 16384 = omega (arith, long) in
      let kept' = kept-with_room history j short' in
      record {
        rows = rw kept' (zip_inserted (given number mark marks) row j w.rows (kept history) (row_of_new number seq mark outcome same marks) zip);
        accepted = rw kept' (accepted_entered number seq mark outcome same w.accepted (kept history) stands.accepted (kept_rise w history marks stands order.rising.1));
        floor = stands.floor ∙ sym (floor-with_room history j short');
        once = once;
      }

  pub nothing_forgotten : length w.rows < 16384 → None ≡ newly_forgotten (noted number seq outcome history) (given number mark marks)
  nothing_forgotten short = let e : ltb 16384 (length (noted number seq outcome history)) ≡ false = le-ltb 16384 _ (omega (arith, long, more)) in rw e refl

  -- where the new number is the one that a full window forgets
  passed_first : IsAbove number (map row_number w.rows) → inserted judged_number (record { number = number; seq = seq; outcome = outcome }) (kept history) ≡ record { number = number; seq = seq; outcome = outcome } ∷ kept history
  passed_first below =
      let none : NoneBelow number (map judged_number (kept history)) = subst (NoneBelow number) (numbers_zip marks w.rows (kept history) stands.rows) (none_below_above number number (map row_number w.rows) (omega arith) below) in
      inserted_first judged_number (record { number = number; seq = seq; outcome = outcome }) (kept history) none

  passed_floor : 16384 ≤ length w.rows → IsAbove number (map row_number w.rows) → floor (noted number seq outcome history) ≡ number
  passed_floor full below =
      let j : FirstJudgement = record { number = number; seq = seq; outcome = outcome } in
      let above' : floor history < number = omega (arith, stands.floor) in
      floor-full history j (omega (arith, long)) above' ∙ (ap (λ js. max (floor history) (greatest_among (take 1 js))) (passed_first below) ∙ omega arith)

  pub stands_passed : (room : ℕ) → 16384 ≤ length w.rows → IsAbove number (map row_number w.rows)
      → IsThatOf (record { rows = w.rows; accepted = w.accepted; floor = number; room = room }) (noted number seq outcome history) (given number mark marks)
  stands_passed room full below =
      let j : FirstJudgement = record { number = number; seq = seq; outcome = outcome } in
      let above' : floor history < number = omega (arith, stands.floor) in
      let kept' : kept (noted number seq outcome history) ≡ kept history = kept-full history j (omega (arith, long)) above' ∙ ap (drop 1) (passed_first below) in
      record { rows = rw kept' zip; accepted = rw kept' stands.accepted; floor = sym (passed_floor full below); once = once }

  forgets : (number' : ℕ) (mark' : Mark) → 16384 ≤ length w.rows → floor (noted number seq outcome history) ≡ number' → mark_of number' (given number mark marks) ≡ Some mark' → Some (number', mark') ≡ newly_forgotten (noted number seq outcome history) (given number mark marks)
  forgets number' mark' full floor' given' =
      let e : ltb 16384 (length (noted number seq outcome history)) ≡ true = lt-ltb 16384 (length (noted number seq outcome history)) (omega (arith, long, more)) in
      rw (e, floor', given') refl

  pub passed_forgotten : 16384 ≤ length w.rows → IsAbove number (map row_number w.rows) → Some (number, mark) ≡ newly_forgotten (noted number seq outcome history) (given number mark marks)
  passed_forgotten full below = forgets number mark full (passed_floor full below) (mark_of-same number mark marks)

  -- where it forgets its least one
  module _ (least : Row) (others : List Row) (first : w.rows ≡ least ∷ others) (below : least.number < number) (full : 16384 ≤ length w.rows) where
    moved : Moved number seq mark outcome marks least others w.accepted (inserted judged_number (record { number = number; seq = seq; outcome = outcome }) (kept history))
    moved =
        move number seq mark outcome same marks least others w.accepted (kept history) below
        (subst (λ (rows : List Row). AllZip (IsRowOf (given number mark marks)) rows (kept history)) first zip)
        stands.accepted
        (kept_rise w history marks stands order.rising.1)

    moved_floor : floor (noted number seq outcome history) ≡ least.number
    moved_floor =
        let above' : floor history < number = omega (arith, stands.floor) in
        let rising : Rises (w.floor ∷ map row_number (least ∷ others)) = subst (λ (rows : List Row). Rises (w.floor ∷ map row_number rows)) first order.rising in
        omega (arith, floor-full history (record { number = number; seq = seq; outcome = outcome }) (omega (arith, long)) above', moved.least_now, rising.0.0, stands.floor)

    pub stands_moved : (room : ℕ)
        → IsThatOf (record { rows = inserted row_number (record { number = number; mark = mark }) others; accepted = cond (is_accepted mark) (inserted accepted_key (record { number = number; seq = seq }) (cond (is_accepted least.mark) (drop 1 w.accepted) w.accepted)) (cond (is_accepted least.mark) (drop 1 w.accepted) w.accepted); floor = least.number; room = room }) (noted number seq outcome history) (given number mark marks)
    stands_moved room =
        let above' : floor history < number = omega (arith, stands.floor) in
        let kept' = kept-full history (record { number = number; seq = seq; outcome = outcome }) (omega (arith, long)) above' in
        record { rows = rw kept' moved.rows_now; accepted = rw kept' moved.accepted_now; floor = sym moved_floor; once = once }

    pub moved_forgotten : Some (least.number, least.mark) ≡ newly_forgotten (noted number seq outcome history) (given number mark marks)
    moved_forgotten = forgets least.number least.mark full moved_floor moved.mark_now

-- ---- another mark

pub marked_stands : (after w : Contents) (history : History) (marks : Marks) (number : ℕ) (mark : Mark) → after ≡ record w { rows = with_mark number mark w.rows } → Rises (map row_number w.rows) → is_accepted mark ≡ true → IfSome (mark_in number w.rows) (λ last. is_accepted last ≡ true) → IsThatOf w history marks → IsThatOf after history (given number mark marks)
marked_stands after w history marks number mark is rises taken was stands =
    rw is (record { rows = zip_marked number mark marks w.rows (kept history) rises taken was stands.rows; accepted = stands.accepted; floor = stands.floor; once = stands.once })

pub unmarked : (w : Contents) (number : ℕ) (mark : Mark) → mark_in number w.rows ≡ None → w ≡ record w { rows = with_mark number mark w.rows }
unmarked w number mark absent = ap (λ (rows : List Row). record w { rows = rows }) (sym (with_mark_absent number mark w.rows absent))

-- the same window in other words
pub stands_as : (history : History) (marks : Marks) (floor room : ℕ) (rows rows' : List Row) (accepted accepted' : List Accepted) → rows' ≡ rows → accepted' ≡ accepted
    → IsThatOf (record { rows = rows; accepted = accepted; floor = floor; room = room }) history marks → IsThatOf (record { rows = rows'; accepted = accepted'; floor = floor; room = room }) history marks
stands_as history marks floor room rows rows' accepted accepted' e f stands = rw (e, f) stands

pub stands_reserved : (w : Contents) (history : History) (marks : Marks) (room : ℕ) → IsThatOf w history marks → IsThatOf (record w { room = room }) history marks
stands_reserved w history marks room stands = record { rows = stands.rows; accepted = stands.accepted; floor = stands.floor; once = stands.once }

pub stands_fresh : IsThatOf (record { rows = []; accepted = []; floor = 0; room = 0 }) [] []
unfolding kept forgotten
stands_fresh = record { rows = tt; accepted = refl; floor = refl; once = λ i j d lt l. absurd (omega arith) }
