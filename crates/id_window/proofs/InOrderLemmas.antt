-- What keeps a window in order and with room.
use Rattle.std.proofs.Common.{◌≡◌, ◌≢◌, ◌∙◌, ℕ, suc, ◌-◌, ◌^◌, ◌<◌, ◌≤◌, Bool, true, false, leb, eqb, cond, Option, Some, None, List, [], ◌∷◌, map, length, drop, get_or, ap, subst, refl, sym, inl, inr, arith, IfSome}
use Rattle.std.specs.List.{list_any, filter_map, cons_option}
use Rattle.std.proofs.lemmas.Bool.{cases_lt, cases_eq, cases_Bool, le-leb, lt-leb, eq-eqb, ne_eqb, or_parts}
use Rattle.std.proofs.lemmas.List.{map-id, length-map}
use Rattle.id_window.specs.declared.cross.Cross.TheVariants.{None as Apart}
use Rattle.id_window.specs.declared.mark.Mark.{Mark}
use Rattle.id_window.specs.declared.rows.Row.{Row}
use Rattle.id_window.specs.declared.rows.Accepted.{Accepted}
use Rattle.id_window.specs.Marks.{is_accepted}
use Rattle.id_window.specs.History.{inserted}
use Rattle.id_window.specs.Crossing.{makes_low, makes_high, crossing}
use Rattle.id_window.specs.Window.{IsAbove, Rises, SeqsNeverFall, IsInOrder, accepted_number, mark_in, with_mark, room_in}
use Rattle.id_window.proofs.CrossingLemmas.{none_low, none_high}
use Rattle.id_window.proofs.PlaceLemmas.{row_number, accepted_key, above_lower}
use Rattle.id_window.proofs.OrderLemmas.{Absent, absent_from_mark, option_inserted, length-inserted, rises_from_floor, rises_parts, absent_parts, parts_inserted, numbers_inserted, seqs_inserted}

-- ---- a window's order

-- a row's part is its number
part_of_row : (row : Row) (number : ℕ) → accepted_number row ≡ Some number → number ≡ row.number
part_of_row row number e = elim (cases_Bool (is_accepted row.mark)) [
  | inl taken ↦ let s : Some row.number ≡ Some number = rw taken at e in cc
  | inr left ↦ let s : None ≡ Some number = rw left at e in absurd (cc)
]

accepted_numbers : {floor : ℕ} {rows : List Row} {accepted : List Accepted} → IsInOrder floor rows accepted → map (λ (n : ℕ). n) (filter_map accepted_number rows) ≡ map accepted_key accepted
accepted_numbers order = map-id _ ∙ sym order.same_accepted

module _ (floor : ℕ) (rows : List Row) (accepted : List Accepted) (order : IsInOrder floor rows accepted) where
  pub accepted_rise : Rises (map accepted_key accepted)
  accepted_rise = subst Rises (accepted_numbers order) (rises_parts row_number (λ n. n) accepted_number part_of_row rows order.rising.1)

  pub fewer_accepted : length accepted ≤ length rows
  fewer_accepted = omega (arith, length-map accepted accepted_key, ap length order.same_accepted, length_parts rows)
    where
      length_parts : (rows : List Row) → length (filter_map accepted_number rows) ≤ length rows
      length_parts [] = omega arith
      length_parts (row ∷ rows) = length_cons (accepted_number row) (filter_map accepted_number rows) (length rows) (length_parts rows)
        where
          length_cons : (o : Option ℕ) (ns : List ℕ) (n : ℕ) → length ns ≤ n → length (cons_option o ns) ≤ suc n
          length_cons None ns n le = omega arith
          length_cons (Some m) ns n le = omega arith

  -- a new number, and the marks and seqs where it doesn't cross
  pub order_entered : (number seq : ℕ) (mark : Mark) → floor < number → mark_in number rows ≡ None → (is_accepted mark ≡ true → crossing number seq accepted ≡ Apart) → length rows < 16384
      → IsInOrder floor (inserted row_number (record { number = number; mark = mark }) rows) (cond (is_accepted mark) (inserted accepted_key (record { number = number; seq = seq }) accepted) accepted)
  order_entered number seq mark above new apart room =
      let row : Row = record { number = number; mark = mark } in
      let one : Accepted = record { number = number; seq = seq } in
      let absent = absent_from_mark number rows new in
      let parts : filter_map accepted_number (inserted row_number row rows) ≡ option_inserted (λ n. n) (accepted_number row) (filter_map accepted_number rows) = parts_inserted row_number (λ n. n) accepted_number part_of_row row rows order.rising.1 in
      let rising = rises_from_floor row_number floor row rows above absent order.rising in
      let size : length (inserted row_number row rows) ≤ 16384 = omega (arith, length-inserted row_number row rows) in
      elim (cases_Bool (is_accepted mark)) [
        | inl taken ↦
            let part : accepted_number row ≡ Some number = rw taken refl in
            let gone : Absent number (map accepted_key accepted) = subst (Absent number) (accepted_numbers order) (absent_parts row_number (λ n. n) accepted_number part_of_row number rows absent) in
            rw taken (record {
              rising = rising;
              same_accepted = numbers_inserted accepted_key one accepted ∙ (ap (inserted (λ (n : ℕ). n) number) order.same_accepted ∙ (ap (λ o. option_inserted (λ n. n) o (filter_map accepted_number rows)) (sym part) ∙ sym parts));
              seqs = seqs_inserted number seq accepted (none_low number seq accepted (apart taken)) (none_high number seq accepted (apart taken)) gone order.seqs;
              size = size;
            })
        | inr left ↦
            let part : accepted_number row ≡ None = rw left refl in
            rw left (record {
              rising = rising;
              same_accepted = order.same_accepted ∙ (ap (λ o. option_inserted (λ n. n) o (filter_map accepted_number rows)) (sym part) ∙ sym parts);
              seqs = order.seqs;
              size = size;
            })
      ]

-- the least row is taken out, and the floor rises to it
tail_numbers : (n : ℕ) (accepted : List Accepted) (ns : List ℕ) → map accepted_key accepted ≡ n ∷ ns → map accepted_key (drop 1 accepted) ≡ ns
tail_numbers n [] ns same = absurd (cc)
tail_numbers n (one ∷ others) ns same = cc

tail_seqs : (accepted : List Accepted) → SeqsNeverFall accepted → SeqsNeverFall (drop 1 accepted)
tail_seqs [] falls = tt
tail_seqs (one ∷ others) falls = falls.1

pub order_taken : (floor : ℕ) (row : Row) (rows : List Row) (accepted : List Accepted) → IsInOrder floor (row ∷ rows) accepted → IsInOrder row.number rows (cond (is_accepted row.mark) (drop 1 accepted) accepted)
order_taken floor row rows accepted order = elim (cases_Bool (is_accepted row.mark)) [
  | inl taken ↦
      let same : map accepted_key accepted ≡ row.number ∷ filter_map accepted_number rows = rw taken at order.same_accepted in
      rw taken (record { rising = order.rising.1; same_accepted = tail_numbers row.number accepted (filter_map accepted_number rows) same; seqs = tail_seqs accepted order.seqs; size = omega (arith, order.size) })
  | inr left ↦
      let same : map accepted_key accepted ≡ filter_map accepted_number rows = rw left at order.same_accepted in
      rw left (record { rising = order.rising.1; same_accepted = same; seqs = order.seqs; size = omega (arith, order.size) })
]

-- another mark leaves the numbers
pub numbers-with_mark : (number : ℕ) (mark : Mark) (rows : List Row) → map row_number (with_mark number mark rows) ≡ map row_number rows
numbers-with_mark number mark [] = refl
numbers-with_mark number mark (row ∷ rows) = elim (cases_eq row.number number) [
  | inl same ↦ let e : eqb row.number number ≡ true = eq-eqb row.number number same in rw e (ap (λ n. n ∷ map row_number rows) (sym same))
  | inr other ↦ let e : eqb row.number number ≡ false = ne_eqb row.number number other in rw e (ap (λ ns. row.number ∷ ns) (numbers-with_mark number mark rows))
]

-- and a mark of an accepted message for another one leaves the accepted numbers
pub accepted-with_mark : (number : ℕ) (mark : Mark) (rows : List Row) → is_accepted mark ≡ true → IfSome (mark_in number rows) (λ last. is_accepted last ≡ true) → filter_map accepted_number (with_mark number mark rows) ≡ filter_map accepted_number rows
accepted-with_mark number mark [] taken was = refl
accepted-with_mark number mark (row ∷ rows) taken was = elim (cases_eq row.number number) [
  | inl same ↦
      let e : eqb row.number number ≡ true = eq-eqb row.number number same in
      let had : is_accepted row.mark ≡ true = rw e at was in
      rw (e, taken, had) (ap (λ n. n ∷ filter_map accepted_number rows) (sym same))
  | inr other ↦
      let e : eqb row.number number ≡ false = ne_eqb row.number number other in
      let rest : IfSome (mark_in number rows) (λ last. is_accepted last ≡ true) = rw e at was in
      rw e (ap (cons_option (accepted_number row)) (accepted-with_mark number mark rows taken rest))
]

pub order_marked : (floor number : ℕ) (mark : Mark) (rows : List Row) (accepted : List Accepted) → IsInOrder floor rows accepted → is_accepted mark ≡ true → IfSome (mark_in number rows) (λ last. is_accepted last ≡ true) → IsInOrder floor (with_mark number mark rows) accepted
order_marked floor number mark rows accepted order taken was =
    let numbers = numbers-with_mark number mark rows in
    record {
      rising = rw numbers order.rising;
      same_accepted = order.same_accepted ∙ sym (accepted-with_mark number mark rows taken was);
      seqs = order.seqs;
      size = omega (arith, order.size, length-map (with_mark number mark rows) row_number, length-map rows row_number, ap length numbers);
    }

-- ---- room

-- what has room for one more, and for all that are reserved without it
pub room_for_one : (reserved capacity count : ℕ) → 0 < reserved → reserved ≤ room_in capacity count → count < 16384 → count < capacity
room_for_one reserved capacity count some le size = elim (cases_lt capacity 16384) [
  | inl small ↦ let e : leb 16384 capacity ≡ false = lt-leb 16384 capacity small in let le' : reserved ≤ capacity - count = rw e at le in omega arith
  | inr all ↦ omega arith
]

pub room_left : (reserved capacity count capacity' count' : ℕ) → reserved < 2 ^ 64 → reserved ≤ room_in capacity count → capacity ≤ capacity' → count' ≤ suc count → reserved - 1 ≤ room_in capacity' count'
room_left reserved capacity count capacity' count' fits le more counts = elim (cases_lt capacity' 16384) [
  | inl small ↦
      let e : leb 16384 capacity ≡ false = lt-leb 16384 capacity (omega arith) in
      let e' : leb 16384 capacity' ≡ false = lt-leb 16384 capacity' small in
      let le' : reserved ≤ capacity - count = rw e at le in
      rw e' (omega arith)
  | inr all ↦ let e' : leb 16384 capacity' ≡ true = le-leb 16384 capacity' all in rw e' (omega arith)
]

pub room_kept : (reserved capacity count capacity' count' : ℕ) → reserved ≤ room_in capacity count → capacity' ≡ capacity → count' ≤ count → reserved ≤ room_in capacity' count'
room_kept reserved capacity count capacity' count' le same counts = elim (cases_lt capacity 16384) [
  | inl small ↦
      let e : leb 16384 capacity ≡ false = lt-leb 16384 capacity small in
      let e' : leb 16384 capacity' ≡ false = lt-leb 16384 capacity' (omega arith) in
      let le' : reserved ≤ capacity - count = rw e at le in
      rw e' (omega arith)
  | inr all ↦
      let e : leb 16384 capacity ≡ true = le-leb 16384 capacity all in
      let e' : leb 16384 capacity' ≡ true = le-leb 16384 capacity' (omega arith) in
      let le' : reserved ≤ 2 ^ 64 = rw e at le in
      rw e' le'
]

pub length_entered : (b : Bool) (one : Accepted) (xs : List Accepted) → length (cond b (inserted accepted_key one xs) xs) ≤ suc (length xs)
length_entered true one xs = omega (arith, length-inserted accepted_key one xs)
length_entered false one xs = omega arith

pub length_taken : (b : Bool) (xs : List Accepted) → length (cond b (drop 1 xs) xs) ≤ length xs
length_taken true [] = omega arith
length_taken true (x ∷ xs) = omega arith
length_taken false xs = omega arith

-- ---- the least row out

pub mark_in_others : (number : ℕ) (row : Row) (rows : List Row) → mark_in number (row ∷ rows) ≡ None → (row.number ≢ number) × (mark_in number rows ≡ None)
mark_in_others number row rows none =
    let other = (absent_from_mark number (row ∷ rows) none).0 in
    let e : eqb row.number number ≡ false = ne_eqb row.number number other in
    (other, rw e at none)

pub apart_taken : (number seq : ℕ) (b : Bool) (xs : List Accepted) → crossing number seq xs ≡ Apart → crossing number seq (cond b (drop 1 xs) xs) ≡ Apart
apart_taken number seq false xs apart = apart
apart_taken number seq true [] apart = apart
apart_taken number seq true (x ∷ xs) apart =
    let low = (or_parts (makes_low number seq x) (list_any (makes_low number seq) xs) (none_low number seq (x ∷ xs) apart)).1 in
    let high = (or_parts (makes_high number seq x) (list_any (makes_high number seq) xs) (none_high number seq (x ∷ xs) apart)).1 in
    rw (low, high) refl

-- the same window in other words
pub order_as : (floor : ℕ) (rows rows' : List Row) (accepted accepted' : List Accepted) → rows' ≡ rows → accepted' ≡ accepted → IsInOrder floor rows accepted → IsInOrder floor rows' accepted'
order_as floor rows rows' accepted accepted' e f order = rw (e, f) order

-- a full window's least row, which is the first one, is below the number where the first one isn't above it
pub least_below : (number : ℕ) (rows : List Row) (first least : Row) (others : List Row) → rows ≡ least ∷ others → first ≡ get_or rows 0 first → first.number ≤ number → mark_in number rows ≡ None → least.number < number
least_below number rows first least others e read le none =
    let same : first ≡ least = read ∙ ap (λ (xs : List Row). get_or xs 0 first) e in
    let none' : mark_in number (least ∷ others) ≡ None = subst (λ (xs : List Row). mark_in number xs ≡ None) e none in
    omega (arith, ap row_number same, (mark_in_others number least others none').0)

pub order_left : (floor : ℕ) (rows : List Row) (least : Row) (others : List Row) (accepted accepted' : List Accepted) → IsInOrder floor rows accepted → rows ≡ least ∷ others → accepted' ≡ cond (is_accepted least.mark) (drop 1 accepted) accepted → IsInOrder least.number others accepted'
order_left floor rows least others accepted accepted' order e f =
    rw f (order_taken floor least others accepted (subst (λ (xs : List Row). IsInOrder floor xs accepted) e order))

-- a number above the rows that it is below
pub above_first : (number floor : ℕ) (rows : List Row) (first : Row) → Rises (floor ∷ map row_number rows) → 0 < length rows → first ≡ get_or rows 0 first → number < first.number → IsAbove number (map row_number rows)
above_first number floor [] first rises some read lt = absurd (omega arith)
above_first number floor (row ∷ rows) first rises some read lt =
    let below : number < row.number = omega (arith, ap row_number read) in
    (below, above_lower number row.number (map row_number rows) (omega arith) rises.1.0)
