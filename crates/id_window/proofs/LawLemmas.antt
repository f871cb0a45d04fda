-- What the laws say.
use Rattle.std.proofs.Common.{◌≡◌, ◌≢◌, ◌∙◌, ℕ, zero, suc, ◌<◌, ◌≤◌, true, false, eqb, Some, List, [], ◌∷◌, map, length, get_or, ap, refl, sym, inl, inr, arith, All}
use Rattle.std.specs.List.{list_any, AllZip}
use Rattle.std.specs.Option.{IsSomeAnd}
use Rattle.std.proofs.lemmas.Bool.{cases_lt, eq-eqb, eqb-false, or_parts, or_left, or_right}
use Rattle.std.proofs.lemmas.List.Elements.{All-nil, All-cons}
use Rattle.id_window.specs.declared.rows.Row.{Row}
use Rattle.id_window.specs.Marks.{Marks, mark_of, is_accepted}
use Rattle.id_window.specs.History.{History, FirstJudgement, was_accepted, kept, is_kept, floor}
use Rattle.id_window.specs.Window.{Contents, IsRowOf, IsThatOf, mark_in}
use Rattle.id_window.proofs.OrderLemmas.{Absent}
use Rattle.id_window.proofs.WindowLemmas.{found_is}
use Rattle.id_window.proofs.HistoryLemmas.{judged_number, never_recorded}

abbrev pub Fits : Marks → FirstJudgement → Type 0
Fits marks judgement = IsSomeAnd (mark_of judgement.number marks) (λ mark. is_accepted mark ≡ was_accepted judgement.outcome)

pub marks_fit : (marks : Marks) (rows : List Row) (js : History) → AllZip (IsRowOf marks) rows js → All (Fits marks) js
marks_fit marks [] [] zip = All-nil (Fits marks)
marks_fit marks [] (j ∷ js) zip = absurd zip
marks_fit marks (row ∷ rows) [] zip = absurd zip
marks_fit marks (row ∷ rows) (j ∷ js) zip =
    let last : mark_of j.number marks ≡ Some row.mark = ap (λ n. mark_of n marks) (sym zip.0.number) ∙ zip.0.mark in
    let here : Fits marks j = rw last zip.0.accepted in
    All-cons (Fits marks) j js here (marks_fit marks rows js zip.1)

pub other_marks : (marks others : Marks) (rows : List Row) (js : History) → ((number : ℕ) → list_any (λ j. eqb j.number number) js ≡ true → mark_of number others ≡ mark_of number marks) → AllZip (IsRowOf marks) rows js → AllZip (IsRowOf others) rows js
other_marks marks others [] [] same zip = tt
other_marks marks others [] (j ∷ js) same zip = absurd zip
other_marks marks others (row ∷ rows) [] same zip = absurd zip
other_marks marks others (row ∷ rows) (j ∷ js) same zip =
    let first : eqb j.number row.number ≡ true = eq-eqb j.number row.number (sym zip.0.number) in
    let here : mark_of row.number others ≡ mark_of row.number marks = same row.number (or_left (eqb j.number row.number) (list_any (λ j. eqb j.number row.number) js) first) in (
      record { number = zip.0.number; mark = here ∙ zip.0.mark; accepted = zip.0.accepted },
      other_marks marks others rows js (λ number later. same number (or_right (eqb j.number number) (list_any (λ j. eqb j.number number) js) later)) zip.1,
    )

absent_from_any : (number : ℕ) (js : History) → list_any (λ j. eqb j.number number) js ≡ false → Absent number (map judged_number js)
absent_from_any number [] none = tt
absent_from_any number (j ∷ js) none =
    let both = or_parts (eqb j.number number) (list_any (λ j. eqb j.number number) js) none in
    (eqb-false j.number number both.0, absent_from_any number js both.1)

all_from_absent : (number : ℕ) (js : History) → Absent number (map judged_number js) → All (λ (j : FirstJudgement). j.number ≢ number) js
all_from_absent number [] absent = All-nil (λ (j : FirstJudgement). j.number ≢ number)
all_from_absent number (j ∷ js) absent = All-cons (λ (j : FirstJudgement). j.number ≢ number) j js absent.0 (all_from_absent number js absent.1)

pub never_judged : (history : History) (number : ℕ) → floor history < number → is_kept number history ≡ false → All (λ (j : FirstJudgement). j.number ≢ number) history
never_judged history number above none = all_from_absent number history (never_recorded number history above (absent_from_any number (kept history) none))

pub not_above_floor : (history : History) → All (λ (j : FirstJudgement). is_kept j.number history ≡ false → j.number ≤ floor history) history
not_above_floor history i d within none = elim (cases_lt (floor history) (get_or history i d).number) [
  | inl above ↦ absurd (never_judged history (get_or history i d).number above none i d within refl)
  | inr le ↦ le
]

-- a judgement is one of those of its number
any_at : (js : History) (i : ℕ) (d : FirstJudgement) → i < length js → list_any (λ j. eqb j.number (get_or js i d).number) js ≡ true
any_at [] i d within = absurd (omega arith)
any_at (j ∷ js) zero d within = or_left (eqb j.number j.number) (list_any (λ k. eqb k.number j.number) js) (eq-eqb j.number j.number refl)
any_at (j ∷ js) (suc i) d within = or_right (eqb j.number (get_or js i d).number) (list_any (λ k. eqb k.number (get_or js i d).number) js) (any_at js i d (omega arith))

pub marks_had : (window : Contents) (history : History) (marks : Marks) → IsThatOf window history marks → All (λ judgement. IsSomeAnd (mark_in judgement.number window.rows) (λ mark. is_accepted mark ≡ was_accepted judgement.outcome)) (kept history)
marks_had window history marks stands i d within =
    let judgement : FirstJudgement = get_or (kept history) i d in
    let there : is_kept judgement.number history ≡ true = any_at (kept history) i d within in
    let had : mark_in judgement.number window.rows ≡ mark_of judgement.number marks = found_is window history marks stands judgement.number ∙ rw there refl in
    rw had (marks_fit marks window.rows (kept history) stands.rows i d within)
