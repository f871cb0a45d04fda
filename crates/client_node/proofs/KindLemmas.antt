-- Whether what is kept of calls has one of a kind, by those so far and the next one, or by those behind a place and before it; and
-- so have the calls that it stands for.
use Rattle.std.proofs.Common.{◌≡◌, ℕ, zero, suc, ◌<◌, ◌≤◌, ◌+◌, ◌-◌, min, not, ◌||◌, Bool, true, false, List, [], ◌∷◌, Option, Some, None, MatchOption, ◌⊎◌, inl, inr, take, length, get_or, slice_get, refl, sym, subst, ap, ◌∙◌, arith}
use Rattle.std.specs.List.{AllZip}
use Rattle.std.proofs.Math.Nat.{eq-or-lt_of_le}
use Rattle.std.proofs.Math.Seq.{take-length}
use Rattle.std.proofs.lemmas.Bool.{cases_lt}
use Rattle.std.proofs.lemmas.Option.{slice_get-get_or}
use Rattle.std.proofs.lemmas.List.Folds.{list_any_at, list_any_more}
use Rattle.call_table.specs.Kept.{IsProgressOf, IsRowOf, state_in, state_of}
use Rattle.call_table.specs.Table.{Call, Name, State, call_no}
use Rattle.call_table.specs.declared.row.Progress.{Progress}
use Rattle.call_table.specs.declared.row.Progress.TheVariants as progress
use Rattle.call_table.specs.declared.row.Row.{Row}
use Rattle.client_rules.specs.Client.{Client, calls_of}
use Rattle.client_core.specs.declared.holder.Holder.{Holder}
use Rattle.client_node.specs.Course.{Course, is_decided}
use Rattle.client_node.specs.Kinds.{NoneBetween, has_kind, has_row, is_kind, is_kind_at}
use Rattle.client_node.specs.Standing.{AllDecided, IsUndecided, LeavesUndecided, StandsAs, StandsFor, has_undecided, kept_of}
use Rattle.client_node.specs.Trace.{UndecidedIn}
use Rattle.client_node.specs.declared.calls.Kind.{Kind}
use Rattle.client_node.specs.declared.calls.Kind.TheVariants.{Undecided}
use Rattle.client_node.specs.declared.plan.Batch.{Batch}
use Rattle.client_node.specs.declared.plan.Batch.TheVariants as batch

-- the row at a place
at_place : (kind : Kind) (rows : List Row) (place : ℕ) (any : Row) → place < length rows
    → is_kind_at kind (state_in (call_no place) rows) ≡ is_kind kind (state_of (get_or rows place any).progress)
at_place kind rows place any less =
    let same : place + 1 - 1 ≡ place = omega arith in
    let here : slice_get rows place ≡ Some (get_or rows place any) = slice_get-get_or rows place any less in
    rw (same, here) refl

kind_more : (kind : Kind) (rows : List Row) (place : ℕ) → place < length rows
    → has_row kind (take place rows) ≡ false → is_kind_at kind (state_in (call_no place) rows) ≡ false
    → has_row kind (take (place + 1) rows) ≡ false
kind_more kind [] place less before next = absurd (omega (arith, less))
kind_more kind (row ∷ rows) place less before next =
    let more = list_any_more (λ one. is_kind kind (state_of one.progress)) (row ∷ rows) place row less in
    let one = sym (at_place kind (row ∷ rows) place row less) ∙ next in
    more ∙ rw (before, one) refl

pub kind_found : (kind : Kind) (rows : List Row) (place : ℕ) → place < length rows
    → is_kind_at kind (state_in (call_no place) rows) ≡ true → has_row kind rows ≡ true
kind_found kind [] place less next = absurd (omega (arith, less))
kind_found kind (row ∷ rows) place less next =
    list_any_at (λ one. is_kind kind (state_of one.progress)) (row ∷ rows) place row less (sym (at_place kind (row ∷ rows) place row less) ∙ next)

-- none so far, and not the next one
none_here : (kind : Kind) (rows : List Row) (first place other : ℕ) → NoneBetween kind rows first place → is_kind_at kind (state_in (call_no place) rows) ≡ false
    → first ≤ other → (other ≡ place) ⊎ (other < place) → is_kind_at kind (state_in (call_no other) rows) ≡ false
none_here kind rows first place other before next from (inl same) = subst (λ (at : ℕ). is_kind_at kind (state_in (call_no at) rows) ≡ false) (sym same) next
none_here kind rows first place other before next from (inr less) = before other from less

pub none_more : (kind : Kind) (rows : List Row) (first place : ℕ) → NoneBetween kind rows first place
    → is_kind_at kind (state_in (call_no place) rows) ≡ false → NoneBetween kind rows first (place + 1)
none_more kind rows first place before next other from less =
    none_here kind rows first place other before next from (eq-or-lt_of_le (omega (arith, less)))

none_upto : (kind : Kind) (rows : List Row) (end : ℕ) → end ≤ length rows → NoneBetween kind rows 0 end → has_row kind (take end rows) ≡ false
none_upto kind [] zero most none = refl
none_upto kind (row ∷ rows) zero most none = refl
none_upto kind rows (suc end) most none =
    let same : end + 1 ≡ suc end = omega arith in
    let so_far = none_upto kind rows end (omega (arith, most)) (λ place from less. none place from (omega (arith, less))) in
    subst (λ (count : ℕ). has_row kind (take count rows) ≡ false) same
    (kind_more kind rows end (omega (arith, most)) so_far (none end (omega arith) (omega arith)))

-- none from a place on, and none before it
none_either : (kind : Kind) (rows : List Row) (first place : ℕ) → NoneBetween kind rows first (length rows) → NoneBetween kind rows 0 (min first (length rows))
    → place < length rows → (place < first) ⊎ (first ≤ place) → is_kind_at kind (state_in (call_no place) rows) ≡ false
none_either kind rows first place behind before within (inl less) = before place (omega arith) (omega (arith, less, within))
none_either kind rows first place behind before within (inr from) = behind place from within

none_at_all : (kind : Kind) (rows : List Row) (first : ℕ) → NoneBetween kind rows first (length rows) → NoneBetween kind rows 0 (min first (length rows)) → has_row kind rows ≡ false
none_at_all kind rows first behind before =
    subst (λ (some : List Row). has_row kind some ≡ false) (take-length rows)
    (none_upto kind rows (length rows) (omega arith) (λ place from less. none_either kind rows first place behind before less (cases_lt place first)))

pub found_or_none : (kind : Kind) (rows : List Row) (first : ℕ) (found : Option ℕ) → NoneBetween kind rows first (length rows)
    → MatchOption found (NoneBetween kind rows 0 (min first (length rows))) (λ place. has_row kind rows ≡ true)
    → MatchOption found (has_row kind rows ≡ false) (λ place. has_row kind rows ≡ true)
found_or_none kind rows first None behind before = none_at_all kind rows first behind before
found_or_none kind rows first (Some place) behind found = found

-- ---- the calls that the rows stand for

state_told : (kept : Progress) (state : State) (names : List Name) → IsProgressOf kept state names → state_of kept ≡ state
state_told progress.Queued state names is = sym is
state_told (progress.Sent living under) state names is = sym is.0
state_told progress.Held state names is = sym is
state_told (progress.Done bytes) state names is = sym is
state_told (progress.Refused code) state names is = sym is
state_told (progress.Unknown cause) state names is = sym is

rows_tell : (kind : Kind) (rows : List Row) (calls : List Call) → AllZip IsRowOf rows calls → has_row kind rows ≡ has_kind kind calls
rows_tell kind [] [] all = refl
rows_tell kind [] (call ∷ calls) all = absurd all
rows_tell kind (row ∷ rows) [] all = absurd all
rows_tell kind (row ∷ rows) (call ∷ calls) all =
    ap (λ (state : State). is_kind kind state || has_row kind rows) (state_told row.progress call.state call.names all.0.progress)
    ∙ ap (λ (rest : Bool). is_kind kind call.state || rest) (rows_tell kind rows calls all.1)

pub kinds_tell : (kind : Kind) (kept : Holder) (whole : Client) → StandsFor kept whole → has_row kind (kept_of kept).calls.rows ≡ has_kind kind (calls_of whole)
kinds_tell kind kept whole stands = rows_tell kind (kept_of kept).calls.rows (calls_of whole) stands.calls.rows

pub decided_told : (kept : Holder) (whole : Client) → StandsFor kept whole → not (has_undecided kept) ≡ is_decided whole
decided_told kept whole stands = ap (λ (any : Bool). not any) (kinds_tell Undecided kept whole stands)

-- ---- what is left of a batch

not_true : (any : Bool) → not any ≡ true → any ≡ false
not_true false is = refl
not_true true is = sym is

not_false : (any : Bool) → not any ≡ false → any ≡ true
not_false false is = sym is
not_false true is = refl

pub all_decided : (kept : Holder) (answer : Bool) → answer ≡ not (has_undecided kept) → answer ≡ true → AllDecided kept
all_decided kept answer tells all =
    record {
      told = not_true (has_undecided kept) (sym tells ∙ all);
      stands = λ whole stands. sym (decided_told kept whole stands) ∙ sym tells ∙ all;
    }

is_undecided : {S : Type 0} (kept : Holder) (draw : S) (course : Course S) → StandsAs kept draw course → is_decided course.client ≡ false → IsUndecided kept
is_undecided kept draw course stands none =
    let told = decided_told kept course.client stands.client ∙ none in
    record {
      told = not_false (has_undecided kept) told;
      stands = λ whole stands_so. sym (decided_told kept whole stands_so) ∙ told;
    }

pub leaves_undecided : {S : Type 0} (end : Batch) (kept : Holder) (draw : S) (course : Course S) → StandsAs kept draw course → UndecidedIn end course.client → LeavesUndecided end kept
leaves_undecided batch.LinkLost kept draw course stands none = is_undecided kept draw course stands none
leaves_undecided batch.TurnsSpent kept draw course stands none = is_undecided kept draw course stands none
leaves_undecided batch.Spent kept draw course stands none = is_undecided kept draw course stands none
leaves_undecided batch.Decided kept draw course stands none = tt
leaves_undecided batch.Memory kept draw course stands none = tt
