-- What a rule says of one call, and of all.
use Rattle.std.proofs.Common.{◌≡◌, ◌∙◌, ℕ, zero, suc, ◌-◌, Bool, List, [], ◌∷◌, map, ap, refl, Option, Some, None}
use Rattle.std.specs.Prelude.{option_map, slice_get}
use Rattle.call_table.specs.declared.call.CallNo.{CallNo}
use Rattle.call_table.specs.declared.call.Fate.{Fate}
use Rattle.call_table.specs.declared.call.Group.TheVariants.{Outstanding, Held, Queued}
use Rattle.call_table.specs.declared.row.Progress.{Progress}
use Rattle.call_table.specs.declared.row.Progress.TheVariants as progress
use Rattle.call_table.specs.declared.row.Row.{Row}
use Rattle.call_table.specs.Table.{Call, State, at, changed, changed_at, is_in, settled}
use Rattle.call_table.specs.Table as table
use Rattle.call_table.specs.Kept.{is_row_in, settled_row}
use Rattle.client_calls.specs.declared.settling.Rule.{Rule}
use Rattle.client_calls.specs.declared.settling.Rule.TheVariants as rule
use Rattle.client_calls.specs.Rules.{call_by, changed_if, fate_by, fate_in, row_by}
use Rattle.client_calls.proofs.ChangeLemmas.{same_at, value}

-- ---- one that something becomes of

row_settles : (rule : Rule) (own : Option Row) (fate : Fate) → option_map (fate_in rule) own ≡ Some (Some fate) → option_map (settled_row fate) own ≡ option_map (row_by rule) own
row_settles rule None fate told = refl
row_settles rule (Some row) fate told = rw (ap (value None) told) refl

pub rows_settle : (rule : Rule) (call : CallNo) (rows : List Row) (fate : Fate) → option_map (fate_in rule) (at call rows) ≡ Some (Some fate) → changed call (settled_row fate) rows ≡ changed call (row_by rule) rows
rows_settle rule call rows fate told = same_at (settled_row fate) (row_by rule) (call.n - 1) rows (row_settles rule (at call rows) fate told)

call_settles : (rule : Rule) (own : Option Call) (fate : Fate) → option_map (fate_by rule) own ≡ Some (Some fate) → option_map (settled fate) own ≡ option_map (call_by rule) own
call_settles rule None fate told = refl
call_settles rule (Some call) fate told = rw (ap (value None) told) refl

pub calls_settle : (rule : Rule) (call : CallNo) (calls : List Call) (fate : Fate) → option_map (fate_by rule) (at call calls) ≡ Some (Some fate) → changed call (settled fate) calls ≡ changed call (call_by rule) calls
calls_settle rule call calls fate told = same_at (settled fate) (call_by rule) (call.n - 1) calls (call_settles rule (at call calls) fate told)

-- ---- one that stays

-- a change that leaves the one it is of leaves all
pub stays_at : {X : Type 0} (change : X → X) (k : ℕ) (xs : List X) → option_map change (slice_get xs k) ≡ slice_get xs k → changed_at k change xs ≡ xs
stays_at change k [] same = refl
stays_at change zero (x ∷ xs) same = ap (λ y. y ∷ xs) (ap (value x) same)
stays_at change (suc k) (x ∷ xs) same = ap (λ ys. x ∷ ys) (stays_at change k xs same)

row_stays : (rule : Rule) (own : Option Row) → option_map (fate_in rule) own ≡ Some None → option_map (row_by rule) own ≡ own
row_stays rule None told = refl
row_stays rule (Some row) told = rw (ap (value None) told) refl

pub rows_stay : (rule : Rule) (call : CallNo) (rows : List Row) → option_map (fate_in rule) (at call rows) ≡ Some None → changed call (row_by rule) rows ≡ rows
rows_stay rule call rows told = stays_at (row_by rule) (call.n - 1) rows (row_stays rule (at call rows) told)

call_stays : (rule : Rule) (own : Option Call) → option_map (fate_by rule) own ≡ Some None → option_map (call_by rule) own ≡ own
call_stays rule None told = refl
call_stays rule (Some call) told = rw (ap (value None) told) refl

pub calls_stay : (rule : Rule) (call : CallNo) (calls : List Call) → option_map (fate_by rule) (at call calls) ≡ Some None → changed call (call_by rule) calls ≡ calls
calls_stay rule call calls told = stays_at (call_by rule) (call.n - 1) calls (call_stays rule (at call calls) told)

-- ---- all groups together are all calls

maps_once : {X : Type 0} (f g : X → X) → ((x : X) → f x ≡ g x) → (xs : List X) → map f xs ≡ map g xs
maps_once f g same [] = refl
maps_once f g same (x ∷ xs) = ap (λ y. y ∷ map f xs) (same x) ∙ ap (λ ys. g x ∷ ys) (maps_once f g same xs)

maps_twice : {X : Type 0} (f g h : X → X) → ((x : X) → f (g x) ≡ h x) → (xs : List X) → map f (map g xs) ≡ map h xs
maps_twice f g h same [] = refl
maps_twice f g h same (x ∷ xs) = ap (λ y. y ∷ map f (map g xs)) (same x) ∙ ap (λ ys. h x ∷ ys) (maps_twice f g h same xs)

maps_thrice : {X : Type 0} (e f g h : X → X) → ((x : X) → e (f (g x)) ≡ h x) → (xs : List X) → map e (map f (map g xs)) ≡ map h xs
maps_thrice e f g h same [] = refl
maps_thrice e f g h same (x ∷ xs) = ap (λ y. y ∷ map e (map f (map g xs))) (same x) ∙ ap (λ ys. h x ∷ ys) (maps_thrice e f g h same xs)

row_learnt : (is_first : Bool) (salt : ℕ) (row : Row) (one : Progress) → row.progress ≡ one → changed_if (is_row_in Outstanding) (row_by (rule.Learnt is_first salt)) row ≡ row_by (rule.Learnt is_first salt) row
row_learnt is_first salt row (progress.Sent living under) is = rw is refl
row_learnt is_first salt row progress.Queued is = rw is refl
row_learnt is_first salt row progress.Held is = rw is refl
row_learnt is_first salt row (progress.Done bytes) is = rw is refl
row_learnt is_first salt row (progress.Refused code) is = rw is refl
row_learnt is_first salt row (progress.Unknown cause) is = rw is refl

pub rows_learnt : (is_first : Bool) (salt : ℕ) (rows : List Row) → map (changed_if (is_row_in Outstanding) (row_by (rule.Learnt is_first salt))) rows ≡ map (row_by (rule.Learnt is_first salt)) rows
rows_learnt is_first salt rows = maps_once _ _ (λ row. row_learnt is_first salt row row.progress refl) rows

call_learnt : (is_first : Bool) (salt : ℕ) (call : Call) (state : State) → call.state ≡ state → changed_if (is_in Outstanding) (call_by (rule.Learnt is_first salt)) call ≡ call_by (rule.Learnt is_first salt) call
call_learnt is_first salt call table.Sent is = rw is refl
call_learnt is_first salt call table.Queued is = rw is refl
call_learnt is_first salt call table.Held is = rw is refl
call_learnt is_first salt call (table.Done bytes) is = rw is refl
call_learnt is_first salt call (table.Refused code) is = rw is refl
call_learnt is_first salt call (table.Unknown cause) is = rw is refl

pub calls_learnt : (is_first : Bool) (salt : ℕ) (calls : List Call) → map (changed_if (is_in Outstanding) (call_by (rule.Learnt is_first salt))) calls ≡ map (call_by (rule.Learnt is_first salt)) calls
calls_learnt is_first salt calls = maps_once _ _ (λ call. call_learnt is_first salt call call.state refl) calls

pub calls_learnt_by : (one : Rule) (is_first : Bool) (salt : ℕ) (calls : List Call) → one ≡ rule.Learnt is_first salt → map (changed_if (is_in Outstanding) (call_by one)) calls ≡ map (call_by one) calls
calls_learnt_by one is_first salt calls is = rw is (calls_learnt is_first salt calls)

abbrev rows_in_two : Rule → Row → Row
rows_in_two rule row = changed_if (is_row_in Held) (row_by rule) (changed_if (is_row_in Outstanding) (row_by rule) row)

row_renewed : (row : Row) (one : Progress) → row.progress ≡ one → rows_in_two rule.Renewed row ≡ row_by rule.Renewed row
row_renewed row (progress.Sent living under) is = rw is refl
row_renewed row progress.Queued is = rw is refl
row_renewed row progress.Held is = rw is refl
row_renewed row (progress.Done bytes) is = rw is refl
row_renewed row (progress.Refused code) is = rw is refl
row_renewed row (progress.Unknown cause) is = rw is refl

pub rows_renewed : (rows : List Row) → map (changed_if (is_row_in Held) (row_by rule.Renewed)) (map (changed_if (is_row_in Outstanding) (row_by rule.Renewed)) rows) ≡ map (row_by rule.Renewed) rows
rows_renewed rows = maps_twice _ _ _ (λ row. row_renewed row row.progress refl) rows

abbrev calls_in_two : Rule → Call → Call
calls_in_two rule call = changed_if (is_in Held) (call_by rule) (changed_if (is_in Outstanding) (call_by rule) call)

call_renewed : (call : Call) (state : State) → call.state ≡ state → calls_in_two rule.Renewed call ≡ call_by rule.Renewed call
call_renewed call table.Sent is = rw is refl
call_renewed call table.Queued is = rw is refl
call_renewed call table.Held is = rw is refl
call_renewed call (table.Done bytes) is = rw is refl
call_renewed call (table.Refused code) is = rw is refl
call_renewed call (table.Unknown cause) is = rw is refl

pub calls_renewed : (calls : List Call) → map (changed_if (is_in Held) (call_by rule.Renewed)) (map (changed_if (is_in Outstanding) (call_by rule.Renewed)) calls) ≡ map (call_by rule.Renewed) calls
calls_renewed calls = maps_twice _ _ _ (λ call. call_renewed call call.state refl) calls

row_ended : (row : Row) (one : Progress) → row.progress ≡ one → changed_if (is_row_in Queued) (row_by rule.Ended) (rows_in_two rule.Ended row) ≡ row_by rule.Ended row
row_ended row (progress.Sent living under) is = rw is refl
row_ended row progress.Queued is = rw is refl
row_ended row progress.Held is = rw is refl
row_ended row (progress.Done bytes) is = rw is refl
row_ended row (progress.Refused code) is = rw is refl
row_ended row (progress.Unknown cause) is = rw is refl

pub rows_ended : (rows : List Row) → map (changed_if (is_row_in Queued) (row_by rule.Ended)) (map (changed_if (is_row_in Held) (row_by rule.Ended)) (map (changed_if (is_row_in Outstanding) (row_by rule.Ended)) rows)) ≡ map (row_by rule.Ended) rows
rows_ended rows = maps_thrice _ _ _ _ (λ row. row_ended row row.progress refl) rows

call_ended : (call : Call) (state : State) → call.state ≡ state → changed_if (is_in Queued) (call_by rule.Ended) (calls_in_two rule.Ended call) ≡ call_by rule.Ended call
call_ended call table.Sent is = rw is refl
call_ended call table.Queued is = rw is refl
call_ended call table.Held is = rw is refl
call_ended call (table.Done bytes) is = rw is refl
call_ended call (table.Refused code) is = rw is refl
call_ended call (table.Unknown cause) is = rw is refl

pub calls_ended : (calls : List Call) → map (changed_if (is_in Queued) (call_by rule.Ended)) (map (changed_if (is_in Held) (call_by rule.Ended)) (map (changed_if (is_in Outstanding) (call_by rule.Ended)) calls)) ≡ map (call_by rule.Ended) calls
calls_ended calls = maps_thrice _ _ _ _ (λ call. call_ended call call.state refl) calls
