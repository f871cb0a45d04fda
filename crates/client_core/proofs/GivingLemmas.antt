-- The turns of queued calls come one after the other, and none goes.
use Rattle.std.proofs.Common.{◌≡◌, ◌∙◌, ℕ, suc, ◌≤◌, ◌<◌, ◌+◌, Bool, true, false, List, [], ◌∷◌, Option, Some, None, length, drop, ap, refl, sym, subst, arith}
use Rattle.std.specs.Prelude.{◌≢◌, ◌||◌, fold, option_map, slice_get}
use Rattle.std.specs.List.{list_any}
use Rattle.call_table.specs.declared.call.CallNo.{CallNo}
use Rattle.call_table.specs.Table.{Call, Queued, State}
use Rattle.client_rules.specs.Filling.{Filling, living_number, says_call, turn_behind, turn_by}
use Rattle.client_core.specs.Draft.{Goes, LeavesQueue, nothing_yet, queue}
use Rattle.client_core.specs.Due.{Quiet, goes_at, goes_now}
use Rattle.client_core.specs.Kept.{Contents}
use Rattle.client_core.proofs.CallLemmas.{value}
use Rattle.client_core.proofs.QueueLemmas.{drop_get, drop_none}
use Rattle.client_core.proofs.QuietLemmas.{any_same}

or_left : (one other : Bool) → (one || other) ≡ false → one ≡ false
or_left true other is = is
or_left false other is = refl

or_right : (one other : Bool) → (one || other) ≡ false → other ≡ false
or_right true other is = grind (arith, is)
or_right false other is = is

none_left : {X : Type 0} (xs : List X) → length xs ≡ 0 → xs ≡ []
none_left [] none = refl
none_left (x ∷ xs) none = absurd (omega (arith, none))

pub state_waits : (own : Option Call) → option_map (λ one. one.state) own ≡ Some Queued → goes_now (turn_behind own) ≡ false
state_waits None is = grind (arith, is)
state_waits (Some one) is = ap (λ (state : State). goes_now (turn_by state (living_number one))) (ap (value Queued) is)

pub quiet_none : {S : Type 0} (first : Filling S) (core : Contents) (count : ℕ) → Goes core nothing_yet first → count ≡ length (queue first) → list_any (goes_at first.client) (queue first) ≡ false
    → Quiet first core 0 0 count
quiet_none first core count is all none = record { now = first; goes = is; same = refl; left = omega (arith, all); none = none }

-- the next call doesn't go
pub quiet_still : {S : Type 0} (first : Filling S) (core : Contents) (place k count : ℕ) (call : CallNo) → (so : Quiet first core place k count) → Some call ≡ slice_get (queue so.now) place
    → goes_at so.now.client call ≡ false
quiet_still first core place k count call so told =
    let here = drop_get (queue so.now) place call (sym told) in
    or_left (goes_at so.now.client call) (list_any (goes_at so.now.client) (drop (suc place) (queue so.now)))
    (sym (ap (list_any (goes_at so.now.client)) here) ∙ so.none)

-- it left the queue
pub quiet_left : {S : Type 0} (first : Filling S) (core new : Contents) (place k count : ℕ) (call : CallNo) → (so : Quiet first core place k count) → Some call ≡ slice_get (queue so.now) place
    → Goes new nothing_yet (says_call so.now call) → LeavesQueue call so.now (says_call so.now call)
    → ((other : CallNo) → goes_at (says_call so.now call).client other ≡ goes_at so.now.client other)
    → Quiet first new place (k + 1) count
quiet_left first core new place k count call so told is gone same =
    let here = drop_get (queue so.now) place call (sym told) in
    let rest = gone place (sym told) in
    let next = says_call so.now call in
    record {
      now = next;
      goes = is;
      same = so.same ∙ (ap (fold says_call so.now) here ∙ ap (fold says_call next) (sym rest));
      left = omega (arith, so.left, ap length here, ap length rest);
      none = ap (list_any (goes_at next.client)) rest
          ∙ (any_same (goes_at next.client) (goes_at so.now.client) same (drop (suc place) (queue so.now))
          ∙ or_right (goes_at so.now.client call) (list_any (goes_at so.now.client) (drop (suc place) (queue so.now)))
          (sym (ap (list_any (goes_at so.now.client)) here) ∙ so.none));
    }

-- it waits
pub quiet_waits : {S : Type 0} (first : Filling S) (core new : Contents) (place k count : ℕ) (call : CallNo) → (so : Quiet first core place k count) → Some call ≡ slice_get (queue so.now) place
    → Goes new nothing_yet (says_call so.now call) → says_call so.now call ≡ so.now
    → Quiet first new (place + 1) (k + 1) count
quiet_waits first core new place k count call so told is stays =
    let here = drop_get (queue so.now) place call (sym told) in
    let more : suc place ≡ place + 1 = omega arith in
    record {
      now = so.now;
      goes = subst (Goes new nothing_yet) stays is;
      same = so.same ∙ (ap (fold says_call so.now) here ∙ (ap (λ own. fold says_call own (drop (suc place) (queue so.now))) stays ∙ ap (λ n. fold says_call so.now (drop n (queue so.now))) more));
      left = omega (arith, so.left, ap length here, ap (λ n. length (drop n (queue so.now))) more);
      none = ap (λ n. list_any (goes_at so.now.client) (drop n (queue so.now))) (sym more)
          ∙ or_right (goes_at so.now.client call) (list_any (goes_at so.now.client) (drop (suc place) (queue so.now)))
          (sym (ap (list_any (goes_at so.now.client)) here) ∙ so.none);
    }

-- there is a next call
pub quiet_next : {S : Type 0} (first : Filling S) (core : Contents) (place k count : ℕ) → (so : Quiet first core place k count) → k < count → slice_get (queue so.now) place ≢ None
quiet_next first core place k count so less = λ none.
    let gone = drop_none (queue so.now) place none in
    absurd (omega (arith, so.left, ap length gone, less))

-- all turns came
pub quiet_all : {S : Type 0} (first : Filling S) (core : Contents) (place k count : ℕ) → Quiet first core place k count → count ≤ k → Goes core nothing_yet (fold says_call first (queue first))
quiet_all first core place k count so all =
    let none = none_left (drop place (queue so.now)) (omega (arith, so.left, all)) in
    subst (Goes core nothing_yet) (sym (so.same ∙ ap (fold says_call so.now) none)) so.goes
