-- The queue of calls, as it is gone through.
use Rattle.std.proofs.Common.{◌≡◌, ◌∙◌, ℕ, zero, suc, ◌+◌, ◌-◌, ◌≤◌, Bool, true, false, List, [], ◌∷◌, Some, None, length, map, drop, ap, refl, sym, subst, inl, inr, arith}
use Rattle.std.specs.Prelude.{◌≢◌, if◌then◌else◌, option_map, slice_get, fold}
use Rattle.std.proofs.lemmas.Bool.{cases_Bool, true≢false}
use Rattle.std.specs.List.{drop-map}
use Rattle.call_table.specs.declared.call.CallNo.{CallNo}
use Rattle.call_table.specs.declared.call.Group.{Group}
use Rattle.call_table.specs.Table.{Call, at, call_no, changed, changed_at, group_of, is_in, places_from}
use Rattle.client_rules.specs.Client.{calls_of}
use Rattle.client_rules.specs.Filling.{Filling, says_call, says_call_at}
use Rattle.client_core.specs.Kept.{Contents}
use Rattle.client_core.specs.Draft.{Draft, Goes, LeavesQueue, SoFar, queue}
use Rattle.client_core.proofs.CallLemmas.{value}

abbrev pub put : Bool → ℕ → List ℕ → List ℕ
put is place places = if is then place ∷ places else places

pub places_here : {X : Type 0} (test : X → Bool) (place : ℕ) (x : X) (xs : List X) (is : Bool) → test x ≡ is → places_from test place (x ∷ xs) ≡ put is place (places_from test (place + 1) xs)
places_here test place x xs is told = ap (λ b. put b place (places_from test (place + 1) xs)) told

named_at : (places : List ℕ) (k : ℕ) → slice_get places k ≡ option_map (λ (call : CallNo). call.n - 1) (slice_get (map call_no places) k)
named_at [] k = refl
named_at (place ∷ places) zero = ap Some (omega arith)
named_at (place ∷ places) (suc k) = named_at places k

abbrev pub Leaves : {X : Type 0} → (X → Bool) → (X → X) → ℕ → ℕ → ℕ → List X → Type 0
Leaves test f place j k xs = (i : ℕ) × ((k ≡ place + i) × (drop j (places_from test place (changed_at i f xs)) ≡ drop (suc j) (places_from test place xs)))

leaves_here : {X : Type 0} (test : X → Bool) (f : X → X) (fails : (x : X) → test (f x) ≡ false) (place j k : ℕ) (x : X) (xs : List X) → test x ≡ true
    → ((before : ℕ) → slice_get (places_from test (place + 1) xs) before ≡ Some k → Leaves test f (place + 1) before k xs)
    → slice_get (place ∷ places_from test (place + 1) xs) j ≡ Some k → Leaves test f place j k (x ∷ xs)
leaves_here test f fails place zero k x xs holds later told = (
  0,
  (
    omega (arith, ap (value 0) told),
    ap (drop 0) (places_here test place (f x) xs false (fails x)) ∙ sym (ap (drop 1) (places_here test place x xs true holds)),
  ),
)
leaves_here test f fails place (suc j) k x xs holds later told =
    let next = later j told in (
      suc next.0,
      (
        omega (arith, next.1.0),
        ap (drop (suc j)) (places_here test place x (changed_at next.0 f xs) true holds) ∙ (next.1.1 ∙ sym (ap (drop (suc (suc j))) (places_here test place x xs true holds))),
      ),
    )

-- the one at a place doesn't pass any more: those behind it move up
pub leaves : {X : Type 0} (test : X → Bool) (f : X → X) (fails : (x : X) → test (f x) ≡ false) (place j k : ℕ) (xs : List X)
    → slice_get (places_from test place xs) j ≡ Some k → Leaves test f place j k xs
leaves test f fails place j k [] told = grind (arith, told)
leaves test f fails place j k (x ∷ xs) told = elim (cases_Bool (test x)) [
  | inl holds ↦ leaves_here test f fails place j k x xs holds (λ before. leaves test f fails (place + 1) before k xs) (ap (λ places. slice_get places j) (sym (places_here test place x xs true holds)) ∙ told)
  | inr fails_now ↦
      let later = leaves test f fails (place + 1) j k xs (ap (λ places. slice_get places j) (sym (places_here test place x xs false fails_now)) ∙ told) in (
        suc later.0,
        (
          omega (arith, later.1.0),
          ap (drop j) (places_here test place x (changed_at later.0 f xs) false fails_now) ∙ (later.1.1 ∙ sym (ap (drop (suc j)) (places_here test place x xs false fails_now))),
        ),
      )
]

-- a call leaves a group
pub left_group : (group : Group) (change : Call → Call) → ((one : Call) → is_in group (change one) ≡ false) → (calls : List Call) (call : CallNo) (place : ℕ)
    → slice_get (group_of group calls) place ≡ Some call
    → drop place (group_of group (changed call change calls)) ≡ drop (suc place) (group_of group calls)
left_group group change fails calls call place told =
    let there = named_at (places_from (is_in group) 0 calls) place ∙ ap (option_map (λ (one : CallNo). one.n - 1)) told in
    let gone = leaves (is_in group) change fails 0 place (call.n - 1) calls there in
    let same : call.n - 1 ≡ gone.0 = omega (arith, gone.1.0) in
    ap (λ (i : ℕ). drop place (group_of group (changed_at i change calls))) same
    ∙ (drop-map call_no place (places_from (is_in group) 0 (changed_at gone.0 change calls))
    ∙ (ap (map call_no) gone.1.1 ∙ sym (drop-map call_no (suc place) (places_from (is_in group) 0 calls))))

pub drop_get : {X : Type 0} (xs : List X) (k : ℕ) (x : X) → slice_get xs k ≡ Some x → drop k xs ≡ x ∷ drop (suc k) xs
drop_get [] k x is = grind (arith, is)
drop_get (y ∷ xs) zero x is = ap (λ own. value x own ∷ xs) is
drop_get (y ∷ xs) (suc k) x is = drop_get xs k x is

pub drop_none : {X : Type 0} (xs : List X) (k : ℕ) → slice_get xs k ≡ None → drop k xs ≡ []
drop_none [] zero is = refl
drop_none [] (suc k) is = refl
drop_none (x ∷ xs) zero is = grind (arith, is)
drop_none (x ∷ xs) (suc k) is = drop_none xs k is

-- a full packet takes no call
pub full_calls : {S : Type 0} (filling : Filling S) (calls : List CallNo) → filling.is_full ≡ true → fold says_call filling calls ≡ filling
full_calls filling [] full = refl
full_calls filling (call ∷ calls) full =
    let stays : says_call filling call ≡ filling = ap (λ b. if b then filling else says_call_at call (at call (calls_of filling.client)) filling) full in
    ap (λ own. fold says_call own calls) stays ∙ full_calls filling calls full

-- ---- the loop over the queue

pub so_far_none : {S : Type 0} (first : Filling S) (core : Contents) (draft : Draft) (count : ℕ) → Goes core draft first → count ≡ length (queue first) → SoFar first core draft 0 0 count
so_far_none first core draft count is all = record { now = first; goes = is; same = refl; left = λ room. omega (arith, all) }

-- a call left the queue
pub so_far_left : {S : Type 0} (first : Filling S) (core new : Contents) (draft after : Draft) (place k count : ℕ) (call : CallNo)
    → (so : SoFar first core draft place k count) → draft.is_full ≡ false → Some call ≡ slice_get (queue so.now) place
    → Goes new after (says_call so.now call) → LeavesQueue call so.now (says_call so.now call) → SoFar first new after place (k + 1) count
so_far_left first core new draft after place k count call so room told is gone =
    let here = drop_get (queue so.now) place call (sym told) in
    let rest = gone place (sym told) in
    record {
      now = says_call so.now call;
      goes = is;
      same = so.same ∙ (ap (fold says_call so.now) here ∙ ap (fold says_call (says_call so.now call)) (sym rest));
      left = λ still. omega (arith, so.left room, ap length here, ap length rest);
    }

-- a call waits
pub so_far_waits : {S : Type 0} (first : Filling S) (core new : Contents) (draft after : Draft) (place k count : ℕ) (call : CallNo)
    → (so : SoFar first core draft place k count) → draft.is_full ≡ false → Some call ≡ slice_get (queue so.now) place
    → Goes new after (says_call so.now call) → (after.is_full ≡ false → says_call so.now call ≡ so.now) → SoFar first new after (place + 1) (k + 1) count
so_far_waits first core new draft after place k count call so room told is waits =
    let here = drop_get (queue so.now) place call (sym told) in
    let next = says_call so.now call in
    let more : place + 1 ≡ suc place = omega arith in
    elim (cases_Bool after.is_full) [
      | inl full ↦ record {
        now = next;
        goes = is;
        same = so.same ∙ (ap (fold says_call so.now) here ∙ (full_calls next (drop (suc place) (queue so.now)) (sym is.is_full ∙ full) ∙ sym (full_calls next (drop (place + 1) (queue next)) (sym is.is_full ∙ full))));
        left = λ still. absurd (true≢false (sym full ∙ still));
      }
      | inr still ↦
          let stays = waits still in
          record {
            now = so.now;
            goes = subst (Goes new after) stays is;
            same = so.same ∙ (ap (fold says_call so.now) here ∙ (ap (λ own. fold says_call own (drop (suc place) (queue so.now))) stays ∙ ap (λ n. fold says_call so.now (drop n (queue so.now))) (sym more)));
            left = λ room_now. omega (arith, so.left room, ap length here, ap (λ n. length (drop n (queue so.now))) more);
          }
    ]

-- no further turn comes where an item didn't fit
pub so_far_full : {S : Type 0} (first : Filling S) (core : Contents) (draft : Draft) (place k count : ℕ) → SoFar first core draft place k count → draft.is_full ≡ true
    → Goes core draft (fold says_call first (queue first))
so_far_full first core draft place k count so full =
    subst (Goes core draft) (sym (so.same ∙ full_calls so.now (drop place (queue so.now)) (sym so.goes.is_full ∙ full))) so.goes

none_left : {X : Type 0} (xs : List X) → length xs ≡ 0 → xs ≡ []
none_left [] none = refl
none_left (x ∷ xs) none = absurd (omega (arith, none))

-- all turns came
pub so_far_all : {S : Type 0} (first : Filling S) (core : Contents) (draft : Draft) (place k count : ℕ) → SoFar first core draft place k count → count ≤ k
    → Goes core draft (fold says_call first (queue first))
so_far_all first core draft place k count so all = elim (cases_Bool draft.is_full) [
  | inl full ↦ so_far_full first core draft place k count so full
  | inr still ↦
      let none = none_left (drop place (queue so.now)) (omega (arith, so.left still, all)) in
      subst (Goes core draft) (sym (so.same ∙ ap (fold says_call so.now) none)) so.goes
]
