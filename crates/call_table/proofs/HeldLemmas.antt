-- What stands beside the rows, after a change.
use Rattle.std.proofs.Common.{◌≡◌, ◌∙◌, ℕ, zero, suc, ◌+◌, ◌-◌, ◌<◌, ◌≤◌, Bool, true, false, Option, None, Some, List, [], ◌∷◌, ◌++◌, length, set, get_or, ap, refl, sym, subst, inl, inr, arith, length-append}
use Rattle.std.specs.Prelude.{slice_get, option_map, IfSome, IsSome, ◌≢◌}
use Rattle.std.specs.List.{AllByRecursion}
use Rattle.std.proofs.lemmas.Bool.{cases_Bool}
use Rattle.call_table.specs.declared.call.CallNo.{CallNo}
use Rattle.call_table.specs.declared.call.Flags.{Flags}
use Rattle.std.proofs.Math.ListN.{length-set}
use Rattle.call_table.specs.declared.call.Fate.{Fate}
use Rattle.call_table.specs.declared.call.Fate.TheVariants as fate
use Rattle.call_table.specs.declared.call.Group.{Group}
use Rattle.call_table.specs.declared.call.Group.TheVariants as group
use Rattle.call_table.specs.declared.names.Named.{Named}
use Rattle.call_table.specs.declared.groups.Groups.{Groups}
use Rattle.call_table.specs.declared.row.Progress.{Progress}
use Rattle.call_table.specs.declared.row.Progress.TheVariants as progress
use Rattle.call_table.specs.declared.row.Row.{Row}
use Rattle.call_table.specs.Table.{State, Queued, Sent, Held, Done, Refused, Unknown, is_queued, is_sent, is_held, IsGiven, call_no, no_flags, places_from, changed_at, calls_max, IsEarlier}
use Rattle.call_table.specs.Kept.{Contents, IsMember, state_of, state_in, number_in, under_in, is_row_in, passes, progress_again, again_row, progress_after}
use Rattle.call_table.specs.Held.{Rises, with_member, number_at, found, IsIndexed, IsUnmarked, places_in, capacity_in, FollowEarlier, IsHeld}
use Rattle.call_table.proofs.GroupLemmas.{places_rise, places_few, places_set, places_push, places_same, get_at, get_push, place_passes}
use Rattle.call_table.proofs.IndexLemmas.{indexed_same, number_at-push, number_at-row, number_at-set, number_found}
use Rattle.call_table.proofs.PlaceLemmas.{passes_within}
use Rattle.call_table.proofs.StandsLemmas.{told_at, changed_is_set}

all_set : {X : Type 0} (P : X → Type 0) (xs : List X) (k : ℕ) (y : X) → AllByRecursion P xs → P y → AllByRecursion P (set xs k y)
all_set P [] k y h new = tt
all_set P (x ∷ xs) zero y h new = (new, h.1)
all_set P (x ∷ xs) (suc k) y h new = (h.0, all_set P xs k y h.1 new)

all_push : {X : Type 0} (P : X → Type 0) (xs : List X) (y : X) → AllByRecursion P xs → P y → AllByRecursion P (xs ++ y ∷ [])
all_push P [] y h new = (new, tt)
all_push P (x ∷ xs) y h new = (h.0, all_push P xs y h.1 new)

pub all_at : {X : Type 0} (P : X → Type 0) (xs : List X) (k : ℕ) (x : X) → k < length xs → x ≡ get_or xs k x → AllByRecursion P xs → P x
all_at P [] k x within is h = absurd (omega arith)
all_at P (x' ∷ xs) zero x within is h = subst P (sym is) h.0
all_at P (x' ∷ xs) (suc k) x within is h = all_at P xs k x (omega arith) is h.1

all_get : {X : Type 0} (P : X → Type 0) (xs : List X) (k : ℕ) → AllByRecursion P xs → IfSome (slice_get xs k) P
all_get P [] k h = tt
all_get P (x ∷ xs) zero h = h.0
all_get P (x ∷ xs) (suc k) h = all_get P xs k h.1

-- ---- the earlier calls

earlier_set : (first : ℕ) (rows : List Row) (k : ℕ) (row y : Row) → k < length rows → row ≡ get_or rows k row → y.after ≡ row.after → FollowEarlier first rows → FollowEarlier first (set rows k y)
earlier_set first [] k row y within is same h = absurd (omega arith)
earlier_set first (x ∷ rows) zero row y within is same h = (subst (λ (o : Option CallNo). IfSome o (IsEarlier first)) (sym (same ∙ ap (λ (r : Row). r.after) is)) h.0, h.1)
earlier_set first (x ∷ rows) (suc k) row y within is same h = (h.0, earlier_set (first + 1) rows k row y (omega arith) is same h.1)

earlier_push : (first : ℕ) (rows : List Row) (y : Row) (place : ℕ) → place ≡ first + length rows → IfSome y.after (IsEarlier place) → FollowEarlier first rows → FollowEarlier first (rows ++ y ∷ [])
earlier_push first [] y place at new h = (subst (λ (p : ℕ). IfSome y.after (IsEarlier p)) (omega arith) new, tt)
earlier_push first (x ∷ rows) y place at new h = (h.0, earlier_push (first + 1) rows y place (omega arith) new h.1)

pub earlier_at : (first : ℕ) (rows : List Row) (k place : ℕ) (row : Row) → place ≡ first + k → k < length rows → row ≡ get_or rows k row → FollowEarlier first rows → IfSome row.after (IsEarlier place)
earlier_at first [] k place row at within is h = absurd (omega arith)
earlier_at first (x ∷ rows) zero place row at within is h =
    let here : IfSome x.after (IsEarlier place) = subst (λ (p : ℕ). IfSome x.after (IsEarlier p)) (omega arith) h.0 in
    subst (λ (r : Row). IfSome r.after (IsEarlier place)) (sym is) here
earlier_at first (x ∷ rows) (suc k) place row at within is h = earlier_at (first + 1) rows k place row (omega arith) (omega arith) is h.1

-- what is earlier than a call is there, as the call is
pub earlier_given : (after : Option CallNo) (place : ℕ) (rows : List Row) → place < length rows → IfSome after (IsEarlier place) → IfSome after (λ one. IsGiven one rows)
earlier_given None place rows within h = tt
earlier_given (Some one) place rows within h = (h.0, omega (arith, h.1))

pub given_few : (after : Option CallNo) (rows : List Row) → length rows < calls_max → IfSome after (λ one. IsGiven one rows) → IfSome after (λ one. one.n < calls_max)
given_few None rows few h = tt
given_few (Some one) rows few h = omega (arith, few, h.1)

pub earlier_below : (after : Option CallNo) (place n : ℕ) → place < n → IfSome after (IsEarlier place) → IfSome after (λ one. one.n < n)
earlier_below None place n within h = tt
earlier_below (Some one) place n within h = omega (arith, h.1)

module _ (rows : List Row) (names : List Named) (groups : Groups) (acks packets : ℕ) (held : IsHeld rows names groups acks packets) where
  -- the places of a group can be searched, and there is room for one more
  pub groups_rise : (g : Group) → Rises (places_in g groups)
  groups_rise g = subst Rises (sym (held.grouped g)) (places_rise (is_row_in g) 0 rows)

  pub groups_fit : (g : Group) → length (places_in g groups) < capacity_in g groups
  groups_fit g =
      let few = places_few (is_row_in g) 0 rows in
      let room : length rows < capacity_in g groups = held.group_room g in
      let same : length (places_in g groups) ≡ length (places_from (is_row_in g) 0 rows) = ap length (held.grouped g) in
      omega arith

  -- a row is changed
  pub held_set : (k : ℕ) (row y : Row) (names' : List Named) (after : Groups) → k < length rows
      → row ≡ get_or rows k row → y.after ≡ row.after
      → ((g : Group) → places_in g after ≡ with_member k (is_row_in g y) (places_in g groups))
      → ((g : Group) → capacity_in g groups ≤ capacity_in g after)
      → IsIndexed (set rows k y) names' → IsUnmarked y → IsHeld (set rows k y) names' after acks packets
  held_set k row y names' after within is follows placed grown indexed unmarked = record {
    indexed = indexed;
    earlier = earlier_set 0 rows k row y within is follows held.earlier;
    unmarked = all_set IsUnmarked rows k y held.unmarked unmarked;
    grouped = λ g. placed g ∙ (ap (with_member k (is_row_in g y)) (held.grouped g) ∙ places_set (is_row_in g) k 0 rows k y (omega arith) within);
    group_room = λ g. let room : length rows < capacity_in g groups = held.group_room g in let more : capacity_in g groups ≤ capacity_in g after = grown g in rw length-set (omega arith);
    few = rw length-set held.few;
    acks = held.acks;
    packets = held.packets;
  }

  -- a row is changed in nothing that concerns them
  pub held_same : (k : ℕ) (row y : Row) → k < length rows → row ≡ get_or rows k row → ((g : Group) → is_row_in g y ≡ is_row_in g row) → number_in y.progress ≡ number_at k rows
      → y.after ≡ row.after → IsUnmarked y → IsHeld (set rows k y) names groups acks packets
  held_same k row y within is same number follows unmarked = record {
    earlier = earlier_set 0 rows k row y within is follows held.earlier;
    unmarked = all_set IsUnmarked rows k y held.unmarked unmarked;
    indexed = indexed_same rows (set rows k y) names (λ j. number_at-set rows k j y number) held.indexed;
    grouped = λ g. held.grouped g ∙ sym (places_same (is_row_in g) 0 rows k row y within is (same g));
    group_room = λ g. let room : length rows < capacity_in g groups = held.group_room g in rw length-set (omega arith);
    few = rw length-set held.few;
    acks = held.acks;
    packets = held.packets;
  }

  -- a row is put behind the others
  pub held_push : (k : ℕ) (y : Row) (after : Groups) → k ≡ length rows → length rows < calls_max → number_in y.progress ≡ None
      → ((g : Group) → places_in g after ≡ with_member k (is_row_in g y) (places_in g groups))
      → ((g : Group) → k + 1 < capacity_in g after)
      → IfSome y.after (IsEarlier (length rows)) → IsUnmarked y → IsHeld (rows ++ y ∷ []) names after acks packets
  held_push k y after at few none placed room follows unmarked =
      let more : length (rows ++ y ∷ []) ≡ length rows + 1 = length-append rows (y ∷ []) in
      record {
        indexed = indexed_same rows (rows ++ y ∷ []) names (λ j. number_at-push rows j y none) held.indexed;
        unmarked = all_push IsUnmarked rows y held.unmarked unmarked;
        earlier = earlier_push 0 rows y (length rows) (omega arith) follows held.earlier;
        grouped = λ g. placed g ∙ (ap (with_member k (is_row_in g y)) (held.grouped g) ∙ places_push (is_row_in g) k 0 rows y (omega arith));
        group_room = λ g. let r : k + 1 < capacity_in g after = room g in omega arith;
        few = omega arith;
        acks = held.acks;
        packets = held.packets;
      }

-- a call that is queued isn't outstanding
queued_number : (p : Progress) → state_of p ≡ Queued → number_in p ≡ None
queued_number progress.Queued h = refl
queued_number (progress.Sent living under) h = cc
queued_number progress.Held h = refl
queued_number (progress.Done bytes) h = refl
queued_number (progress.Refused code) h = refl
queued_number (progress.Unknown cause) h = refl

-- the row of a call, in what the code holds
pub row_told : {Z : Type 0} (f : Row → Z) (z : Z) (kept : Contents) (rows : List Row) (k j : ℕ) (row : Row) → rows ≡ kept.rows → j ≡ k → j < length rows → row ≡ get_or rows j row → option_map f (slice_get kept.rows k) ≡ Some z → f row ≡ z
row_told f z kept rows k j row own at within is h =
    let there : option_map f (slice_get rows k) ≡ Some z = subst (λ (rs : List Row). option_map f (slice_get rs k) ≡ Some z) (sym own) h in
    let here : option_map f (slice_get rows j) ≡ Some z = subst (λ (i : ℕ). option_map f (slice_get rows i) ≡ Some z) (sym at) there in
    let both : Some (f row) ≡ Some z = sym (told_at f j rows row within is) ∙ here in
    cc

pub told_kept : {Z : Type 0} (f : Row → Z) (z : Z) (kept : Contents) (rows : List Row) (k j : ℕ) (row : Row) → rows ≡ kept.rows → j ≡ k → j < length rows → row ≡ get_or rows j row → f row ≡ z → option_map f (slice_get kept.rows k) ≡ Some z
told_kept f z kept rows k j row own at within is told =
    let here : option_map f (slice_get rows j) ≡ Some z = told_at f j rows row within is ∙ ap Some told in
    subst (λ (rs : List Row). option_map f (slice_get rs k) ≡ Some z) own (subst (λ (i : ℕ). option_map f (slice_get rows i) ≡ Some z) at here)

pub number_queued : (rows : List Row) (k : ℕ) (row : Row) → k < length rows → row ≡ get_or rows k row → state_of row.progress ≡ Queued → number_at k rows ≡ None
number_queued rows k row within is queued = number_at-row rows k row within ∙ (ap (λ (r : Row). number_in r.progress) (sym is) ∙ queued_number row.progress queued)

pub number_own : (rows : List Row) (k : ℕ) (row : Row) → k < length rows → row ≡ get_or rows k row → number_at k rows ≡ number_in row.progress
number_own rows k row within is = number_at-row rows k row within ∙ ap (λ (r : Row). number_in r.progress) (sym is)

-- the contents after a row was written in its place
pub kept_changed : (f : Row → Row) (rows : List Row) (kept : Contents) (k j : ℕ) (row y : Row) → rows ≡ kept.rows → j ≡ k → j < length rows → row ≡ get_or rows j row → y ≡ f row → set rows j y ≡ changed_at k f kept.rows
kept_changed f rows kept k j row y own at within is made =
    changed_is_set f j rows row y within is made ∙ (ap (λ i. changed_at i f rows) at ∙ ap (λ (rs : List Row). changed_at k f rs) own)

-- a call that is sent once more is what it was
pub state_again : (salt : ℕ) (p : Progress) → state_of (progress_again salt p) ≡ state_of p
state_again salt progress.Queued = refl
state_again salt (progress.Sent living under) = refl
state_again salt progress.Held = refl
state_again salt (progress.Done bytes) = refl
state_again salt (progress.Refused code) = refl
state_again salt (progress.Unknown cause) = refl

pub number_again : (salt : ℕ) (p : Progress) → number_in (progress_again salt p) ≡ number_in p
number_again salt progress.Queued = refl
number_again salt (progress.Sent living under) = refl
number_again salt progress.Held = refl
number_again salt (progress.Done bytes) = refl
number_again salt (progress.Refused code) = refl
number_again salt (progress.Unknown cause) = refl

pub group_again : (salt : ℕ) (row : Row) (g : Group) → is_row_in g (again_row salt row) ≡ is_row_in g row
group_again salt row group.Queued = ap is_queued (state_again salt row.progress)
group_again salt row group.Outstanding = ap is_sent (state_again salt row.progress)
group_again salt row group.Held = ap is_held (state_again salt row.progress)
group_again salt row group.Alone = refl
group_again salt row group.Dropping = refl

-- a settled call isn't outstanding
pub number_settled : (f : Fate) → number_in (progress_after f) ≡ None
number_settled fate.Queue = refl
number_settled fate.Hold = refl
number_settled (fate.Done bytes) = refl
number_settled (fate.Refused code) = refl
number_settled (fate.Unknown cause) = refl

-- ---- what is told of a state

pub sent_under : (p : Progress) → state_of p ≡ Sent → IsSome (under_in p)
sent_under progress.Queued h = cc
sent_under (progress.Sent living under) h = refl
sent_under progress.Held h = cc
sent_under (progress.Done bytes) h = cc
sent_under (progress.Refused code) h = cc
sent_under (progress.Unknown cause) h = cc

pub not_sent : (s : State) → s ≢ Sent → is_sent s ≡ false
not_sent Queued isnt = refl
not_sent Sent isnt = absurd (isnt refl)
not_sent Held isnt = refl
not_sent (Done bytes) isnt = refl
not_sent (Refused code) isnt = refl
not_sent (Unknown cause) isnt = refl

pub sent_unmarked : (row : Row) → state_of row.progress ≡ Sent → IsUnmarked row
sent_unmarked row sent = λ isnt. let e : true ≡ false = ap is_sent (sym sent) ∙ isnt in cc

is_queued_state : (s : State) → is_queued s ≡ true → s ≡ Queued
is_queued_state Queued h = refl
is_queued_state Sent h = cc
is_queued_state Held h = cc
is_queued_state (Done bytes) h = cc
is_queued_state (Refused code) h = cc
is_queued_state (Unknown cause) h = cc

is_sent_state : (s : State) → is_sent s ≡ true → s ≡ Sent
is_sent_state Queued h = cc
is_sent_state Sent h = refl
is_sent_state Held h = cc
is_sent_state (Done bytes) h = cc
is_sent_state (Refused code) h = cc
is_sent_state (Unknown cause) h = cc

is_held_state : (s : State) → is_held s ≡ true → s ≡ Held
is_held_state Queued h = cc
is_held_state Sent h = cc
is_held_state Held h = refl
is_held_state (Done bytes) h = cc
is_held_state (Refused code) h = cc
is_held_state (Unknown cause) h = cc

told_state : (o : Option Row) (test : State → Bool) (s : State) → ((t : State) → test t ≡ true → t ≡ s) → passes (λ row. test (state_of row.progress)) o ≡ true → option_map (λ row. state_of row.progress) o ≡ Some s
told_state None test s exact h = cc
told_state (Some row) test s exact h = ap Some (exact (state_of row.progress) h)

-- a marked call is sent
marked_state : (o : Option Row) (mark : Flags → Bool) → mark no_flags ≡ false → IfSome o IsUnmarked → passes (λ row. mark row.flags) o ≡ true → option_map (λ row. state_of row.progress) o ≡ Some Sent
marked_state None mark none unmarked h = cc
marked_state (Some row) mark none unmarked h = elim (cases_Bool (is_sent (state_of row.progress))) [
  | inl pass ↦ ap Some (is_sent_state (state_of row.progress) pass)
  | inr fail ↦ let e : true ≡ false = sym h ∙ (ap mark (unmarked fail) ∙ none) in cc
]

told_flag : (o : Option Row) (mark : Flags → Bool) → passes (λ row. mark row.flags) o ≡ true → option_map (λ row. mark row.flags) o ≡ Some true
told_flag None mark h = cc
told_flag (Some row) mark h = ap Some h

pub member_is : (g : Group) (call : CallNo) (rows : List Row) → AllByRecursion IsUnmarked rows → passes (is_row_in g) (slice_get rows (call.n - 1)) ≡ true → IsMember g call rows
member_is group.Queued call rows unmarked h = told_state (slice_get rows (call.n - 1)) is_queued Queued is_queued_state h
member_is group.Outstanding call rows unmarked h = told_state (slice_get rows (call.n - 1)) is_sent Sent is_sent_state h
member_is group.Held call rows unmarked h = told_state (slice_get rows (call.n - 1)) is_held Held is_held_state h
member_is group.Alone call rows unmarked h = (
  marked_state (slice_get rows (call.n - 1)) (λ flags. flags.alone) refl (all_get IsUnmarked rows (call.n - 1) unmarked) h,
  told_flag (slice_get rows (call.n - 1)) (λ flags. flags.alone) h,
)
member_is group.Dropping call rows unmarked h = (
  marked_state (slice_get rows (call.n - 1)) (λ flags. flags.dropping) refl (all_get IsUnmarked rows (call.n - 1) unmarked) h,
  told_flag (slice_get rows (call.n - 1)) (λ flags. flags.dropping) h,
)

-- where a number is found, its call is there and is sent
sent_number : (number : ℕ) (p : Progress) → number_in p ≡ Some number → state_of p ≡ Sent
sent_number number progress.Queued h = cc
sent_number number (progress.Sent living under) h = refl
sent_number number progress.Held h = cc
sent_number number (progress.Done bytes) h = cc
sent_number number (progress.Refused code) h = cc
sent_number number (progress.Unknown cause) h = cc

pub number_within : (number : ℕ) (rows : List Row) (k : ℕ) → number_at k rows ≡ Some number → k < length rows
number_within number [] k h = cc
number_within number (row ∷ rows) zero h = omega arith
number_within number (row ∷ rows) (suc k) h = omega (arith, number_within number rows k h)

pub number_state : (number : ℕ) (rows : List Row) (k : ℕ) → number_at k rows ≡ Some number → option_map (λ row. state_of row.progress) (slice_get rows k) ≡ Some Sent
number_state number [] k h = cc
number_state number (row ∷ rows) zero h = ap Some (sent_number number row.progress h)
number_state number (row ∷ rows) (suc k) h = number_state number rows k h

-- ---- what is told of a call that is answered

pub queued_push : (rows new : List Row) (y : Row) (place : ℕ) → new ≡ rows ++ y ∷ [] → place ≡ length rows → state_of y.progress ≡ Queued → state_in (call_no place) new ≡ Some Queued
queued_push rows new y place pushed at queued =
    let here : slice_get (rows ++ y ∷ []) (place + 1 - 1) ≡ Some y = subst (λ (j : ℕ). slice_get (rows ++ y ∷ []) j ≡ Some y) (omega arith) (get_push rows y) in
    let there : slice_get new (place + 1 - 1) ≡ Some y = subst (λ (rs : List Row). slice_get rs (place + 1 - 1) ≡ Some y) (sym pushed) here in
    ap (option_map (λ (row : Row). state_of row.progress)) there ∙ ap Some queued

pub record IsTold (told : CallNo → List Row → Type 0) (call : CallNo) (rows : List Row) : Type 0 where
  pub given : IsGiven call rows
  pub one : told call rows

pub member_told : (g : Group) (rows : List Row) (items : List ℕ) (k place : ℕ) → AllByRecursion IsUnmarked rows → items ≡ places_from (is_row_in g) 0 rows → k < length items → place ≡ get_or items k place → IsTold (IsMember g) (call_no place) rows
member_told g rows items k place unmarked same within is =
    let told : slice_get (places_from (is_row_in g) 0 rows) k ≡ Some place = subst (λ (ps : List ℕ). slice_get ps k ≡ Some place) same (get_at items k place within is) in
    let passing : passes (is_row_in g) (slice_get rows place) ≡ true = place_passes (is_row_in g) rows k place told in
    let inside : place < length rows = passes_within (is_row_in g) place rows passing in
    let there : passes (is_row_in g) (slice_get rows (place + 1 - 1)) ≡ true = subst (λ (j : ℕ). passes (is_row_in g) (slice_get rows j) ≡ true) (omega arith) passing in
    record { given = (omega arith, omega arith); one = member_is g (call_no place) rows unmarked there }

pub owner_told : (rows : List Row) (names : List Named) (number place : ℕ) → IsIndexed rows names → Some place ≡ found number names → IsTold (λ call rs. state_in call rs ≡ Some Sent) (call_no place) rows
owner_told rows names number place h is =
    let at : number_at place rows ≡ Some number = number_found rows names number place h.sound (sym is) in
    let inside : place < length rows = number_within number rows place at in
    record {
      given = (omega arith, omega arith);
      one = subst (λ (j : ℕ). option_map (λ (row : Row). state_of row.progress) (slice_get rows j) ≡ Some Sent) (omega arith) (number_state number rows place at);
    }
