-- How many bytes what waits comes to.
use Rattle.std.proofs.Common.{◌≡◌, ◌∙◌, ℕ, zero, suc, ◌+◌, ◌-◌, ◌≤◌, Bool, true, false, List, [], ◌∷◌, Option, Some, None, length, take, min, ap, refl, sym, inl, inr, arith}
use Rattle.std.specs.Prelude.{◌&&◌, if◌then◌else◌, is_some, nat_lt, option_map}
use Rattle.std.proofs.lemmas.Bool.{cases_Bool, true≢false}
use Rattle.call_table.specs.declared.call.CallNo.{CallNo}
use Rattle.call_table.specs.declared.call.Group.TheVariants as group
use Rattle.call_table.specs.declared.row.Row.{Row}
use Rattle.call_table.specs.declared.row.Progress.{Progress}
use Rattle.call_table.specs.declared.row.Progress.TheVariants as progress
use Rattle.call_table.specs.Table.{is_sent, places_from, with_own, with_number}
use Rattle.call_table.specs.Kept.{is_row_in, number_in, numbers_in, state_of}
use Rattle.envelope.specs.Packet.{sealed_size}
use Rattle.client_rules.specs.Client.{Asked, Binding, Bound, Client, Held, Needed, Refused, Waiting, is_open}
use Rattle.client_rules.specs.Filling.{Turn, Goes as Going, numbers_max, turn_under}
use Rattle.client_core.specs.Calling.{wrap_bytes}
use Rattle.containers.specs.Container.{message_head}
use Rattle.client_core.specs.Owed.{asked_count, call_bytes, has_unbound, holds_back, is_unbound, list_bytes, resent_on, row_bytes, row_follows, small_bytes, states_on, told_bytes, told_on}
use Rattle.client_core.specs.Draft.{Draft, HasRoomFor, TakesUp}
use Rattle.client_core.proofs.RoomLemmas.{room_left}
use Rattle.client_core.proofs.CallLemmas.{value}
use Rattle.client_core.proofs.QueueLemmas.{places_here}

-- ---- the bytes of a call

sized_by : (row : Row) (body : List ℕ) (after : Option CallNo) → Some row.body ≡ Some body → Some row.after ≡ Some after → call_bytes row ≡ message_head + (wrap_bytes after + length body)
sized_by row body after is told =
    ap (λ own. message_head + (wrap_bytes row.after + length (value body own))) is ∙ ap (λ own. message_head + (wrap_bytes (value after own) + length body)) told

pub sized : (own : Option Row) (body : List ℕ) (after : Option CallNo) → option_map (λ row. row.body) own ≡ Some body → option_map (λ row. row.after) own ≡ Some after
    → row_bytes own ≡ message_head + (wrap_bytes after + length body)
sized None body after is told = grind (arith, is)
sized (Some row) body after is told = sized_by row body after is told

pub follows_by : (own : Option Row) (after : Option CallNo) → option_map (λ row. row.after) own ≡ Some after → is_some after ≡ row_follows own
follows_by None after told = grind (arith, told)
follows_by (Some row) after told = ap (λ own. is_some (value after own)) (sym told)

-- ---- with which number a call goes

pub wrap_few : (wrap : Option ℕ) → wrap_bytes wrap ≤ 12
wrap_few None = omega arith
wrap_few (Some number) = omega arith

first_so : (after : Option CallNo) → is_some after ≡ false → after ≡ None
first_so None is = refl
first_so (Some earlier) is = absurd (true≢false is)

pub first_after : (own : Option Row) (after : Option CallNo) → option_map (λ row. row.after) own ≡ Some after → row_follows own ≡ false → after ≡ None
first_after own after told is = first_so after (follows_by own after told ∙ is)

wrap_less_by : (wrap : Option ℕ) (after : Option CallNo) → (is_some after ≡ false → wrap ≡ None) → wrap_bytes wrap ≤ wrap_bytes after
wrap_less_by wrap None so = omega (arith, ap (wrap_bytes {X = ℕ}) (so refl))
wrap_less_by wrap (Some earlier) so = wrap_few wrap

-- a call goes in as many bytes as are counted at most
pub goes_within : (own : Option Row) (wrap : Option ℕ) (body : List ℕ) → option_map (λ row. row.body) own ≡ Some body → (row_follows own ≡ false → wrap ≡ None)
    → message_head + (wrap_bytes wrap + length body) ≤ row_bytes own
goes_within None wrap body is so = absurd (grind (arith, is))
goes_within (Some row) wrap body is so =
    let same = ap (λ (own : Option (List ℕ)). length (value body own)) is in
    omega (arith, same, wrap_less_by wrap row.after so)

pub under_first : (binding : Binding) (turn : Turn) → is_unbound binding ≡ false → turn_under binding turn ≡ turn
under_first Needed turn is = absurd (true≢false is)
under_first (Asked message) turn is = absurd (true≢false is)
under_first Held turn is = absurd (true≢false is)
under_first Bound turn is = refl
under_first (Refused code) turn is = absurd (true≢false is)

-- where a call goes its binding holds
pub under_free : (binding : Binding) (turn : Turn) (wrap : Option ℕ) → turn_under binding turn ≡ Going wrap → is_unbound binding ≡ false
under_free Needed turn wrap is = absurd (grind (arith, is))
under_free (Asked message) turn wrap is = absurd (grind (arith, is))
under_free Held turn wrap is = absurd (grind (arith, is))
under_free Bound turn wrap is = refl
under_free (Refused code) turn wrap is = absurd (grind (arith, is))

unbound_free : (one two : Bool) → one ≡ true → (one && two) ≡ false → two ≡ false
unbound_free true two is free = free
unbound_free false two is free = absurd (true≢false (sym is))

none_of_both : (one two : Bool) → one ≡ false → (one && two) ≡ false
none_of_both true two is = absurd (true≢false is)
none_of_both false two is = refl

none_of_second : (one two : Bool) → two ≡ false → (one && two) ≡ false
none_of_second true two is = is
none_of_second false two is = refl

pub free_closed : (client : Client) → is_open client ≡ false → holds_back client ≡ false
free_closed client is = none_of_both (is_open client) (has_unbound client.temporary) is

pub free_none : (client : Client) → has_unbound client.temporary ≡ false → holds_back client ≡ false
free_none client is = none_of_second (is_open client) (has_unbound client.temporary) is

-- an open client that holds nothing back has a binding that holds, where it has one
pub bound_where_free : (client : Client) → is_open client ≡ true → holds_back client ≡ false → has_unbound client.temporary ≡ false
bound_where_free client opened free = unbound_free (is_open client) (has_unbound client.temporary) opened free

abbrev wrap_in : Turn → Option ℕ
wrap_in (Going wrap) = wrap
wrap_in other = None

pub wrap_first : (wrap : Option ℕ) → Going None ≡ Going wrap → wrap ≡ None
wrap_first wrap is = sym (ap wrap_in is)

pub under_wrap : (binding : Binding) (wrap : Option ℕ) → turn_under binding (Going None) ≡ Going wrap → wrap ≡ None
under_wrap Needed wrap is = absurd (grind (arith, is))
under_wrap (Asked message) wrap is = absurd (grind (arith, is))
under_wrap Held wrap is = absurd (grind (arith, is))
under_wrap Bound wrap is = wrap_first wrap is
under_wrap (Refused code) wrap is = absurd (grind (arith, is))

-- ---- how many there are

pub places_few : {X : Type 0} (test : X → Bool) (place : ℕ) (xs : List X) → length (places_from test place xs) ≤ length xs
places_few test place [] = omega arith
places_few test place (x ∷ xs) =
    let later = places_few test (place + 1) xs in
    elim (cases_Bool (test x)) [
      | inl holds ↦ omega (arith, ap length (places_here test place x xs true holds))
      | inr fails ↦ omega (arith, ap length (places_here test place x xs false fails))
    ]

-- as many calls are outstanding as numbers are living

with_len_by : (number first : ℕ) (others : List ℕ) (less : Bool) → length (with_number number others) ≡ length others + 1 → length (if less then first ∷ with_number number others else number ∷ (first ∷ others)) ≡ length (first ∷ others) + 1
with_len_by number first others true later = omega (arith, later)
with_len_by number first others false later = omega arith

with_len : (number : ℕ) (numbers : List ℕ) → length (with_number number numbers) ≡ length numbers + 1
with_len number [] = refl
with_len number (first ∷ others) = with_len_by number first others (nat_lt first number) (with_len number others)

own_len : (own : Progress) (numbers : List ℕ) → length (with_own (number_in own) numbers) ≡ (if is_sent (state_of own) then 1 else 0) + length numbers
own_len progress.Queued numbers = omega arith
own_len (progress.Sent living under) numbers = omega (arith, with_len living.number numbers)
own_len progress.Held numbers = omega arith
own_len (progress.Done bytes) numbers = omega arith
own_len (progress.Refused code) numbers = omega arith
own_len (progress.Unknown cause) numbers = omega arith

places_len : {X : Type 0} (test : X → Bool) (place : ℕ) (x : X) (xs : List X) → length (places_from test place (x ∷ xs)) ≡ (if test x then 1 else 0) + length (places_from test (place + 1) xs)
places_len test place x xs = elim (cases_Bool (test x)) [
  | inl holds ↦ ap length (places_here test place x xs true holds) ∙ omega (arith, ap {B = ℕ} (λ (b : Bool). if b then 1 else 0) holds)
  | inr fails ↦ ap length (places_here test place x xs false fails) ∙ omega (arith, ap {B = ℕ} (λ (b : Bool). if b then 1 else 0) fails)
]

pub numbers_places : (place : ℕ) (rows : List Row) → length (numbers_in rows) ≡ length (places_from (is_row_in group.Outstanding) place rows)
numbers_places place [] = refl
numbers_places place (row ∷ rows) =
    let later = numbers_places (place + 1) rows in
    let own = own_len row.progress (numbers_in rows) in
    let there = places_len (is_row_in group.Outstanding) place row rows in
    omega (arith, later, own, there)

-- for their states is asked
pub asked_all : (wish : Bool) (rows : List Row) → wish ≡ true → asked_count wish rows ≡ min (length (numbers_in rows)) numbers_max
asked_all true rows is = refl
asked_all false rows is = absurd (true≢false (sym is))

pub asked_none : (wish : Bool) (rows : List Row) → wish ≡ false → asked_count wish rows ≡ 0
asked_none true rows is = absurd (true≢false is)
asked_none false rows is = refl

pub take_least : (n : ℕ) (xs : List ℕ) → length (take n xs) ≤ min (length xs) n
take_least zero xs = omega arith
take_least (suc n) [] = omega arith
take_least (suc n) (x ∷ xs) = let later = take_least n xs in omega arith

-- ---- what waits goes, kind by kind

pub told_room : (w x : Waiting) (rows ys : List Row) (count : ℕ) (old new : Draft) → x ≡ w → ys ≡ rows
    → HasRoomFor (list_bytes count + told_on w rows) old → TakesUp (list_bytes count) 0 old new → HasRoomFor (told_on x ys) new
told_room w x rows ys count old new same kept has takes =
    room_left (list_bytes count) (told_on x ys) (list_bytes count + told_on w rows) old new
    (omega (arith, ap (λ (own : Waiting). told_on own ys) same, ap (told_on w) kept)) has takes

pub resent_room : (w x : Waiting) (rows ys : List Row) (old new : Draft) → record x { told = None } ≡ record w { told = None } → ys ≡ rows
    → HasRoomFor (told_on w rows) old → TakesUp (told_bytes w.told) 0 old new → HasRoomFor (resent_on x ys) new
resent_room w x rows ys old new same kept has takes =
    room_left (told_bytes w.told) (resent_on x ys) (told_on w rows) old new
    (omega (arith, ap (λ (own : Waiting). resent_on own ys) same, ap (resent_on w) kept)) has takes

pub states_room : (w x : Waiting) (rows ys : List Row) (old new : Draft) → record x { resent = [] } ≡ record w { resent = [] } → ys ≡ rows
    → HasRoomFor (resent_on w rows) old → TakesUp (list_bytes (length w.resent)) 0 old new → HasRoomFor (states_on x ys) new
states_room w x rows ys old new same kept has takes =
    room_left (list_bytes (length w.resent)) (states_on x ys) (resent_on w rows) old new
    (omega (arith, ap (λ (own : Waiting). states_on own ys) same, ap (states_on w) kept)) has takes

pub small_room : (w : Waiting) (rows : List Row) (old new : Draft) → HasRoomFor (states_on w rows) old
    → TakesUp (list_bytes (asked_count w.states rows)) 0 old new → HasRoomFor small_bytes new
small_room w rows old new has takes = room_left (list_bytes (asked_count w.states rows)) small_bytes (states_on w rows) old new (omega arith) has takes

-- ---- a longer body has no shorter packet

pub sealed_more : (few many : ℕ) → few ≤ many → sealed_size few ≤ sealed_size many
sealed_more few many less = omega (arith, less)
