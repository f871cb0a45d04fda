-- The queued calls up to the last one that may go.
use Rattle.std.proofs.Common.{◌≡◌, ◌∙◌, ℕ, zero, suc, ◌+◌, ◌-◌, ◌≤◌, ◌<◌, Bool, true, false, List, [], ◌∷◌, Option, Some, None, length, min, ap, refl, sym, subst, inl, inr, arith}
use Rattle.std.specs.Prelude.{if◌then◌else◌, ◌&&◌, is_some, option_map, slice_get}
use Rattle.std.proofs.lemmas.Bool.{cases_Bool, true≢false}
use Rattle.std.proofs.lemmas.List.{length-drop}
use Rattle.containers.specs.Container.{bytes_max, messages_max}
use Rattle.call_table.specs.declared.call.CallNo.{CallNo}
use Rattle.call_table.specs.declared.call.Flags.{Flags}
use Rattle.call_table.specs.declared.call.Group.TheVariants as group
use Rattle.call_table.specs.declared.row.Row.{Row}
use Rattle.call_table.specs.Table.{call_no, changed, changed_at, places_from}
use Rattle.call_table.specs.Kept.{flagged_row, is_row_in}
use Rattle.client_rules.specs.Client as rules
use Rattle.client_rules.specs.Client.{Binding, Client, Temporary, is_open}
use Rattle.client_rules.specs.Filling.{Goes as Going, Never, Waits, is_needed}
use Rattle.service_tl.specs.declared.lists.Message.{Message}
use Rattle.client_core.specs.declared.rebinding.Needed.{Needed as NeededSo}
use Rattle.client_core.specs.Asked.{needed_of}
use Rattle.client_core.specs.Draft.{Draft, HasRoomFor, TakesUp}
use Rattle.client_core.specs.Kept.{Contents}
use Rattle.client_core.specs.Owed.{HasRoomFrom, HasRoomOf, IsQueuedAt, SameQueue, behind_row, binding_bytes, binding_most, binding_numbers, bytes_at, bytes_from, call_bytes, calls_most, follows_at, front_bytes, has_unbound, holds_back, is_unbound, more_behind, needs_binding, queued_count, row_bytes, row_follows}
use Rattle.client_core.proofs.CallLemmas.{value}
use Rattle.client_core.proofs.ListLemmas.{get_none, get_some}
use Rattle.client_core.proofs.QueueLemmas.{leaves, places_here}
use Rattle.client_core.proofs.RoomLemmas.{room_left, room_less}

abbrev waits_row : Row → Bool
waits_row row = is_row_in group.Queued row

-- ---- where more may go they come to no fewer bytes

more_less : (own : Bool) (few many : ℕ) → few ≤ many → more_behind own few ≤ more_behind own many
more_less true few many less = omega (arith, less)
more_less false few many less = omega (arith, less)

both_less : (is : Bool) (a b c d : ℕ) → a ≤ b → c ≤ d → (if is then a else c) ≤ (if is then b else d)
both_less true a b c d one two = one
both_less false a b c d one two = two

pub front_less : (few many : ℕ) (rows : List Row) → few ≤ many → front_bytes few rows ≤ front_bytes many rows
front_less few many [] less = omega arith
front_less zero many (row ∷ rows) less = omega arith
front_less (suc few) zero (row ∷ rows) less = absurd (omega (arith, less))
front_less (suc few) (suc many) (row ∷ rows) less =
    let behind = front_less (behind_row row few) (behind_row row many) rows (more_less (is_some row.after) few many (omega (arith, less))) in
    both_less (waits_row row) (call_bytes row + front_bytes (behind_row row few) rows) (call_bytes row + front_bytes (behind_row row many) rows)
    (front_bytes (suc few) rows) (front_bytes (suc many) rows) (omega (arith, behind)) (front_less (suc few) (suc many) rows less)

from_less : (place few many : ℕ) (rows : List Row) → few ≤ many → bytes_from place few rows ≤ bytes_from place many rows
from_less zero few many rows less = front_less few many rows less
from_less (suc place) few many [] less = omega arith
from_less (suc place) few many (row ∷ rows) less =
    let behind = from_less place few many rows less in
    both_less (waits_row row) (call_bytes row + bytes_from place few rows) (call_bytes row + bytes_from place many rows)
    (bytes_from (suc place) few rows) (bytes_from (suc place) many rows) (omega (arith, behind)) (from_less (suc place) few many rows less)

behind_least : (waits : Bool) (more : ℕ) → more ≤ more_behind waits more
behind_least true more = omega arith
behind_least false more = omega arith

-- ---- flags change nothing

front_flagged : (most : ℕ) (flags : Flags) (place : ℕ) (rows : List Row) → front_bytes most (changed_at place (flagged_row flags) rows) ≡ front_bytes most rows
front_flagged most flags place [] = refl
front_flagged zero flags zero (row ∷ rows) = refl
front_flagged zero flags (suc place) (row ∷ rows) = refl
front_flagged (suc more) flags zero (row ∷ rows) = refl
front_flagged (suc more) flags (suc place) (row ∷ rows) =
    ap (λ n. if waits_row row then call_bytes row + n else front_bytes (suc more) (changed_at place (flagged_row flags) rows)) (front_flagged (behind_row row more) flags place rows)
    ∙ ap (λ n. if waits_row row then call_bytes row + front_bytes (behind_row row more) rows else n) (front_flagged (suc more) flags place rows)

places_flagged : (first : ℕ) (flags : Flags) (place : ℕ) (rows : List Row) → places_from waits_row first (changed_at place (flagged_row flags) rows) ≡ places_from waits_row first rows
places_flagged first flags place [] = refl
places_flagged first flags zero (row ∷ rows) = refl
places_flagged first flags (suc place) (row ∷ rows) =
    ap (λ places. if waits_row row then first ∷ places else places) (places_flagged (first + 1) flags place rows)

pub same_flagged : (flags : Flags) (place : ℕ) (rows : List Row) → SameQueue rows (changed_at place (flagged_row flags) rows)
same_flagged flags place rows = record {
  count = ap length (places_flagged 0 flags place rows);
  bytes = λ most. front_flagged most flags place rows;
}

pub same_queue : (rows : List Row) → SameQueue rows rows
same_queue rows = record { count = refl; bytes = λ most. refl }

pub same_then : (x y z : List Row) → SameQueue x y → SameQueue y z → SameQueue x z
same_then x y z one two = record { count = two.count ∙ one.count; bytes = λ most. two.bytes most ∙ one.bytes most }

-- ---- a queued call among the others

front_zero : (rows : List Row) → front_bytes 0 rows ≡ 0
front_zero [] = refl
front_zero (row ∷ rows) = refl

front_on : (more : ℕ) (row : Row) (rows : List Row) → waits_row row ≡ true
    → front_bytes (suc more) (row ∷ rows) ≡ call_bytes row + front_bytes (behind_row row more) rows
front_on more row rows is =
    ap (λ (b : Bool). if b then call_bytes row + front_bytes (behind_row row more) rows else front_bytes (suc more) rows) is

from_on : (place most : ℕ) (row : Row) (rows : List Row) → waits_row row ≡ true
    → bytes_from (suc place) most (row ∷ rows) ≡ call_bytes row + bytes_from place most rows
from_on place most row rows is =
    ap (λ (b : Bool). if b then call_bytes row + bytes_from place most rows else bytes_from (suc place) most rows) is

from_over : (place most : ℕ) (row : Row) (rows : List Row) → waits_row row ≡ false
    → bytes_from place most (row ∷ rows) ≡ bytes_from place most rows
from_over zero zero row rows fails = sym (front_zero rows)
from_over zero (suc more) row rows fails =
    ap (λ (b : Bool). if b then call_bytes row + front_bytes (behind_row row more) rows else front_bytes (suc more) rows) fails
from_over (suc place) most row rows fails =
    ap (λ (b : Bool). if b then call_bytes row + bytes_from place most rows else bytes_from (suc place) most rows) fails

-- the queued call that has so many before it, which has this place: the bytes of those before it, and what is behind it
pub record Split (place at : ℕ) (rows : List Row) (row : Row) : Type 0 where
  pub here : slice_get rows at ≡ Some row
  pub before : ℕ
  pub rest : List Row
  pub past : bytes_from place 0 rows ≡ before
  pub now : (more : ℕ) → bytes_from place (suc more) rows ≡ before + (call_bytes row + front_bytes (behind_row row more) rest)
  pub next : (most : ℕ) → bytes_from (suc place) most rows ≡ before + (call_bytes row + front_bytes most rest)
  pub gone : (change : Row → Row) → ((own : Row) → waits_row (change own) ≡ false) → (more : ℕ)
      → bytes_from place (suc more) (changed_at at change rows) ≡ before + front_bytes (suc more) rest

from_none : (n : ℕ) → n ≡ 0 + n
from_none n = omega arith

split_here : (row : Row) (rows : List Row) → waits_row row ≡ true → Split 0 0 (row ∷ rows) row
split_here row rows is = record {
  here = refl;
  before = 0;
  rest = rows;
  past = refl;
  now = λ more. front_on more row rows is ∙ from_none (call_bytes row + front_bytes (behind_row row more) rows);
  next = λ most. from_on 0 most row rows is ∙ from_none (call_bytes row + front_bytes most rows);
  gone = λ change goes more. from_over 0 (suc more) (change row) rows (goes row) ∙ from_none (front_bytes (suc more) rows);
}

split_past : (place at : ℕ) (row own : Row) (rows : List Row) → waits_row row ≡ true → Split place at rows own → Split (suc place) (suc at) (row ∷ rows) own
split_past place at row own rows is split = record {
  here = split.here;
  before = call_bytes row + split.before;
  rest = split.rest;
  past = omega (arith, from_on place 0 row rows is, split.past);
  now = λ more. omega (arith, from_on place (suc more) row rows is, split.now more);
  next = λ most. omega (arith, from_on (suc place) most row rows is, split.next most);
  gone = λ change goes more. omega (arith, from_on place (suc more) row (changed_at at change rows) is, split.gone change goes more);
}

split_over : (place at : ℕ) (row own : Row) (rows : List Row) → waits_row row ≡ false → Split place at rows own → Split place (suc at) (row ∷ rows) own
split_over place at row own rows fails split = record {
  here = split.here;
  before = split.before;
  rest = split.rest;
  past = from_over place 0 row rows fails ∙ split.past;
  now = λ more. from_over place (suc more) row rows fails ∙ split.now more;
  next = λ most. from_over (suc place) most row rows fails ∙ split.next most;
  gone = λ change goes more. from_over place (suc more) row (changed_at at change rows) fails ∙ split.gone change goes more;
}

abbrev SplitFrom : ℕ → ℕ → ℕ → List Row → Type 0
SplitFrom first place found rows = (at : ℕ) × ((found ≡ first + at) × ((row : Row) × Split place at rows row))

found_here : (first place found : ℕ) (row : Row) (rows : List Row) → waits_row row ≡ true
    → ((before : ℕ) → slice_get (places_from waits_row (first + 1) rows) before ≡ Some found → SplitFrom (first + 1) before found rows)
    → slice_get (first ∷ places_from waits_row (first + 1) rows) place ≡ Some found → SplitFrom first place found (row ∷ rows)
found_here first zero found row rows is later told = (0, (omega (arith, ap (value 0) told), (row, split_here row rows is)))
found_here first (suc place) found row rows is later told =
    let got = later place told in (suc got.0, (omega (arith, got.1.0), (got.1.1.0, split_past place got.0 row got.1.1.0 rows is got.1.1.1)))

split_from : (first place found : ℕ) (rows : List Row) → slice_get (places_from waits_row first rows) place ≡ Some found → SplitFrom first place found rows
split_from first place found [] told = absurd (grind (arith, told))
split_from first place found (row ∷ rows) told = elim (cases_Bool (waits_row row)) [
  | inl holds ↦ found_here first place found row rows holds (λ before. split_from (first + 1) before found rows)
      (ap (λ places. slice_get places place) (sym (places_here waits_row first row rows true holds)) ∙ told)
  | inr fails ↦
      let got = split_from (first + 1) place found rows (ap (λ places. slice_get places place) (sym (places_here waits_row first row rows false fails)) ∙ told) in
      (suc got.0, (omega (arith, got.1.0), (got.1.1.0, split_over place got.0 row got.1.1.0 rows fails got.1.1.1)))
]

abbrev pub SplitAt : ℕ → ℕ → List Row → Type 0
SplitAt place at rows = (row : Row) × Split place at rows row

pub split_at : (place found : ℕ) (rows : List Row) → slice_get (places_from waits_row 0 rows) place ≡ Some found → SplitAt place found rows
split_at place found rows told =
    let got = split_from 0 place found rows told in
    let same : got.0 ≡ found = omega (arith, got.1.0) in
    (got.1.1.0, subst (λ (n : ℕ). Split place n rows got.1.1.0) same got.1.1.1)

-- the place is told by the call
place_of : (own : Option ℕ) → own ≡ option_map (λ (call : CallNo). call.n - 1) (option_map call_no own)
place_of None = refl
place_of (Some place) = ap Some (omega arith)

pub queued_at : (inside core : Contents) (place : ℕ) (call : CallNo) → inside ≡ core
    → Some call ≡ option_map call_no (slice_get (places_from waits_row 0 inside.calls.rows) place) → IsQueuedAt place call core.calls.rows
queued_at inside core place call same told =
    ap (λ (own : Contents). slice_get (places_from waits_row 0 own.calls.rows) place) (sym same)
    ∙ (place_of (slice_get (places_from waits_row 0 inside.calls.rows) place) ∙ ap (option_map (λ (one : CallNo). one.n - 1)) (sym told))

-- where it leaves the queue there is one fewer
fewer_queued : (change : Row → Row) → ((own : Row) → waits_row (change own) ≡ false) → (place at : ℕ) (rows : List Row) → slice_get (places_from waits_row 0 rows) place ≡ Some at
    → queued_count (changed_at at change rows) - place ≡ queued_count rows - suc place
fewer_queued change goes place at rows told =
    let gone = leaves waits_row change goes 0 place at rows told in
    let here : at ≡ gone.0 = omega (arith, gone.1.0) in
    ap (λ (i : ℕ). queued_count (changed_at i change rows) - place) here
    ∙ (sym (length-drop place (places_from waits_row 0 (changed_at gone.0 change rows)))
    ∙ (ap length gone.1.1 ∙ length-drop (suc place) (places_from waits_row 0 rows)))

-- ---- the bytes are counted, one call after the other

follows_told : (row : Row) (follows : Bool) → follows ≡ is_some row.after → (more : ℕ) → behind_row row more ≡ more_behind follows more
follows_told row follows is more = ap (λ (b : Bool). more_behind b more) (sym is)

-- so far, and what is left, give all
pub record IsCounted (rows : List Row) (k left bytes : ℕ) : Type 0 where
  pub now : bytes_from k left rows ≡ front_bytes messages_max rows
  pub past : bytes ≡ bytes_from k 0 rows

pub counted_none : (rows : List Row) → IsCounted rows 0 messages_max 0
counted_none rows = record { now = refl; past = sym (front_zero rows) }

counted_step : (rows : List Row) (k more bytes size found : ℕ) (follows : Bool) → SplitAt k found rows
    → size ≡ row_bytes (slice_get rows found) → follows ≡ row_follows (slice_get rows found)
    → IsCounted rows k (suc more) bytes → IsCounted rows (suc k) (more_behind follows more) (bytes + size)
counted_step rows k more bytes size found follows got sized own so =
    let row = got.0 in
    let split = got.1 in
    let here = ap row_bytes split.here in
    let told = follows_told row follows (own ∙ ap row_follows split.here) more in
    let same = ap (λ n. front_bytes n split.rest) told in
    record {
      now = omega (arith, so.now, split.now more, split.next (more_behind follows more), same);
      past = omega (arith, so.past, split.past, split.next 0, here, sized, front_zero split.rest);
    }

pub counted_next : (rows : List Row) (call : CallNo) (k left bytes size : ℕ) (follows : Bool) → 0 < left → IsQueuedAt k call rows
    → size ≡ bytes_at rows (Some (call.n - 1)) → follows ≡ follows_at rows (Some (call.n - 1))
    → IsCounted rows k left bytes → IsCounted rows (k + 1) (more_behind follows (left - 1)) (bytes + size)
counted_next rows call k left bytes size follows some told sized own so =
    let more : suc (left - 1) ≡ left = omega (arith, some) in
    let next : suc k ≡ k + 1 = omega arith in
    subst (λ (n : ℕ). IsCounted rows n (more_behind follows (left - 1)) (bytes + size)) next
    (counted_step rows k (left - 1) bytes size (call.n - 1) follows (split_at k (call.n - 1) rows told) sized own
    (subst (λ (n : ℕ). IsCounted rows k n bytes) (sym more) so))

-- behind the last one that may go
pub counted_out : (rows : List Row) (k left bytes : ℕ) → left ≡ 0 → IsCounted rows k left bytes → front_bytes messages_max rows ≡ bytes
counted_out rows k left bytes none so =
    let same = ap (λ n. bytes_from k n rows) none in
    omega (arith, so.now, so.past, same)

-- where they come to as many as a packet may have
pub counted_many : (rows : List Row) (k left bytes : ℕ) → bytes_max ≤ bytes → IsCounted rows k left bytes → bytes_max ≤ front_bytes messages_max rows
counted_many rows k left bytes many so = omega (arith, so.now, so.past, many, from_less k 0 left rows (omega arith))

-- and where there is no more
from_end : (first k left : ℕ) (rows : List Row) → length (places_from waits_row first rows) ≤ k → bytes_from k left rows ≡ bytes_from k 0 rows
from_end first zero left [] less = refl
from_end first (suc k) left [] less = refl
from_end first zero left (row ∷ rows) less = elim (cases_Bool (waits_row row)) [
  | inl holds ↦ absurd (omega (arith, less, ap length (places_here waits_row first row rows true holds)))
  | inr fails ↦ from_over 0 left row rows fails
      ∙ (from_end (first + 1) 0 left rows (omega (arith, less, ap length (places_here waits_row first row rows false fails)))
      ∙ sym (from_over 0 0 row rows fails))
]
from_end first (suc k) left (row ∷ rows) less = elim (cases_Bool (waits_row row)) [
  | inl holds ↦
      let later = from_end (first + 1) k left rows (omega (arith, less, ap length (places_here waits_row first row rows true holds))) in
      omega (arith, later, from_on k left row rows holds, from_on k 0 row rows holds)
  | inr fails ↦ from_over (suc k) left row rows fails
      ∙ (from_end (first + 1) (suc k) left rows (omega (arith, less, ap length (places_here waits_row first row rows false fails)))
      ∙ sym (from_over (suc k) 0 row rows fails))
]

pub counted_all : (rows : List Row) (k left bytes : ℕ) → queued_count rows ≤ k → IsCounted rows k left bytes → front_bytes messages_max rows ≡ bytes
counted_all rows k left bytes less so = omega (arith, from_end 0 k left rows less, so.now, so.past)

pub none_queued : (inside core : Contents) (k : ℕ) → inside ≡ core → None ≡ option_map call_no (slice_get (places_from waits_row 0 inside.calls.rows) k) → queued_count core.calls.rows ≤ k
none_queued inside core k same told =
    let none = get_none (places_from waits_row 0 inside.calls.rows) k (ap (option_map (λ (one : CallNo). one.n - 1)) told ∙ sym (place_of (slice_get (places_from waits_row 0 inside.calls.rows) k))) in
    omega (arith, none, ap (λ (own : Contents). queued_count own.calls.rows) same)

-- ---- what holds back, and what is asked for

and_both : (one two : Bool) → one ≡ true → two ≡ true → (one && two) ≡ true
and_both true two is own = own
and_both false two is own = is

unbound_by : (binding : Binding) (own needed : NeededSo) → (if is_needed binding then Some own else None) ≡ Some needed → is_unbound binding ≡ true
unbound_by rules.Needed own needed is = refl
unbound_by (rules.Asked message) own needed is = refl
unbound_by rules.Held own needed is = refl
unbound_by rules.Bound own needed is = absurd (grind (arith, is))
unbound_by (rules.Refused code) own needed is = refl

asked_unbound : (temporary : Option Temporary) (message : Message) → has_unbound temporary ≡ true → has_unbound (option_map (rules.bound_so (rules.Asked message)) temporary) ≡ true
asked_unbound None message is = is
asked_unbound (Some temporary) message is = refl

both_parts : (one two : Bool) → (one && two) ≡ true → (one ≡ true) × (two ≡ true)
both_parts true two is = (refl, is)
both_parts false two is = absurd (true≢false (sym is))

-- a binding that is asked for holds back what one that is needed holds back
pub asked_holds : (client asked : Client) (message : Message) → asked.learnt ≡ client.learnt → asked.temporary ≡ option_map (rules.bound_so (rules.Asked message)) client.temporary
    → holds_back client ≡ true → holds_back asked ≡ true
asked_holds client asked message learnt temporary is =
    let parts = both_parts (is_open client) (has_unbound client.temporary) is in
    and_both (is_open asked) (has_unbound asked.temporary) (ap (λ (own : List ℕ). rules.is_open (record client { learnt = own })) learnt ∙ parts.0)
    (ap has_unbound temporary ∙ asked_unbound client.temporary message parts.1)

needed_some : (temporary : Option Temporary) (needed : NeededSo) → needed_of temporary ≡ Some needed → is_some (needed_of temporary) ≡ true
needed_some temporary needed is = ap is_some is

pub needs_so : (client : Client) (needed : NeededSo) → is_open client ≡ true → needed_of client.temporary ≡ Some needed → needs_binding client ≡ true
needs_so client needed opened is = and_both (is_open client) (is_some (needed_of client.temporary)) opened (needed_some client.temporary needed is)

pub most_so : (client : Client) → needs_binding client ≡ true → binding_most client ≡ binding_bytes
most_so client is = ap (λ (b : Bool). if b then binding_bytes else 0) is

pub numbers_so : (client : Client) → needs_binding client ≡ true → binding_numbers client ≡ 1
numbers_so client is = ap (λ (b : Bool). if b then 1 else 0) is

pub same_needs : (x y : Client) → x.temporary ≡ y.temporary → x.learnt ≡ y.learnt → needs_binding x ≡ needs_binding y
same_needs x y temporary learnt =
    ap (λ (own : Option Temporary). is_open x && is_some (needed_of own)) temporary
    ∙ ap (λ (own : List ℕ). is_open (record x { learnt = own }) && is_some (needed_of y.temporary)) learnt

pub same_holds : (x y : Client) → x.temporary ≡ y.temporary → x.learnt ≡ y.learnt → holds_back x ≡ holds_back y
same_holds x y temporary learnt =
    ap (λ (own : Option Temporary). is_open x && has_unbound own) temporary
    ∙ ap (λ (own : List ℕ). is_open (record x { learnt = own }) && has_unbound y.temporary) learnt

-- ---- the turn of a call comes

-- where there is room for what is left there is room for one
some_left : (count numbers most behind : ℕ) → (count + numbers < most → behind ≤ numbers) → 0 < behind → count < most → 0 < numbers
some_left count zero most behind so some less = let none = so (omega (arith, less)) in absurd (omega (arith, none, some))
some_left count (suc numbers) most behind so some less = omega arith

-- there is room for it
pub room_of : (core : Contents) (place : ℕ) (call : CallNo) (draft : Draft) → draft.is_full ≡ false → HasRoomFrom core place draft → IsQueuedAt place call core.calls.rows
    → holds_back core.rest ≡ false → HasRoomOf core call draft
room_of core place call draft still has told free =
    let rows = core.calls.rows in
    let got = split_at place (call.n - 1) rows told in
    let there = get_some (places_from waits_row 0 rows) place (call.n - 1) (sym told) in
    record {
      bytes = λ less. (
          let more : draft.count + suc (messages_max - draft.count - 1) ≡ messages_max = omega (arith, less) in
          room_less _ _ _ (omega (arith, got.1.now (messages_max - draft.count - 1), ap row_bytes got.1.here)) (has.bytes free still (messages_max - draft.count - 1) more));
      inner = some_left draft.count draft.numbers messages_max (queued_count rows - place) (has.inner free still) (omega (arith, there));
      calls = some_left draft.count core.calls.room messages_max (queued_count rows - place) (has.calls free still) (omega (arith, there));
    }

-- what is left, where the rest of the client holds back as before
abbrev IsAfter : Contents → Contents → List Row → Type 0
IsAfter old new rows = (holds_back new.rest ≡ holds_back old.rest) × (new.calls.rows ≡ rows)

pub room_goes : (core new : Contents) (place : ℕ) (call : CallNo) (change : Row → Row) (old draft : Draft) → ((own : Row) → waits_row (change own) ≡ false)
    → IsAfter core new (changed call change core.calls.rows) → core.calls.room ≤ new.calls.room + 1 → draft.count ≡ old.count + 1 → draft.is_full ≡ old.is_full
    → TakesUp (bytes_at core.calls.rows (Some (call.n - 1))) 1 old draft
    → IsQueuedAt place call core.calls.rows → HasRoomFrom core place old → HasRoomFrom new place draft
room_goes core new place call change old draft goes is reserved count full takes told has =
    let fewer = fewer_queued change goes place (call.n - 1) core.calls.rows told in
    let now = ap queued_count is.1 in
    record {
      bytes = λ free still more few. (
          let got = split_at place (call.n - 1) core.calls.rows told in
          let room = has.bytes (sym is.0 ∙ free) (sym full ∙ still) (suc more) (omega (arith, few, count)) in
          let same = ap (bytes_from place (suc more)) is.1 in
          let rest = front_less (suc more) (behind_row got.0 (suc more)) got.1.rest (behind_least (is_some got.0.after) (suc more)) in
          room_left (bytes_at core.calls.rows (Some (call.n - 1))) _ _ old draft
          (omega (arith, same, rest, got.1.now (suc more), got.1.gone change goes more, ap row_bytes got.1.here)) room takes);
      inner = λ free still less. (let before = has.inner (sym is.0 ∙ free) (sym full ∙ still) (omega (arith, less, count, takes.left)) in omega (arith, before, fewer, now, takes.left));
      calls = λ free still less. (let before = has.calls (sym is.0 ∙ free) (sym full ∙ still) (omega (arith, less, count, reserved)) in omega (arith, before, fewer, now, reserved));
    }

pub room_never : (core new : Contents) (place : ℕ) (call : CallNo) (change : Row → Row) (draft : Draft) → ((own : Row) → waits_row (change own) ≡ false)
    → IsAfter core new (changed call change core.calls.rows) → core.calls.room ≤ new.calls.room
    → (holds_back core.rest ≡ false → follows_at core.calls.rows (Some (call.n - 1)) ≡ true)
    → IsQueuedAt place call core.calls.rows → HasRoomFrom core place draft → HasRoomFrom new place draft
room_never core new place call change draft goes is reserved waits told has =
    let fewer = fewer_queued change goes place (call.n - 1) core.calls.rows told in
    let now = ap queued_count is.1 in
    record {
      bytes = λ free still more few. (
          let got = split_at place (call.n - 1) core.calls.rows told in
          let same = ap (bytes_from place (suc more)) is.1 in
          let behind : behind_row got.0 more ≡ suc more = follows_told got.0 true (sym (waits (sym is.0 ∙ free)) ∙ ap row_follows got.1.here) more in
          let rest = ap (λ n. front_bytes n got.1.rest) behind in
          room_less _ _ draft (omega (arith, same, rest, got.1.now more, got.1.gone change goes more)) (has.bytes (sym is.0 ∙ free) still more few));
      inner = λ free still less. (let before = has.inner (sym is.0 ∙ free) still less in omega (arith, before, fewer, now));
      calls = λ free still less. (let before = has.calls (sym is.0 ∙ free) still (omega (arith, less, reserved)) in omega (arith, before, fewer, now, reserved));
    }

pub room_waits : (core : Contents) (place : ℕ) (call : CallNo) (draft : Draft) → (holds_back core.rest ≡ false → follows_at core.calls.rows (Some (call.n - 1)) ≡ true)
    → IsQueuedAt place call core.calls.rows → HasRoomFrom core place draft → HasRoomFrom core (place + 1) draft
room_waits core place call draft waits told has = record {
  bytes = λ free still more few. (
      let got = split_at place (call.n - 1) core.calls.rows told in
      let next : place + 1 ≡ suc place = omega arith in
      let moved = ap (λ n. bytes_from n (suc more) core.calls.rows) next in
      let behind : behind_row got.0 more ≡ suc more = follows_told got.0 true (sym (waits free) ∙ ap row_follows got.1.here) more in
      let rest = ap (λ n. front_bytes n got.1.rest) behind in
      room_less _ _ draft (omega (arith, moved, rest, got.1.now more, got.1.next (suc more))) (has.bytes free still more few));
  inner = λ free still less. (let before = has.inner free still less in omega (arith, before));
  calls = λ free still less. (let before = has.calls free still less in omega (arith, before));
}

pub room_behind : (core : Contents) (place : ℕ) (draft : Draft) → draft.is_full ≡ true → HasRoomFrom core place draft
room_behind core place draft full = record {
  bytes = λ free still more few. absurd (true≢false (sym full ∙ still));
  inner = λ free still less. absurd (true≢false (sym full ∙ still));
  calls = λ free still less. absurd (true≢false (sym full ∙ still));
}

pub waits_not : Waits ≡ Going None → ⊥
waits_not is = grind (arith, is)

pub never_not : Never ≡ Going None → ⊥
never_not is = grind (arith, is)

-- a call that doesn't go so is one that is to execute after another
pub waits_so : (follows : Bool) → (follows ≡ false → ⊥) → follows ≡ true
waits_so true not = refl
waits_so false not = absurd (not refl)

-- ---- the turns of the queued calls begin

most_by : (held : Bool) (core : Contents) → holds_back core.rest ≡ held → calls_most core ≡ (if held then 0 else min (queued_count core.calls.rows) messages_max)
most_by held core is = ap (λ (b : Bool). if b then 0 else min (queued_count core.calls.rows) messages_max) is

front_by : (core : Contents) → holds_back core.rest ≡ false → (if holds_back core.rest then 0 else front_bytes messages_max core.calls.rows) ≡ front_bytes messages_max core.calls.rows
front_by core is = ap (λ (b : Bool). if b then 0 else front_bytes messages_max core.calls.rows) is

free_before : (old new : Bool) → (old ≡ true → new ≡ true) → new ≡ false → old ≡ false
free_before true new so free = sym (so refl) ∙ free
free_before false new so free = refl

pub room_begins : (core now : Contents) (draft : Draft) → (holds_back core.rest ≡ true → holds_back now.rest ≡ true) → SameQueue core.calls.rows now.calls.rows
    → HasRoomFor (if holds_back core.rest then 0 else front_bytes messages_max core.calls.rows) draft → calls_most core ≤ draft.numbers → calls_most core ≤ now.calls.room → HasRoomFrom now 0 draft
room_begins core now draft so same has inner calls = record {
  bytes = λ free still more few.
      (let before = free_before (holds_back core.rest) (holds_back now.rest) so free in
      room_less _ _ draft (omega (arith, front_less (suc more) messages_max now.calls.rows (omega (arith, few)), same.bytes messages_max, front_by core before)) has);
  inner = λ free still less. (let most = most_by false core (free_before (holds_back core.rest) (holds_back now.rest) so free) in omega (arith, most, inner, less, same.count));
  calls = λ free still less. (let most = most_by false core (free_before (holds_back core.rest) (holds_back now.rest) so free) in omega (arith, most, calls, less, same.count));
}
