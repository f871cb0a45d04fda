-- The events of a load keep all clients plain, and a flush that makes no packet leaves a world as it was.
use Rattle.std.proofs.Common.{◌≡◌, ◌∙◌, ◌<◌, ◌≤◌, ◌+◌, ℕ, zero, suc, Bool, true, false, not, if◌then◌else◌, Option, Some, None, List, [], ◌∷◌, ◌++◌, length, refl, ap, sym, subst, arith}
use Rattle.std.specs.Prelude.{IfSome, is_some, max, min, option_map, slice_get}
use Rattle.std.specs.List.{AllByRecursion}
use Rattle.std.proofs.Common.{append-nil, length-append}
use Rattle.msg_ids.specs.Moments.{moment_of}
use Rattle.envelope.specs.declared.parts.Dir.{Dir}
use Rattle.envelope.specs.declared.parts.Dir.TheVariants.{Up, Down}
use Rattle.sched_text.specs.declared.event.Event.{Event}
use Rattle.sched_text.specs.declared.event.Event.TheVariants as line
use Rattle.call_table.specs.declared.call.CallNo.{CallNo}
use Rattle.call_table.specs.Table.{new_call}
use Rattle.client_rules.specs.Asking.{submit_fault, submitted}
use Rattle.client_rules.specs.Client.{Client, at_moment, calls_of}
use Rattle.client_rules.specs.Events as wishes
use Rattle.client_rules.specs.Events.{unless_fault}
use Rattle.client_rules.specs.Flush.{Answer, Flushed, Nothing, Spent, Sends}
use Rattle.world_rules.specs.Ends.{acts, arrives, comes_down, comes_to_owner, flushed_at, flushes, goes, seat_changed, seated, sent_up, with_seat}
use Rattle.world_rules.specs.Load.{can_flush, sends}
use Rattle.world_rules.specs.Refusals.{call_numbered, refusal}
use Rattle.world_rules.specs.Run.{after, joins, step, wishes_so}
use Rattle.world_rules.specs.Setting.{Setting, at_client}
use Rattle.world_rules.specs.World.{Packet, Seat, World, bytes_of, changed_from_0, counted, owner, seat_now}
use Rattle.sim_load.specs.Plain.{ArePlain, FollowsNone, IsOfLoad, IsPlain, IsPlainSeat}
use Rattle.sim_load.proofs.PlainClients.{all_joined, either}
use Rattle.sim_load.proofs.PlainFilling.{all_got}
use Rattle.sim_load.proofs.PlainFlushes.{flush-plain, flush-same}
use Rattle.sim_load.proofs.PlainTaking.{takes_plain}

-- ---- a seat

counted-plain : (number : ℕ) (seats : List Seat) → AllByRecursion IsPlainSeat seats → IfSome (counted number seats) IsPlainSeat
counted-plain zero seats all = tt
counted-plain (suc place) seats all = all_got IsPlainSeat place seats all

changed-plain : (place : ℕ) (client : Client) (seats : List Seat) → IsPlain client → AllByRecursion IsPlainSeat seats
    → AllByRecursion IsPlainSeat (changed_from_0 place (λ seat. record seat { client = client }) seats)
changed-plain place client [] plain all = tt
changed-plain zero client (seat ∷ seats) plain all = (record { client = plain; clock = all.0.clock }, all.1)
changed-plain (suc place) client (seat ∷ seats) plain all = (all.0, changed-plain place client seats plain all.1)

seat-plain : (number : ℕ) (client : Client) (seats : List Seat) → IsPlain client → AllByRecursion IsPlainSeat seats
    → AllByRecursion IsPlainSeat (seat_changed number client seats)
seat-plain zero client seats plain all = all
seat-plain (suc place) client seats plain all = changed-plain place client seats plain all

seated-plain : {S V : Type 0} (found : Option Seat) (act : Seat → World S V → World S V) (world : World S V) → IfSome found IsPlainSeat
    → ((seat : Seat) → IsPlainSeat seat → ArePlain (act seat world)) → ArePlain world → ArePlain (seated found act world)
seated-plain None act world is keeps plain = plain
seated-plain (Some seat) act world is keeps plain = keeps seat is

with-plain : {S V : Type 0} (number : ℕ) (act : Seat → World S V → World S V) (world : World S V)
    → ((seat : Seat) → IsPlainSeat seat → ArePlain (act seat world)) → ArePlain world → ArePlain (with_seat number act world)
with-plain number act world keeps plain =
    seated-plain (counted number world.seats) act world (counted-plain number world.seats plain) keeps plain

-- ---- a call

no-earlier : (earlier : Option ℕ) → earlier ≡ None → option_map call_numbered earlier ≡ None
no-earlier earlier none = ap (option_map call_numbered) none

submitted-plain : (body : List ℕ) (earlier : Option CallNo) (client : Client) → earlier ≡ None → IsPlain client → IsPlain (unless_fault body earlier client)
submitted-plain body earlier client none plain =
    either IsPlain _ (submitted body earlier client) client
    (record { key = plain.key; calls = all_joined FollowsNone (calls_of client) (new_call body earlier) plain.calls none }) plain

call-plain : {S V : Type 0} (setting : Setting S V) (client : ℕ) (body : List ℕ) (earlier : Option CallNo) (world : World S V) → earlier ≡ None → ArePlain world
    → ArePlain (wishes_so setting client (wishes.Submit body earlier) world)
call-plain setting client body earlier world none plain =
    with-plain client (λ seat. acts setting client seat (wishes.Submit body earlier)) world
    (λ seat is. seat-plain client (unless_fault body earlier seat.client) world.seats (submitted-plain body earlier seat.client none is.client) plain) plain

-- ---- a flush

flush-keeps : {S V : Type 0} (setting : Setting S V) (client : ℕ) (world : World S V) → ArePlain world → ArePlain (with_seat client (flushes setting client) world)
flush-keeps setting client world plain =
    with-plain client (flushes setting client) world
    (λ seat is. seat-plain client (flushed_at setting seat world).client world.seats
    (flush-plain (at_client setting) (moment_of seat.clock) seat.client world.draw is.client) plain) plain

-- ---- a packet

down-plain : {S V : Type 0} (setting : Setting S V) (number : ℕ) (bytes : List ℕ) (seat : Seat) (world : World S V) → IsPlainSeat seat → ArePlain world
    → ArePlain (comes_down setting number bytes seat world)
down-plain setting number bytes seat world is plain =
    either ArePlain seat.client.has_ended world
    (acts setting number seat (wishes.Take (moment_of seat.clock) (setting.opens (seat_now seat) Down bytes)) world) plain
    (seat-plain number (wishes.takes (moment_of seat.clock) (setting.opens (seat_now seat) Down bytes) seat.client) world.seats
    (takes_plain (moment_of seat.clock) (setting.opens (seat_now seat) Down bytes) seat.client is.client) plain)

owner-plain : {S V : Type 0} (setting : Setting S V) (bytes : List ℕ) (found : Option ℕ) (world : World S V) → ArePlain world
    → ArePlain (comes_to_owner setting bytes found world)
owner-plain setting bytes None world plain = plain
owner-plain setting bytes (Some number) world plain =
    with-plain number (comes_down setting number bytes) world (λ seat is. down-plain setting number bytes seat world is plain) plain

goes-plain : {S V : Type 0} (setting : Setting S V) (packet : Packet) (dir : Dir) (world : World S V) → ArePlain world → ArePlain (goes setting packet dir world)
goes-plain setting packet Up world plain = plain
goes-plain setting packet Down world plain = owner-plain setting (bytes_of setting packet) (owner packet.envelope.session world.seats) world plain

arrives-plain : {S V : Type 0} (setting : Setting S V) (found : Option Packet) (world : World S V) → ArePlain world → ArePlain (arrives setting found world)
arrives-plain setting None world plain = plain
arrives-plain setting (Some packet) world plain = goes-plain setting packet packet.dir world plain

-- ---- an event

joins-plain : {S V : Type 0} (setting : Setting S V) (key : ℕ) (world : World S V) → ArePlain world → ArePlain (joins setting key None world)
joins-plain setting key world plain =
    all_joined IsPlainSeat world.seats _ plain (record { client = record { key = refl; calls = tt }; clock = refl })

after-plain : {S V : Type 0} (setting : Setting S V) (world : World S V) (event : Event) → IsOfLoad event → ArePlain world → ArePlain (after setting world event)
after-plain setting world line.Client of plain = joins-plain setting setting.keys.permanent world plain
after-plain setting world (line.Call client body earlier) of plain =
    call-plain setting client body (option_map call_numbered earlier) world (no-earlier earlier of) plain
after-plain setting world (line.Flush client) of plain = flush-keeps setting client world plain
after-plain setting world (line.Give packet) of plain = arrives-plain setting (counted packet world.bag) world plain
after-plain setting world (line.Work zero) of plain = plain
after-plain setting world (line.Work (suc place)) of plain = plain
after-plain setting world line.Restart of plain = plain
after-plain setting world _ of plain = absurd of

pub step-plain : {S V : Type 0} (setting : Setting S V) (world : World S V) (event : Event) → IsOfLoad event → ArePlain world → ArePlain (step setting world event)
step-plain setting world event of plain =
    either ArePlain (is_some (refusal setting world event)) world (after setting world event) plain (after-plain setting world event of plain)

-- ---- a flush that makes no packet

sent-none : (answer : Answer) → sends answer ≡ false → sent_up answer ≡ []
sent-none Nothing none = refl
sent-none Spent none = refl
sent-none (Sends packet) none = absurd (cc)

not-grown : (bag : List Packet) (answer : Answer) → length (bag ++ sent_up answer) ≤ length bag → sends answer ≡ false
not-grown bag Nothing same = refl
not-grown bag Spent same = refl
not-grown bag (Sends packet) same =
    let more : length (bag ++ sent_up (Sends packet)) ≡ length bag + 1 = length-append bag (sent_up (Sends packet)) in absurd (omega (arith, same, more))

sends-if-grown : (bag : List Packet) (answer : Answer) → length bag < length (bag ++ sent_up answer) → sends answer ≡ true
sends-if-grown bag Nothing less = let same : length (bag ++ []) ≡ length bag = ap length (append-nil bag) in absurd (omega (arith, less, same))
sends-if-grown bag Spent less = let same : length (bag ++ []) ≡ length bag = ap length (append-nil bag) in absurd (omega (arith, less, same))
sends-if-grown bag (Sends packet) less = refl

seat-same : (seat : Seat) (seats : List Seat) → counted 1 seats ≡ Some seat → seat_changed 1 seat.client seats ≡ seats
seat-same seat [] found = refl
seat-same seat (first ∷ others) found =
    let is : first ≡ seat = cc in ap (λ (client : Client). record first { client = client } ∷ others) (ap (λ (seat : Seat). seat.client) (sym is))

still-at : (seat : Seat) → seat.clock ≡ 0 → at_moment (moment_of seat.clock) seat.client ≡ seat.client
still-at seat none =
    let now : max seat.client.now (moment_of seat.clock) ≡ seat.client.now = omega (arith, none) in
    ap (λ now. record seat.client { now = now }) now

quiet-at : {S V : Type 0} (setting : Setting S V) (world : World S V) (found : Option Seat) → counted 1 world.seats ≡ found → IfSome found IsPlainSeat
    → length (seated found (flushes setting 1) world).bag ≤ length world.bag → seated found (flushes setting 1) world ≡ world
quiet-at setting world None at is same = refl
quiet-at {S} {V} setting world (Some seat) at is same =
    let done = flushed_at setting seat world in
    let none : sends done.answer ≡ false = not-grown world.bag done.answer same in
    let left = flush-same (at_client setting) (moment_of seat.clock) seat.client world.draw is.client (still-at seat is.clock) none in
    let seats : seat_changed 1 done.client world.seats ≡ world.seats = ap (λ (client : Client). seat_changed 1 client world.seats) left.0 ∙ seat-same seat world.seats at in
    let bag : world.bag ++ sent_up done.answer ≡ world.bag = ap (λ more. world.bag ++ more) (sent-none done.answer none) ∙ append-nil world.bag in
    let with : List Seat → S → List Packet → World S V = λ (seats : List Seat) (draw : S) (bag : List Packet). record world { seats = seats; draw = draw; bag = bag } in
    ap (λ seats. with seats done.draw (world.bag ++ sent_up done.answer)) seats
    ∙ (ap (λ draw. with world.seats draw (world.bag ++ sent_up done.answer)) left.1 ∙ ap (λ bag. with world.seats world.draw bag) bag)

quiet-by : {S V : Type 0} (refused : Bool) (world other : World S V) → (length other.bag ≤ length world.bag → other ≡ world)
    → length (if refused then world else other).bag ≤ length world.bag → (if refused then world else other) ≡ world
quiet-by true world other is same = refl
quiet-by false world other is same = is same

pub quiet : {S V : Type 0} (setting : Setting S V) (world : World S V) → ArePlain world → length (step setting world (line.Flush 1)).bag ≤ length world.bag
    → step setting world (line.Flush 1) ≡ world
quiet setting world plain same =
    quiet-by (is_some (refusal setting world (line.Flush 1))) world (after setting world (line.Flush 1))
    (quiet-at setting world (counted 1 world.seats) refl (counted-plain 1 world.seats plain)) same

-- ---- a flush that makes one

grown-at : {S V : Type 0} (setting : Setting S V) (world : World S V) (found : Option Seat)
    → length world.bag < length (seated found (flushes setting 1) world).bag → can_flush setting found world ≡ true
grown-at setting world None less = absurd (omega (arith, less))
grown-at setting world (Some seat) less = sends-if-grown world.bag (flushed_at setting seat world).answer less

grown-if : {S V : Type 0} (refused : Bool) (world other : World S V) → length world.bag < length (if refused then world else other).bag
    → length world.bag < length other.bag
grown-if true world other less = absurd (omega (arith, less))
grown-if false world other less = less

pub grown : {S V : Type 0} (setting : Setting S V) (world : World S V) → length world.bag < length (step setting world (line.Flush 1)).bag
    → can_flush setting (counted 1 world.seats) world ≡ true
grown setting world less =
    grown-at setting world (counted 1 world.seats)
    (grown-if (is_some (refusal setting world (line.Flush 1))) world (after setting world (line.Flush 1)) less)
