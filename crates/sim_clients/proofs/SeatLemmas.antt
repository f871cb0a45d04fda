-- What becomes of the seats of a world where one kept client becomes another.
use Rattle.std.proofs.Common.{◌≡◌, ◌<◌, ◌≤◌, ◌++◌, ◌∷◌, [], ℕ, suc, Bool, true, false, if◌then◌else◌, Option, Some, None, List, length, get_or, set, refl, ap, sym, subst, ◌∙◌}
use Rattle.std.specs.Prelude.{IfOk, IsErrAnd, OnErr, OnOk, Result, Ok, Err, nat_lt, slice_get}
use Rattle.std.proofs.lemmas.Bool.{le-ltb, lt-ltb}
use Rattle.auth_keys.specs.declared.ring.RingKey.{RingKey}
use Rattle.msg_ids.specs.Moments.{moment_of}
use Rattle.envelope.specs.declared.parts.Dir.{Dir}
use Rattle.envelope.specs.declared.parts.Dir.TheVariants.{Down}
use Rattle.envelope.specs.declared.parts.Envelope.{Envelope}
use Rattle.client_rules.specs.Client.{Client}
use Rattle.client_rules.specs.Events.{takes}
use Rattle.client_core.specs.Holding.{kept_of}
use Rattle.client_core.specs.Keys.{HasKeys, Keys}
use Rattle.client_core.specs.Kept.{Stands}
use Rattle.client_core.specs.declared.holder.Holder.{Holder}
use Rattle.world_rules.specs.Ends.{seat_changed}
use Rattle.world_rules.specs.Refusals.{NoClient, Refusal, at_client, clients_max, unless}
use Rattle.world_rules.specs.Run.{set as clock_set}
use Rattle.world_rules.specs.World.{Seat, changed_at, counted, seat_now}
use Rattle.sim_clients.specs.Held.{TakenSo, held, taken_in}
use Rattle.sim_clients.specs.Standing.{Becomes, HaveKeys, HasKeysOf, KeepKeys, Kept, Stand, StandsFor, clocked, keys_of, taken_at}
use Rattle.sim_clients.specs.Told.{TellsRefusal}
use Rattle.sim_clients.specs.declared.fault.SeatFault.{SeatFault}
use Rattle.sim_clients.specs.declared.fault.SeatFault.TheVariants as fault
use Rattle.sim_clients.proofs.PlaceLemmas.{all_at, all_set, at_place, changed, joined, kept, of_seat, zip_count}

-- ---- one seat

-- the client of a seat, while it is there
pub held_now : (kept : Kept) (inside : Option Holder) (clock : ℕ) (holder : Holder)
    → record { holder = held inside; clock = clock } ≡ kept → inside ≡ Some holder → holder ≡ kept.holder
held_now kept inside clock holder view is = sym (ap held is) ∙ ap (λ (k : Kept). k.holder) view

pub clock_now : (kept : Kept) (inside : Option Holder) (clock : ℕ) → record { holder = held inside; clock = clock } ≡ kept → clock ≡ kept.clock
clock_now kept inside clock view = ap (λ (k : Kept). k.clock) view

-- what holds of all that a kept client stands for, holds of the seat of its number
pub found_at : (P : Option Seat → Type 0) (c place : ℕ) (kept items : List Kept) (seats : List Seat) (one : Kept)
    → c ≡ suc place → place < length kept → items ≡ kept → one ≡ get_or items place one → Stand kept seats
    → ((seat : Seat) → StandsFor one seat → P (Some seat)) → P (counted c seats)
found_at P c place kept items seats one is less same at all told =
    let here : one ≡ get_or kept place one = subst (λ list. one ≡ get_or list place one) same at in
    subst (λ number. P (counted number seats)) (sym is)
    (at_place StandsFor P place kept seats one all less (λ seat stands. told seat (subst (λ (k : Kept). StandsFor k seat) (sym here) stands)))

-- a refusal, by the client's state and the rest
pub told_at : (Told : Option Refusal → Type 0) (rest : Seat → Option Refusal) (c place : ℕ) (kept items : List Kept) (seats : List Seat) (one : Kept)
    → c ≡ suc place → place < length kept → items ≡ kept → one ≡ get_or items place one → Stand kept seats
    → ((seat : Seat) → StandsFor one seat → Told (rest seat)) → Told (at_client (counted c seats) rest)
told_at Told rest c place kept items seats one is less same at all told =
    found_at (λ found. Told (at_client found rest)) c place kept items seats one is less same at all told

-- the seat of a number that is there
pub seat_at : (c place : ℕ) (kept items : List Kept) (seats : List Seat) (one : Kept) (seat : Seat)
    → c ≡ suc place → items ≡ kept → one ≡ get_or items place one → Stand kept seats → counted c seats ≡ Some seat → StandsFor one seat
seat_at c place kept items seats one seat is same at all found =
    let here : slice_get seats place ≡ Some seat = subst (λ number. counted number seats ≡ Some seat) is found in
    let every : Stand items seats = subst (λ list. Stand list seats) (sym same) all in
    subst (λ (k : Kept). StandsFor k seat) (sym at) (of_seat StandsFor place items seats one seat every here)

-- ---- all seats

-- one client becomes another, and its clock stays
pub changes_at : (c place : ℕ) (kept items : List Kept) (seats : List Seat) (one now : Kept) (seat : Seat) (after : Client)
    → c ≡ suc place → items ≡ kept → one ≡ get_or items place one → now.clock ≡ one.clock → Stand kept seats → counted c seats ≡ Some seat
    → Stands (kept_of now.holder) after → Stand (set items place now) (seat_changed c after seats)
changes_at c place kept items seats one now seat after is same at clock all found told =
    let here : slice_get seats place ≡ Some seat = subst (λ number. counted number seats ≡ Some seat) is found in
    let every : Stand items seats = subst (λ list. Stand list seats) (sym same) all in
    let stands : StandsFor one seat = seat_at c place kept items seats one seat is same at all found in
    subst (λ number. Stand (set items place now) (seat_changed number after seats)) (sym is)
    (changed StandsFor place (λ other. record other { client = after }) items seats now seat every here
    (record { client = told; clock = clock ∙ stands.clock }))

-- one stands for the same as before
pub stays_at : (c place : ℕ) (kept items : List Kept) (seats : List Seat) (one now : Kept) (seat : Seat)
    → c ≡ suc place → items ≡ kept → one ≡ get_or items place one → now.clock ≡ one.clock → Stand kept seats → counted c seats ≡ Some seat
    → Stands (kept_of now.holder) seat.client → Stand (set items place now) seats
stays_at c place items-now items seats one now seat is same at clock all found told =
    let here : slice_get seats place ≡ Some seat = subst (λ number. counted number seats ≡ Some seat) is found in
    let every : Stand items seats = subst (λ list. Stand list seats) (sym same) all in
    let stands : StandsFor one seat = seat_at c place items-now items seats one seat is same at all found in
    kept StandsFor place items seats now seat every here (record { client = told; clock = clock ∙ stands.clock })

pub becomes_ok : {X E : Type 0} (r : Result X E) (change : Seat → Client) (c place : ℕ) (kept items : List Kept) (one now : Kept)
    → c ≡ suc place → items ≡ kept → one ≡ get_or items place one → now.clock ≡ one.clock
    → ((seat : Seat) → StandsFor one seat → OnOk r (Stands (kept_of now.holder) (change seat)))
    → OnOk r (Becomes c change kept (set items place now))
becomes_ok (Ok x) change c place kept items one now is same at clock told = λ seats seat all found.
    changes_at c place kept items seats one now seat (change seat) is same at clock all found (told seat (seat_at c place kept items seats one seat is same at all found))
becomes_ok (Err e) change c place kept items one now is same at clock told = tt

pub stays_err : {X E : Type 0} (r : Result X E) (c place : ℕ) (kept items : List Kept) (seats : List Seat) (one now : Kept)
    → c ≡ suc place → place < length kept → items ≡ kept → one ≡ get_or items place one → now.clock ≡ one.clock → Stand kept seats
    → ((seat : Seat) → StandsFor one seat → OnErr r (Stands (kept_of now.holder) seat.client))
    → OnErr r (Stand (set items place now) seats)
stays_err (Ok x) c place kept items seats one now is less same at clock all told = tt
stays_err (Err e) c place kept items seats one now is less same at clock all told =
    found_at (λ found. counted c seats ≡ found → Stand (set items place now) seats) c place kept items seats one is less same at all
    (λ seat stands found. stays_at c place kept items seats one now seat is same at clock all found (told seat stands)) refl

-- bytes came to one, unless it had ended
pub by_end : (b : Bool) (c place : ℕ) (kept items : List Kept) (seats : List Seat) (one now : Kept) (seat : Seat) (after : Client)
    → c ≡ suc place → items ≡ kept → one ≡ get_or items place one → now.clock ≡ one.clock → Stand kept seats → counted c seats ≡ Some seat
    → Stands (kept_of now.holder) (if b then seat.client else after) → Stand (set items place now) (if b then seats else seat_changed c after seats)
by_end true c place kept items seats one now seat after is same at clock all found told = stays_at c place kept items seats one now seat is same at clock all found told
by_end false c place kept items seats one now seat after is same at clock all found told = changes_at c place kept items seats one now seat after is same at clock all found told

-- ---- keys

pub keys_at : (place : ℕ) (kept items : List Kept) (one now : Kept)
    → place < length kept → items ≡ kept → one ≡ get_or items place one → keys_of now ≡ keys_of one → KeepKeys kept (set items place now)
keys_at place kept items one now less same at keys ring all =
    let every : HaveKeys ring items = subst (λ list. HaveKeys ring list) (sym same) all in
    let few : place < length items = subst (λ list. place < length list) (sym same) less in
    let has : HasKeys ring (keys_of one) = subst (λ (k : Kept). HasKeys ring (keys_of k)) (sym at) (all_at (HasKeysOf ring) place items one every few) in
    all_set (HasKeysOf ring) place items now every (subst (λ (keys : Keys). HasKeys ring keys) (sym keys) has)

-- ---- answers

pub on_ok : {X E : Type 0} (r : Result X E) (P Q : Type 0) → (P → Q) → OnOk r P → OnOk r Q
on_ok (Ok x) P Q next holds = next holds
on_ok (Err e) P Q next holds = tt

pub if_ok : {X E : Type 0} (r : Result X E) (P Q : X → Type 0) → ((x : X) → P x → Q x) → IfOk r P → IfOk r Q
if_ok (Ok x) P Q next holds = next x holds
if_ok (Err e) P Q next holds = tt

-- ---- a clock, bytes that come down, and keys

pub set_at : (time : ℕ) (c place : ℕ) (kept items : List Kept) (seats : List Seat) (one now : Kept)
    → c ≡ suc place → place < length kept → items ≡ kept → one ≡ get_or items place one → now ≡ clocked time one → Stand kept seats
    → Stand (set items place now) (changed_at c (clock_set time) seats)
set_at time c place kept items seats one now is less same at new all =
    let every : Stand items seats = subst (λ list. Stand list seats) (sym same) all in
    found_at (λ found. counted c seats ≡ found → Stand (set items place now) (changed_at c (clock_set time) seats)) c place kept items seats one is less same at all
    (λ seat stands found.
    let here : slice_get seats place ≡ Some seat = subst (λ number. counted number seats ≡ Some seat) is found in
    let told : StandsFor now (clock_set time seat) = subst (λ (k : Kept). StandsFor k (clock_set time seat)) (sym new) (record { client = stands.client; clock = refl }) in
    subst (λ number. Stand (set items place now) (changed_at number (clock_set time) seats)) (sym is)
    (changed StandsFor place (clock_set time) items seats now seat every here told)) refl

pub took_at : (r : Result Unit SeatFault) (opens : ℕ → Dir → List ℕ → Option Envelope) (bytes : List ℕ) (c place : ℕ) (kept items : List Kept) (seats : List Seat) (one now : Kept) (seat : Seat)
    → c ≡ suc place → items ≡ kept → one ≡ get_or items place one → now.clock ≡ one.clock → Stand kept seats → counted c seats ≡ Some seat
    → ((client : Client) → Stands (kept_of one.holder) client → TakenSo client (taken_in opens (moment_of one.clock) bytes client) now.holder r)
    → OnOk r (Stand (set items place now) (taken_at opens c bytes seat seats))
took_at (Ok x) opens bytes c place kept items seats one now seat is same at clock all found told =
    let stands : StandsFor one seat = seat_at c place kept items seats one seat is same at all found in
    by_end seat.client.has_ended c place kept items seats one now seat (takes (moment_of seat.clock) (opens (seat_now seat) Down bytes) seat.client) is same at clock all found
    (subst (λ time. Stands (kept_of now.holder) (taken_in opens (moment_of time) bytes seat.client)) stands.clock (told seat.client stands.client))
took_at (Err e) opens bytes c place kept items seats one now seat is same at clock all found told = tt

pub took_err : (r : Result Unit SeatFault) (after : Client → Client) (now : Kept) (client : Client)
    → TakenSo client (after client) now.holder r → OnErr r (Stands (kept_of now.holder) client)
took_err (Ok x) after now client told = tt
took_err (Err e) after now client told = told

pub has_keys_at : (ring : List RingKey) (place : ℕ) (kept items : List Kept) (one : Kept)
    → place < length kept → items ≡ kept → one ≡ get_or items place one → HaveKeys ring kept → HasKeysOf ring one
has_keys_at ring place kept items one less same at all =
    let here : one ≡ get_or kept place one = subst (λ list. one ≡ get_or list place one) same at in
    subst (λ (k : Kept). HasKeysOf ring k) (sym here) (all_at (HasKeysOf ring) place kept one all less)

-- ---- one more client

pub room_full : (kept : List Kept) (seats : List Seat) → Stand kept seats → clients_max ≤ length kept → unless (nat_lt (length seats) clients_max) NoClient ≡ Some NoClient
room_full kept seats all full =
    let many : clients_max ≤ length seats = subst (λ count. clients_max ≤ count) (zip_count StandsFor kept seats all) full in
    ap (λ b. unless b NoClient) (le-ltb (length seats) clients_max many)

pub room_left : (kept : List Kept) (seats : List Seat) → Stand kept seats → length kept < clients_max → unless (nat_lt (length seats) clients_max) NoClient ≡ None
room_left kept seats all left =
    let few : length seats < clients_max = subst (λ count. count < clients_max) (zip_count StandsFor kept seats all) left in
    ap (λ b. unless b NoClient) (lt-ltb (length seats) clients_max few)

pub joins_at : (kept items : List Kept) (seats : List Seat) (now : Kept) (client : Client)
    → items ≡ kept ++ now ∷ [] → now.clock ≡ 0 → Stand kept seats → Stands (kept_of now.holder) client
    → Stand items (seats ++ record { client = client; clock = 0 } ∷ [])
joins_at kept items seats now client is clock all stands =
    subst (λ list. Stand list (seats ++ record { client = client; clock = 0 } ∷ [])) (sym is)
    (joined StandsFor kept seats now (record { client = client; clock = 0 }) all (record { client = stands; clock = clock }))

pub refused_memory : {X : Type 0} (due : Option Refusal) (r : Result X SeatFault) → IsErrAnd r (λ one. one ≡ fault.Memory) → due ≡ None → TellsRefusal due r
refused_memory {X} due (Ok x) is none = none
refused_memory {X} due (Err found) is none = subst (λ one. TellsRefusal {X = X} due (Err one)) (sym is) none
