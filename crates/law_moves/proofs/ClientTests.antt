-- Tests that compute whether a client's moves are lawful but for one condition.
use Rattle.std.proofs.Common.{◌≡◌, ◌≢◌, ℕ, ◌==◌, nat_lt, Bool, true, false, not, ◌&&◌, ◌||◌, List, [], ◌∷◌, None, inl, inr, refl, subst}
use Rattle.std.proofs.lemmas.Bool.{cases_Bool, and_parts, or_cases, or_parts, eqb-true, eqb-false, ltb-true}
use Rattle.std.proofs.lemmas.List.Elements.{All-contains}
use Rattle.std.specs.List.{Contains, list_any, list_all}
use Rattle.law_moves.specs.Table.{State, Status, Name, Client, Message, call_at}
use Rattle.law_moves.specs.Table.State.{Queued, Sent, Held, Done, Refused, Unknown}
use Rattle.law_moves.specs.Table.Status.{Unmade, Standing, Lost}
use Rattle.law_moves.specs.World.{World, Owns, no_client, no_server}
use Rattle.law_moves.specs.Move.{OwnAct, Part}
use Rattle.law_moves.specs.Move.OwnAct.{NewClient, Renew, Submit, GiveUp, End}
use Rattle.law_moves.specs.Move.Part.{First, Again, Other, OtherAgain}
use Rattle.law_moves.specs.After.{is_sent, after_part}
use Rattle.law_moves.specs.Lawful.{IsNewNumber, IsBelow, IsNewest, WasNoCall}
use Rattle.law_moves.specs.LawfulBut.{IsOwnLawfulBut, IsPartLawfulBut, ArePartsLawfulBut}
use Rattle.law_moves.proofs.Basics.{contains_none}
use Rattle.law_moves.proofs.Heard.{sent_if}
use Rattle.law_moves.proofs.HearKept.{not_among}
use Rattle.law_moves.proofs.Equal.{found, each, unless, is_false, differs, same_calls, calls_same}

-- Numbers of clients and server sessions beside those in a list are blank

pub record Bounded (clients servers : List ℕ) (w : World) : Type 0 where
  pub blank_clients : (client : ℕ) → list_any (λ n. n == client) clients ≡ false → w.clients client ≡ no_client
  pub blank_servers : (unique : ℕ) → list_any (λ n. n == unique) servers ≡ false → w.servers unique ≡ no_server

-- what a test shows of each number in the list, and a blank of each other, holds of all
pub every_one : (numbers : List ℕ) (P : ℕ → Type 0) (test : ℕ → Bool)
    → ((n : ℕ) → test n ≡ true → P n)
    → ((n : ℕ) → list_any (λ m. m == n) numbers ≡ false → P n)
    → list_all test numbers ≡ true
    → (n : ℕ)
    → P n
every_one numbers P test shows blank h n =
    elim (cases_Bool (list_any (λ m. m == n) numbers)) [
      | inl inside ↦
          let at = found (λ m. m == n) numbers inside in
          subst P (eqb-true at.0 n at.2) (All-contains P numbers at.0 (each P test numbers shows h) at.1)
      | inr outside ↦ blank n outside
    ]

-- What moves ask

abbrev pub owns : Client → ℕ → Bool
owns client session = (session == client.present) || list_any (λ n. n == session) client.former

pub owner_if : (client : Client) (session : ℕ) → session ≢ 0 → owns client session ≡ true → Owns client session
owner_if client session some h = (
  some,
  elim (or_cases (session == client.present) (list_any (λ n. n == session) client.former) h) [
    | inl present ↦ inl (eqb-true session client.present present)
    | inr former ↦
        let at = found (λ n. n == session) client.former former in
        inr (subst (Contains client.former) (eqb-true at.0 session at.2) at.1)
  ],
)

-- a number that is in a list passes the test
pub any_of : (xs : List ℕ) (n : ℕ) → Contains xs n → list_any (λ m. m == n) xs ≡ true
any_of xs n h =
    elim (cases_Bool (list_any (λ m. m == n) xs)) [
      | inl passes ↦ passes
      | inr fails ↦ absurd (not_among n xs fails h)
    ]

abbrev pub no_owner : List ℕ → World → ℕ → Bool
no_owner clients w session = list_all (λ client. not (owns (w.clients client) session)) clients

pub none_owns : (clients servers : List ℕ) (w : World) (session : ℕ)
    → Bounded clients servers w → no_owner clients w session ≡ true → (other : ℕ) → Owns (w.clients other) session → ⊥
none_owns clients servers w session bounded h =
    every_one clients (λ other. Owns (w.clients other) session → ⊥) (λ client. not (owns (w.clients client) session))
    (
    λ other passes of.
    let parts = or_parts (session == (w.clients other).present) (list_any (λ n. n == session) (w.clients other).former) (is_false (owns (w.clients other) session) passes) in
    elim of.1 [
      | inl present ↦ eqb-false session (w.clients other).present parts.0 present
      | inr former ↦ not_among session (w.clients other).former parts.1 former
    ]
    )
    (
    λ other outside of.
    let blank : Owns no_client session = subst (λ (c : Client). Owns c session) (bounded.blank_clients other outside) of in
    elim blank.1 [ inl present ↦ blank.0 present | inr former ↦ contains_none session former ]
    ) h

abbrev pub is_queued : State → Bool
is_queued Queued = true
is_queued Sent = false
is_queued Held = false
is_queued (Done reply) = false
is_queued (Refused code) = false
is_queued (Unknown cause) = false

pub queued_if : (state : State) → is_queued state ≡ true → state ≡ Queued
queued_if Queued h = refl
queued_if Sent h = absurd cc
queued_if Held h = absurd cc
queued_if (Done reply) h = absurd cc
queued_if (Refused code) h = absurd cc
queued_if (Unknown cause) h = absurd cc

abbrev pub is_standing : Status → Bool
is_standing Unmade = false
is_standing Standing = true
is_standing (Lost at) = false

pub standing_if : (status : Status) → is_standing status ≡ true → status ≡ Standing
standing_if Unmade h = absurd cc
standing_if Standing h = refl
standing_if (Lost at) h = absurd cc

pub not_standing : (status : Status) → is_standing status ≡ false → status ≡ Standing → ⊥
not_standing Unmade h is = cc
not_standing Standing h is = cc
not_standing (Lost at) h is = cc

abbrev pub is_unmade : Status → Bool
is_unmade Unmade = true
is_unmade Standing = false
is_unmade (Lost at) = false

pub unmade_if : (status : Status) → is_unmade status ≡ true → status ≡ Unmade
unmade_if Unmade h = refl
unmade_if Standing h = absurd cc
unmade_if (Lost at) h = absurd cc

-- A client by itself

abbrev pub own_test : ℕ → List ℕ → World → OwnAct → Bool
own_test out clients w (NewClient client session) =
    ((0 == out) || ((w.clients client).present == 0)) && (((1 == out) || not (session == 0)) && ((2 == out) || no_owner clients w session))
own_test out clients w (Renew client session) =
    ((0 == out) || not ((w.clients client).present == 0)) && (((1 == out) || not (session == 0)) && ((2 == out) || no_owner clients w session))
own_test out clients w (Submit client body) = (0 == out) || not ((w.clients client).present == 0)
own_test out clients w (GiveUp call) = (0 == out) || is_queued (w.calls call).state
own_test out clients w (End client) = (0 == out) || not ((w.clients client).present == 0)

pub own_if : (out : ℕ) (clients servers : List ℕ) (w : World) (act : OwnAct)
    → Bounded clients servers w → own_test out clients w act ≡ true → IsOwnLawfulBut out w act
own_if out clients servers w (NewClient client session) bounded h =
    let a = and_parts ((0 == out) || ((w.clients client).present == 0)) _ h in
    let b = and_parts ((1 == out) || not (session == 0)) ((2 == out) || no_owner clients w session) a.1 in (
      unless 0 out ((w.clients client).present == 0) (eqb-true (w.clients client).present 0) a.0,
      unless 1 out (not (session == 0)) (differs session 0) b.0,
      unless 2 out (no_owner clients w session) (none_owns clients servers w session bounded) b.1,
    )
own_if out clients servers w (Renew client session) bounded h =
    let a = and_parts ((0 == out) || not ((w.clients client).present == 0)) _ h in
    let b = and_parts ((1 == out) || not (session == 0)) ((2 == out) || no_owner clients w session) a.1 in (
      unless 0 out (not ((w.clients client).present == 0)) (differs (w.clients client).present 0) a.0,
      unless 1 out (not (session == 0)) (differs session 0) b.0,
      unless 2 out (no_owner clients w session) (none_owns clients servers w session bounded) b.1,
    )
own_if out clients servers w (Submit client body) bounded h =
    unless 0 out (not ((w.clients client).present == 0)) (differs (w.clients client).present 0) h
own_if out clients servers w (GiveUp call) bounded h = unless 0 out (is_queued (w.calls call).state) (queued_if (w.calls call).state) h
own_if out clients servers w (End client) bounded h =
    unless 0 out (not ((w.clients client).present == 0)) (differs (w.clients client).present 0) h

-- A client sends

abbrev pub is_below : ℕ → ℕ → Message → Bool
is_below session number message = not (message.session == session) || nat_lt message.number number

pub below_if : (session number : ℕ) (message : Message) → is_below session number message ≡ true → IsBelow session number message
below_if session number message h of =
    elim (or_cases (not (message.session == session)) (nat_lt message.number number) h) [
      | inl other ↦ absurd (differs message.session session other of)
      | inr below ↦ ltb-true message.number number below
    ]

abbrev pub is_new_number : World → ℕ → ℕ → Bool
is_new_number w client number = list_all (is_below (w.clients client).present number) w.ups

pub new_number_if : (w : World) (client number : ℕ) → is_new_number w client number ≡ true → IsNewNumber w client number
new_number_if w client number h =
    each (IsBelow (w.clients client).present number) (is_below (w.clients client).present number) w.ups (below_if (w.clients client).present number) h

abbrev pub is_newest : List Name → ℕ → Bool
is_newest [] number = false
is_newest (name ∷ older) number = name.number == number

pub newest_if : (names : List Name) (number : ℕ) → is_newest names number ≡ true → IsNewest names number
newest_if [] number h = absurd cc
newest_if (name ∷ older) number h = eqb-true name.number number h

abbrev pub is_no_call : ℕ → ℕ → Message → Bool
is_no_call session number message =
    (message.session == session) && ((message.number == number) && same_calls message.call None)

pub no_call_if : (ups : List Message) (session number : ℕ) → list_any (is_no_call session number) ups ≡ true → WasNoCall ups session number
no_call_if ups session number h =
    let at = found (is_no_call session number) ups h in
    let a = and_parts (at.0.session == session) _ at.2 in
    let b = and_parts (at.0.number == number) (same_calls at.0.call None) a.1 in
    (at.0, at.1, eqb-true at.0.session session a.0, eqb-true at.0.number number b.0, calls_same at.0.call None b.1)

abbrev pub part_test : ℕ → World → ℕ → Part → Bool
part_test out w client (First place number) =
    ((1 == out) || is_queued (w.calls (call_at client place)).state) && ((2 == out) || is_new_number w client number)
part_test out w client (Again place number) =
    ((1 == out) || is_sent (w.calls (call_at client place)).state) && ((2 == out) || is_newest (w.calls (call_at client place)).names number)
part_test out w client (Other number) = (2 == out) || is_new_number w client number
part_test out w client (OtherAgain number) = (2 == out) || list_any (is_no_call (w.clients client).present number) w.ups

pub part_if : (out : ℕ) (w : World) (client : ℕ) (part : Part) → part_test out w client part ≡ true → IsPartLawfulBut out w client part
part_if out w client (First place number) h =
    let call = call_at client place in
    let a = and_parts ((1 == out) || is_queued (w.calls call).state) ((2 == out) || is_new_number w client number) h in (
      unless 1 out (is_queued (w.calls call).state) (queued_if (w.calls call).state) a.0,
      unless 2 out (is_new_number w client number) (new_number_if w client number) a.1,
    )
part_if out w client (Again place number) h =
    let call = call_at client place in
    let a = and_parts ((1 == out) || is_sent (w.calls call).state) ((2 == out) || is_newest (w.calls call).names number) h in (
      unless 1 out (is_sent (w.calls call).state) (sent_if (w.calls call).state) a.0,
      unless 2 out (is_newest (w.calls call).names number) (newest_if (w.calls call).names number) a.1,
    )
part_if out w client (Other number) h = unless 2 out (is_new_number w client number) (new_number_if w client number) h
part_if out w client (OtherAgain number) h =
    unless 2 out (list_any (is_no_call (w.clients client).present number) w.ups) (no_call_if w.ups (w.clients client).present number) h

abbrev pub parts_test : ℕ → World → ℕ → List Part → Bool
parts_test out w client [] = true
parts_test out w client (part ∷ parts) = part_test out w client part && parts_test out (after_part w client part) client parts

pub parts_if : (out : ℕ) (w : World) (client : ℕ) (parts : List Part) → parts_test out w client parts ≡ true → ArePartsLawfulBut out w client parts
parts_if out w client [] h = tt
parts_if out w client (part ∷ parts) h =
    let a = and_parts (part_test out w client part) (parts_test out (after_part w client part) client parts) h in
    (part_if out w client part a.0, parts_if out (after_part w client part) client parts a.1)
