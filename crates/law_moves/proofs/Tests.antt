-- Tests that compute whether a move is lawful but for one condition.
use Rattle.std.proofs.Common.{◌≡◌, ◌≢◌, ℕ, ◌==◌, nat_le, Bool, true, not, ◌&&◌, ◌||◌, List, inl, inr, sym, ap, ◌∙◌, subst}
use Rattle.std.proofs.lemmas.Bool.{and_parts, or_cases, eqb-true, leb-true}
use Rattle.std.specs.List.{Contains, list_any, list_all}
use Rattle.law_moves.specs.Table.{Message, Judged, ServerSession, Entry}
use Rattle.law_moves.specs.Table.Status.{Unmade, Standing}
use Rattle.law_moves.specs.Table.Outcome.{AcceptedCall}
use Rattle.law_moves.specs.World.{World, Owns, WasGiven}
use Rattle.law_moves.specs.Move.{Move}
use Rattle.law_moves.specs.Move.Move.{Own, Send, Make, Draw, Judge, Forget, Answer, Speak, Hear, Lose}
use Rattle.law_moves.specs.LawfulBut.{MaySayBut, IsLawfulBut}
use Rattle.law_moves.proofs.Basics.{contains_none}
use Rattle.law_moves.proofs.HearKept.{not_among}
use Rattle.law_moves.proofs.Equal.{found, each, unless, is_false, differs, has, contains_if, same_judged, judged_same, same_packets, packets_same, same_messages, messages_same}
use Rattle.law_moves.proofs.ClientTests.{Bounded, every_one, owns, owner_if, is_standing, standing_if, not_standing, is_unmade, unmade_if, own_test, own_if, parts_test, parts_if}
use Rattle.law_moves.proofs.ServerTests.{decide_test, decide_if, say_test, say_if, has_accepted, has_accepted_if, begins_new, begins_if}

-- All moves

abbrev pub has_owner : List ℕ → World → ℕ → Bool
has_owner clients w session = not (session == 0) && list_any (λ client. owns (w.clients client) session) clients

pub has_owner_if : (clients : List ℕ) (w : World) (session : ℕ)
    → has_owner clients w session ≡ true → (client : ℕ) × Owns (w.clients client) session
has_owner_if clients w session h =
    let a = and_parts (not (session == 0)) _ h in
    let at = found (λ client. owns (w.clients client) session) clients a.1 in
    (at.0, owner_if (w.clients at.0) session (differs session 0 a.0) at.2)

abbrev pub none_stands : List ℕ → World → ℕ → Bool
none_stands servers w session = list_all (λ unique. not ((w.servers unique).session == session) || not (is_standing (w.servers unique).status)) servers

pub none_stands_if : (clients servers : List ℕ) (w : World) (session : ℕ)
    → Bounded clients servers w
    → none_stands servers w session ≡ true
    → (other : ℕ)
    → (w.servers other).session ≡ session
    → (w.servers other).status ≡ Standing
    → ⊥
none_stands_if clients servers w session bounded h =
    every_one servers (λ other. (w.servers other).session ≡ session → (w.servers other).status ≡ Standing → ⊥)
    (λ unique. not ((w.servers unique).session == session) || not (is_standing (w.servers unique).status))
    (
    λ other passes of standing.
    elim (or_cases (not ((w.servers other).session == session)) (not (is_standing (w.servers other).status)) passes) [
      | inl not_of ↦ differs (w.servers other).session session not_of of
      | inr idle ↦ not_standing (w.servers other).status (is_false (is_standing (w.servers other).status) idle) standing
    ]
    )
    (
    λ other outside of standing.
    let never : Unmade ≡ Standing = sym (ap (λ (s : ServerSession). s.status) (bounded.blank_servers other outside)) ∙ standing in
    cc
    ) h

abbrev pub no_salt : List ℕ → World → ℕ → Bool
no_salt servers w salt = list_all (λ unique. not (list_any (λ n. n == salt) (w.servers unique).salts)) servers

pub no_salt_if : (clients servers : List ℕ) (w : World) (salt : ℕ)
    → Bounded clients servers w → no_salt servers w salt ≡ true → (other : ℕ) → Contains (w.servers other).salts salt → ⊥
no_salt_if clients servers w salt bounded h =
    every_one servers (λ other. Contains (w.servers other).salts salt → ⊥) (λ unique. not (list_any (λ n. n == salt) (w.servers unique).salts))
    (λ other passes of. not_among salt (w.servers other).salts (is_false (list_any (λ n. n == salt) (w.servers other).salts) passes) of)
    (
    λ other outside of.
    contains_none salt (subst (λ (s : ServerSession). Contains s.salts salt) (bounded.blank_servers other outside) of)
    ) h

abbrev pub is_given : ℕ → ℕ → Message → Bool
is_given session number message = (message.session == session) && nat_le number message.number

pub given_if : (ups : List Message) (session number : ℕ) → list_any (is_given session number) ups ≡ true → WasGiven ups session number
given_if ups session number h =
    let at = found (is_given session number) ups h in
    let a = and_parts (at.0.session == session) (nat_le number at.0.number) at.2 in
    (at.0, at.1, eqb-true at.0.session session a.0, leb-true number at.0.number a.1)

abbrev pub is_elsewhere : ℕ → ℕ → Entry → Bool
is_elsewhere unique number entry = not (entry.server == unique) || not (entry.number == number)

pub elsewhere_if : (unique number : ℕ) (entry : Entry) → is_elsewhere unique number entry ≡ true → entry.server ≡ unique → entry.number ≢ number
elsewhere_if unique number entry h of is =
    elim (or_cases (not (entry.server == unique)) (not (entry.number == number)) h) [
      | inl other ↦ differs entry.server unique other of
      | inr other ↦ differs entry.number number other is
    ]

abbrev pub test : ℕ → List ℕ → List ℕ → World → Move → Bool
test out clients servers w (Own act) = own_test out clients w act
test out clients servers w (Send client parts) = ((0 == out) || not ((w.clients client).present == 0)) && parts_test out w client parts
test out clients servers w (Make unique session) =
    ((0 == out) || not (unique == 0))
    && (((1 == out) || is_unmade (w.servers unique).status)
    && (((2 == out) || has_owner clients w session) && ((3 == out) || none_stands servers w session)))
test out clients servers w (Draw unique salt) =
    ((0 == out) || is_standing (w.servers unique).status) && (((1 == out) || not (salt == 0)) && ((2 == out) || no_salt servers w salt))
test out clients servers w (Judge unique message outcome) =
    ((0 == out) || is_standing (w.servers unique).status)
    && (((1 == out) || has same_messages w.ups message)
    && (((2 == out) || (message.session == (w.servers unique).session))
    && (((3 == out) || list_all (λ judged. not (judged.number == message.number)) (w.servers unique).judged)
    && decide_test out (w.servers unique) message outcome)))
test out clients servers w (Forget unique number) =
    ((0 == out) || is_standing (w.servers unique).status) && ((1 == out) || list_any (is_given (w.servers unique).session number) w.ups)
test out clients servers w (Answer unique number body reply) =
    ((0 == out) || is_standing (w.servers unique).status)
    && (((1 == out) || has same_judged (w.servers unique).judged (record { number = number; outcome = AcceptedCall body }))
    && ((2 == out) || list_all (is_elsewhere unique number) w.entries))
test out clients servers w (Speak unique items) =
    ((0 == out) || is_standing (w.servers unique).status)
    && (list_all (say_test out w unique) items && ((7 == out) || (has_accepted (w.servers unique) || begins_new items)))
test out clients servers w (Hear client packet takes) =
    ((0 == out) || has same_packets w.downs packet) && ((1 == out) || ((w.servers packet.server).session == (w.clients client).present))
test out clients servers w (Lose unique) = (0 == out) || is_standing (w.servers unique).status

pub lawful_if : (out : ℕ) (clients servers : List ℕ) (w : World) (move : Move)
    → Bounded clients servers w → test out clients servers w move ≡ true → IsLawfulBut out w move
lawful_if out clients servers w (Own act) bounded h = own_if out clients servers w act bounded h
lawful_if out clients servers w (Send client parts) bounded h =
    let a = and_parts ((0 == out) || not ((w.clients client).present == 0)) (parts_test out w client parts) h in
    (unless 0 out (not ((w.clients client).present == 0)) (differs (w.clients client).present 0) a.0, parts_if out w client parts a.1)
lawful_if out clients servers w (Make unique session) bounded h =
    let a = and_parts ((0 == out) || not (unique == 0)) _ h in
    let b = and_parts ((1 == out) || is_unmade (w.servers unique).status) _ a.1 in
    let c = and_parts ((2 == out) || has_owner clients w session) ((3 == out) || none_stands servers w session) b.1 in (
      unless 0 out (not (unique == 0)) (differs unique 0) a.0,
      unless 1 out (is_unmade (w.servers unique).status) (unmade_if (w.servers unique).status) b.0,
      unless 2 out (has_owner clients w session) (has_owner_if clients w session) c.0,
      unless 3 out (none_stands servers w session) (none_stands_if clients servers w session bounded) c.1,
    )
lawful_if out clients servers w (Draw unique salt) bounded h =
    let a = and_parts ((0 == out) || is_standing (w.servers unique).status) _ h in
    let b = and_parts ((1 == out) || not (salt == 0)) ((2 == out) || no_salt servers w salt) a.1 in (
      unless 0 out (is_standing (w.servers unique).status) (standing_if (w.servers unique).status) a.0,
      unless 1 out (not (salt == 0)) (differs salt 0) b.0,
      unless 2 out (no_salt servers w salt) (no_salt_if clients servers w salt bounded) b.1,
    )
lawful_if out clients servers w (Judge unique message outcome) bounded h =
    let server = w.servers unique in
    let a = and_parts ((0 == out) || is_standing server.status) _ h in
    let b = and_parts ((1 == out) || has same_messages w.ups message) _ a.1 in
    let c = and_parts ((2 == out) || (message.session == server.session)) _ b.1 in
    let d = and_parts ((3 == out) || list_all (λ judged. not (judged.number == message.number)) server.judged) (decide_test out server message outcome) c.1 in (
      unless 0 out (is_standing server.status) (standing_if server.status) a.0,
      unless 1 out (has same_messages w.ups message) (contains_if same_messages messages_same w.ups message) b.0,
      unless 2 out (message.session == server.session) (eqb-true message.session server.session) c.0,
      unless 3 out (list_all (λ judged. not (judged.number == message.number)) server.judged) (
          each (λ (judged : Judged). judged.number ≢ message.number) (λ judged. not (judged.number == message.number)) server.judged (λ judged. differs judged.number message.number)
          ) d.0,
      decide_if out server message outcome d.1,
    )
lawful_if out clients servers w (Forget unique number) bounded h =
    let server = w.servers unique in
    let a = and_parts ((0 == out) || is_standing server.status) ((1 == out) || list_any (is_given server.session number) w.ups) h in (
      unless 0 out (is_standing server.status) (standing_if server.status) a.0,
      unless 1 out (list_any (is_given server.session number) w.ups) (given_if w.ups server.session number) a.1,
    )
lawful_if out clients servers w (Answer unique number body reply) bounded h =
    let server = w.servers unique in
    let judged : Judged = record { number = number; outcome = AcceptedCall body } in
    let a = and_parts ((0 == out) || is_standing server.status) _ h in
    let b = and_parts ((1 == out) || has same_judged server.judged judged) ((2 == out) || list_all (is_elsewhere unique number) w.entries) a.1 in (
      unless 0 out (is_standing server.status) (standing_if server.status) a.0,
      unless 1 out (has same_judged server.judged judged) (contains_if same_judged judged_same server.judged judged) b.0,
      unless 2 out (list_all (is_elsewhere unique number) w.entries) (
          each (λ (entry : Entry). entry.server ≡ unique → entry.number ≢ number) (is_elsewhere unique number) w.entries (elsewhere_if unique number)
          ) b.1,
    )
lawful_if out clients servers w (Speak unique items) bounded h =
    let server = w.servers unique in
    let a = and_parts ((0 == out) || is_standing server.status) _ h in
    let b = and_parts (list_all (say_test out w unique) items) ((7 == out) || (has_accepted server || begins_new items)) a.1 in (
      unless 0 out (is_standing server.status) (standing_if server.status) a.0,
      each (MaySayBut out w unique) (say_test out w unique) items (say_if out w unique) b.0,
      unless 7 out (has_accepted server || begins_new items) (
          λ passes.
          elim (or_cases (has_accepted server) (begins_new items) passes) [
            | inl has_one ↦ inl (has_accepted_if server has_one)
            | inr begins ↦ inr (begins_if items begins)
          ]
          ) b.1,
    )
lawful_if out clients servers w (Hear client packet takes) bounded h =
    let a = and_parts ((0 == out) || has same_packets w.downs packet) _ h in (
      unless 0 out (has same_packets w.downs packet) (contains_if same_packets packets_same w.downs packet) a.0,
      unless 1 out ((w.servers packet.server).session == (w.clients client).present) (eqb-true (w.servers packet.server).session (w.clients client).present) a.1,
    )
lawful_if out clients servers w (Lose unique) bounded h = unless 0 out (is_standing (w.servers unique).status) (standing_if (w.servers unique).status) h
