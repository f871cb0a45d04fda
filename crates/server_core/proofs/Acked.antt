-- What a session owes goes out in the packets of the event, and so does the acknowledgement of a number.
use Rattle.std.proofs.Common.{◌≡◌, ◌≢◌, ◌∙◌, ℕ, true, Bool, Option, Some, None, List, [], ◌∷◌, length, ap, sym, subst, refl, arith, inl, inr}
use Rattle.std.specs.Prelude.{fold, map, not, ◌⊎◌}
use Rattle.std.specs.List.{Contains, filter, flat_map}
use Rattle.std.proofs.lemmas.Bool.{cases_Bool, cond_both, cond-true, false≢true}
use Rattle.std.proofs.lemmas.List.Elements.{All-contains, All-nil, Contains-append_cases, Contains-append_left, Contains-append_right, Contains-push, Contains-push_cases}
use Rattle.auth_keys.specs.declared.ring.RingKey.{RingKey}
use Rattle.draws.specs.Draws.{next_bytes}
use Rattle.envelope.specs.Packet.{Lock}
use Rattle.msg_ids.specs.Counters.{is_odd}
use Rattle.service_tl.specs.declared.lists.Message.{Message}
use Rattle.msg_ids.specs.Counters.{Counters}
use Rattle.salt_line.specs.Line.{current_salt}
use Rattle.packing.specs.Packing.{after_outer, after_packets, groups, outer_of, outers_of, packed, packets_of}
use Rattle.server_rules.specs.Server.{Name, Server, Session, is_same, name_of, session_named}
use Rattle.server_rules.specs.Event.{Envelope, Owed, Sent, Setting, Speaker, State, lost, speaker_in, speaks, spoken_by}
use Rattle.server_rules.specs.Speaking.{needs_salts}
use Rattle.server_rules.specs.Sending.{all_sent, envelope_of, messages_by, names_in, padding_bytes, seals, sends}
use Rattle.server_rules.specs.Answer.{after_packet, is_spent, name_in, without_spent}
use Rattle.law_server_bounds.specs.Taking.{IsAcknowledged}
use Rattle.server_core.specs.declared.effects.Effects.{Effects}
use Rattle.server_core.specs.Acceptance.{Acknowledges, IsAcceptedBy, WasTaken}
use Rattle.server_core.specs.Desks.{Does}
use Rattle.server_core.specs.Server.{Kept, StandsFor}
use Rattle.server_core.proofs.Names.{found-named, names-same, none-some, same-names}
use Rattle.server_core.proofs.One.{sends-name}

-- ---- lists

pub in-nothing : {X : Type 0} (x : X) → Contains [] x → ⊥
in-nothing {X} x there = All-contains (λ (other : X). ⊥) [] x (All-nil (λ (other : X). ⊥)) there

pub first-or-later : {X : Type 0} (x : X) (xs : List X) (y : X) → Contains (x ∷ xs) y → (x ≡ y) ⊎ Contains xs y
first-or-later x xs y there =
    elim (Contains-append_cases (x ∷ []) xs y there) [
      | inl here ↦
          elim (Contains-push_cases [] x y here) [
            | inl none ↦ absurd (in-nothing y none)
            | inr same ↦ inl same
          ]
      | inr after ↦ inr after
    ]

pub later : {X : Type 0} (x : X) (xs : List X) (y : X) → Contains xs y → Contains (x ∷ xs) y
later x xs y there = Contains-append_right (x ∷ []) xs y there

kept-in : {X : Type 0} (test : X → Bool) (xs : List X) (x : X) → test x ≡ true → Contains xs x → Contains (filter test xs) x
kept-in test [] x is there = absurd (in-nothing x there)
kept-in {X} test (one ∷ xs) x is there =
    elim (first-or-later one xs x there) [
      | inl same ↦
          let C : List X → Type 0 = λ kept. Contains kept x in
          let here : Contains (one ∷ filter test xs) x = (0, omega arith, same) in
          subst C (sym (cond-true (test one) (one ∷ filter test xs) (filter test xs) (ap test same ∙ is))) here
      | inr after ↦
          let rest = kept-in test xs x is after in
          cond_both (test one) (one ∷ filter test xs) (filter test xs) (λ (kept : List X). Contains kept x)
          (λ holds. later one (filter test xs) x rest) (λ fails. rest)
    ]

mapped-in : {X Y : Type 0} (f : X → Y) (xs : List X) (x : X) → Contains xs x → Contains (map f xs) (f x)
mapped-in f [] x there = absurd (in-nothing x there)
mapped-in f (one ∷ xs) x there =
    elim (first-or-later one xs x there) [
      | inl same ↦ (0, omega arith, ap f same)
      | inr after ↦ later (f one) (map f xs) (f x) (mapped-in f xs x after)
    ]

-- ---- what is owed by name

cases-name : (one other : Name) → (one ≡ other) ⊎ (one ≢ other)
cases-name one other =
    elim (cases_Bool (is_same one other)) [
      | inl is ↦ inl (same-names one other is)
      | inr apart ↦ inr (λ is. false≢true (sym apart ∙ names-same one other is))
    ]

owing-name : (owed : List Owed) (one : Owed) → Contains owed one → Contains (names_in owed) one.name
owing-name [] one there = absurd (in-nothing one there)
owing-name (first ∷ owed) one there =
    elim (first-or-later first owed one there) [
      | inl same ↦ (0, omega arith, ap (λ (owed : Owed). owed.name) same)
      | inr after ↦
          elim (cases_Bool (is_same first.name one.name)) [
            | inl is ↦ (0, omega arith, same-names first.name one.name is)
            | inr apart ↦
                let test : Name → Bool = λ other. not (is_same first.name other) in
                later first.name (filter test (names_in owed)) one.name (kept-in test (names_in owed) one.name (ap not apart) (owing-name owed one after))
          ]
    ]

its-message : (name : Name) (owed : List Owed) (one : Owed) → Contains owed one → one.name ≡ name → Contains (messages_by name owed) one.message
its-message name owed one there is =
    let test : Owed → Bool = λ one. is_same name one.name in
    mapped-in (λ (one : Owed). one.message) (filter test owed) one (kept-in test owed one (names-same name one.name (sym is)) there)

-- ---- packets

-- the law on the packets of messages
abbrev pub HaveAll : Type 0
HaveAll = (messages : List Message) → flat_map (λ group. group) (groups messages) ≡ messages

in-group : (all : List (List Message)) (message : Message) → Contains (flat_map (λ group. group) all) message
    → (group : List Message) × Contains all group × Contains group message
in-group [] message there = absurd (in-nothing message there)
in-group (group ∷ all) message there =
    elim (Contains-append_cases group (flat_map (λ (group : List Message). group) all) message there) [
      | inl here ↦ (group, (0, omega arith, refl), here)
      | inr after ↦ let rest = in-group all message after in (rest.0, later group all rest.0 rest.1, rest.2)
    ]

body-of : (now : ℕ) (counters : Counters) (group : List Message) → (outer_of now counters group).body ≡ packed group
body-of now counters [] = refl
body-of now counters (message ∷ []) = refl
body-of now counters (message ∷ other ∷ group) = refl

out-of : (now : ℕ) (counters : Counters) (all : List (List Message)) (group : List Message) → Contains all group
    → (packet : Message) × Contains (outers_of now counters all) packet × (packet.body ≡ packed group)
out-of now counters [] group there = absurd (in-nothing group there)
out-of now counters (one ∷ all) group there =
    let outer : Message = outer_of now counters one in
    let others : List Message = outers_of now (after_outer now counters one) all in
    elim (first-or-later one all group there) [
      | inl same ↦ (outer, (0, omega arith, refl), body-of now counters one ∙ ap packed same)
      | inr after ↦
          let rest = out-of now (after_outer now counters one) all group after in
          (rest.0, later outer others rest.0 rest.1, rest.2)
    ]

-- a packet of the session of this name has this message in it
abbrev Carries : Name → Message → Sent → Type 0
Carries name message sent =
    (sent.envelope.key ≡ name.key) × (sent.envelope.session ≡ name.session)
    × ((messages : List Message) × (sent.envelope.body ≡ packed messages) × Contains messages message)

-- what the laws say of a session that speaks
pub record Speaking (S : Type 0) : Type 0 where
  pub own : (name : Name) (speak : Speaker S → Speaker S) (state : State S) (session : Session) → session_named name state.sessions ≡ Some session
      → name_of (speak (speaker_in state session)).session ≡ name
      → session_named name (speaks name speak state).sessions ≡ Some (speak (speaker_in state session)).session
  pub others : (name other : Name) (speak : Speaker S → Speaker S) (state : State S) (session : Session) → session_named name state.sessions ≡ Some session
      → name_of (speak (speaker_in state session)).session ≡ name → other ≢ name
      → session_named other (speaks name speak state).sessions ≡ session_named other state.sessions

module _ {S : Type 0} (setting : Setting S) where
  abbrev one-sealed : ℕ → Speaker S → Message → Sent
  one-sealed salt x packet =
      record { envelope = envelope_of salt x packet; padding = next_bytes setting.step (padding_bytes (length packet.body)) x.draw }

  stays-sent : (salt : ℕ) (packets : List Message) (x : Speaker S) (one : Sent) → Contains x.sent one → Contains (fold (seals setting salt) x packets).sent one
  stays-sent salt [] x one there = there
  stays-sent salt (packet ∷ packets) x one there =
      stays-sent salt packets (seals setting salt x packet) one (Contains-append_left x.sent (one-sealed salt x packet ∷ []) one there)

  one-sent : (salt : ℕ) (packets : List Message) (x : Speaker S) (packet : Message) → Contains packets packet
      → (one : Sent) × Contains (fold (seals setting salt) x packets).sent one
      × (one.envelope.key ≡ x.session.key) × (one.envelope.session ≡ x.session.number) × (one.envelope.body ≡ packet.body)
  one-sent salt [] x packet there = absurd (in-nothing packet there)
  one-sent salt (first ∷ packets) x packet there =
      let after : Speaker S = seals setting salt x first in
      elim (first-or-later first packets packet there) [
        | inl same ↦ (
          one-sealed salt x first,
          stays-sent salt packets after (one-sealed salt x first) (Contains-push x.sent (one-sealed salt x first)),
          refl,
          refl,
          ap (λ (message : Message). message.body) same,
        )
        | inr next ↦ one-sent salt packets after packet next
      ]

  its-packet : HaveAll → (messages : List Message) (x : Speaker S) (message : Message) → Contains messages message
      → (one : Sent) × Contains (sends setting messages x).sent one × Carries (name_of x.session) message one
  its-packet have messages x message there =
      let ready : Speaker S = needs_salts setting 1 x in
      let counters = after_packets setting.now ready.session.counters messages in
      let y : Speaker S = record ready { session = record ready.session { counters = counters } } in
      let C : List Message → Type 0 = λ all. Contains all message in
      let group = in-group (groups messages) message (subst C (sym (have messages)) there) in
      let out = out-of setting.now ready.session.counters (groups messages) group.0 group.1 in
      let sent = one-sent (current_salt ready.session.salts setting.now) (packets_of setting.now ready.session.counters messages) y out.0 out.1 in
      (sent.0, sent.1, (sent.2, sent.3, (group.0, sent.4 ∙ out.2, group.2)))

  still-there : (found : Option Session) (messages : List Message) (state : State S) (one : Sent) → Contains state.sent one
      → Contains (spoken_by found (sends setting messages) state).sent one
  still-there None messages state one there = there
  still-there (Some session) messages state one there =
      let ready : Speaker S = needs_salts setting 1 (speaker_in state session) in
      let counters = after_packets setting.now ready.session.counters messages in
      let y : Speaker S = record ready { session = record ready.session { counters = counters } } in
      stays-sent (current_salt ready.session.salts setting.now) (packets_of setting.now ready.session.counters messages) y one there

  -- the sessions of these names send what they owe
  abbrev each : List Owed → State S → List Name → State S
  each owed state names = fold (λ (so_far : State S) (name : Name). speaks name (sends setting (messages_by name owed)) so_far) state names

  all-there : (owed : List Owed) (names : List Name) (state : State S) (one : Sent) → Contains state.sent one → Contains (each owed state names).sent one
  all-there owed [] state one there = there
  all-there owed (name ∷ names) state one there =
      all-there owed names (speaks name (sends setting (messages_by name owed)) state) one
      (still-there (session_named name state.sessions) (messages_by name owed) state one there)

  -- whether a session stands, as another or itself sends

  stays-apart : Speaking S → (own name : Name) (messages : List Message) (state : State S) (found : Option Session) → session_named name state.sessions ≡ found → own ≢ name
      → session_named own (speaks name (sends setting messages) state).sessions ≡ session_named own state.sessions
  stays-apart laws own name messages state None is apart =
      ap (λ (found : Option Session). session_named own (spoken_by found (sends setting messages) state).sessions) is
  stays-apart laws own name messages state (Some session) is apart =
      laws.others name own (sends setting messages) state session is
      (sends-name setting messages (speaker_in state session) ∙ found-named name state.sessions session is) apart

  stays-none : Speaking S → (own : Name) (owed : List Owed) (names : List Name) (state : State S) → session_named own state.sessions ≡ None
      → session_named own (each owed state names).sessions ≡ None
  stays-none laws own owed [] state none = none
  stays-none laws own owed (name ∷ names) state none =
      let send : Speaker S → Speaker S = sends setting (messages_by name owed) in
      elim (cases-name own name) [
        | inl same ↦
            let N : Name → Type 0 = λ name. session_named name state.sessions ≡ None in
            let is : session_named name state.sessions ≡ None = subst N same none in
            let next : session_named own (speaks name send state).sessions ≡ None =
            ap (λ (found : Option Session). session_named own (spoken_by found send state).sessions) is ∙ none in
            stays-none laws own owed names (speaks name send state) next
        | inr apart ↦
            stays-none laws own owed names (speaks name send state)
            (stays-apart laws own name (messages_by name owed) state (session_named name state.sessions) refl apart ∙ none)
      ]

  -- its message is in a packet
  goes-out : Speaking S → HaveAll → (own : Name) (message : Message) (owed : List Owed) (names : List Name) (state : State S) (session : Session)
      → Contains names own → session_named own state.sessions ≡ Some session → Contains (messages_by own owed) message
      → (one : Sent) × Contains (each owed state names).sent one × Carries own message one
  goes-out laws have own message owed [] state session among is there = absurd (in-nothing own among)
  goes-out laws have own message owed (name ∷ names) state session among is there =
      elim (cases-name own name) [
        | inl same ↦
            let N : Name → Type 0 = λ name. session_named name state.sessions ≡ Some session in
            let M : Name → Type 0 = λ name. Contains (messages_by name owed) message in
            let messages = messages_by name owed in
            let x : Speaker S = speaker_in state session in
            let out = its-packet have messages x message (subst M same there) in
            let F : Option Session → Type 0 = λ found. Contains (each owed (spoken_by found (sends setting messages) state) names).sent out.0 in
            let all : Contains (each owed (spoken_by (Some session) (sends setting messages) state) names).sent out.0 =
            all-there owed names (spoken_by (Some session) (sends setting messages) state) out.0 out.1 in
            let named_so = found-named own state.sessions session is in (
              out.0,
              subst F (sym (subst N same is)) all,
              (out.2.0 ∙ ap (λ (name : Name). name.key) named_so, out.2.1 ∙ ap (λ (name : Name). name.session) named_so, out.2.2),
            )
        | inr apart ↦
            let rest : Contains names own =
            elim (first-or-later name names own among) [
              | inl same ↦ absurd (apart (sym same))
              | inr after ↦ after
            ] in
            let send : Speaker S → Speaker S = sends setting (messages_by name owed) in
            goes-out laws have own message owed names (speaks name send state) session rest
            (stays-apart laws own name (messages_by name owed) state (session_named name state.sessions) refl apart ∙ is) there
      ]

  lost-sent : (spent : List Session) (state : State S) → (fold (λ so_far session. lost (name_of session) so_far) state spent).sent ≡ state.sent
  lost-sent [] state = refl
  lost-sent (session ∷ spent) state = lost-sent spent (lost (name_of session) state)

  found-stands : Speaking S → (own : Name) (state : State S) (last : Session) (found : Option Session) → session_named own state.sessions ≡ found
      → session_named own (all_sent setting state).sessions ≡ Some last → (session : Session) × (session_named own state.sessions ≡ Some session)
  found-stands laws own state last None is stands = absurd (none-some last (sym (stays-none laws own state.owed (names_in state.owed) state is) ∙ stands))
  found-stands laws own state last (Some session) is stands = (session, is)

  -- where a session that stands until all is sent owes an acknowledgement, it goes out
  pub acknowledged-out : Speaking S → HaveAll → (own : Name) (number : ℕ) (state : State S) (last : Session)
      → session_named own (all_sent setting state).sessions ≡ Some last → IsAcknowledged own number state.owed
      → (one : Sent) × Contains (without_spent (all_sent setting state)).sent one × Acknowledges own number one
  acknowledged-out laws have own number state last stands said =
      let session = found-stands laws own state last (session_named own state.sessions) refl stands in
      let N : Name → Type 0 = λ name. Contains (names_in state.owed) name in
      let among : Contains (names_in state.owed) own = subst N said.2 (owing-name state.owed said.0 said.1) in
      let out = goes-out laws have own said.0.message state.owed (names_in state.owed) state session.0 among session.1 (its-message own state.owed said.0 said.1 said.2) in
      let C : List Sent → Type 0 = λ sent. Contains sent out.0 in
      let sent = all_sent setting state in
      let last_sent : Contains (without_spent sent).sent out.0 = subst C (sym (lost-sent (filter is_spent sent.sessions) sent)) out.1 in
      let carried = out.2.2 in
      (out.0, last_sent, (out.2.0, out.2.1, (carried.0, carried.1, (said.0.message, carried.2, said.3))))

-- what an event gives in which a message was accepted
pub was-taken : {S D : Type 0} (lock : Lock) (keys : List RingKey) (setting : Setting D) (envelope : Envelope) (server : Server) (draw : D) (session : Session) (kept : Kept S) (drawn : D) (effects : Effects)
    → Does (StandsFor kept) lock keys drawn effects (after_packet setting envelope server draw)
    → IsAcceptedBy setting envelope server draw session (after_packet setting envelope server draw).server
    → (is_odd envelope.seq ≡ true → (one : Sent) × Contains (after_packet setting envelope server draw).packets one × Acknowledges (name_in envelope) envelope.number one)
    → WasTaken lock keys setting envelope server draw session kept effects
was-taken lock keys setting envelope server draw session kept drawn effects gives accepted acknowledged =
    let after = after_packet setting envelope server draw in
    record {
      server = after.server;
      stands = gives.stands;
      accepted = accepted;
      packets = after.packets;
      sent = gives.sent;
      acknowledged = acknowledged;
    }
