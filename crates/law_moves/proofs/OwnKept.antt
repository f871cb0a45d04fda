-- What a client does by itself keeps all: its session number is new, and what it gives up is dead or unknown.
use Rattle.std.proofs.Common.{◌≡◌, ℕ, suc, ◌≤◌, ◌==◌, if◌then◌else◌, true, false, List, [], ◌∷◌, Some, inl, inr, sym, refl, ap, ◌∙◌, subst, subst₂, arith, ne_eqb, eq-eqb}
use Rattle.std.proofs.lemmas.Bool.{cases_eq, both_ways}
use Rattle.std.specs.List.{Contains}
use Rattle.law_moves.specs.Table.{CallId, Text, State, Name, Client, Message, ServerSession, Entry, call_at}
use Rattle.law_moves.specs.Table.Cause.{ServerSessionLost, Renewed, Ended, Forgotten}
use Rattle.law_moves.specs.Table.State.{Queued, Sent, Held, Done, Refused, Unknown}
use Rattle.law_moves.specs.World.{World, Owns}
use Rattle.law_moves.specs.Move.{OwnAct}
use Rattle.law_moves.specs.Move.OwnAct.{NewClient, Renew, Submit, GiveUp, End}
use Rattle.law_moves.specs.After.{after_own, end_client, state_renewed, state_ended}
use Rattle.law_moves.specs.Lawful.{IsMadeClient, IsOwnLawful}
use Rattle.law_moves.proofs.Kept.{Kept, Fits}
use Rattle.law_moves.proofs.Basics.{contains_first, contains_rest, contains_cases, contains_none, empty, choice, choice_of, chosen, unchosen, call_choice, call_unchosen}
use Rattle.law_moves.proofs.Grows.{on_last, unchanged, packets_stay}
use Rattle.law_moves.proofs.Restated.{kept_restated}
use Rattle.law_moves.proofs.NewSession.{TakesSession, owners_with_session, clients_with_session}
use Rattle.law_moves.proofs.Clients.{cause_of_client, on_last_among}

-- A client is made

-- one that owns a session number isn't the new one
owner_differs : (now : ℕ) (w : World) (client other owned : ℕ)
    → Kept now w → (w.clients client).present ≡ 0 → Owns (w.clients other) owned → other ≡ client → ⊥
owner_differs now w client other owned k none owns same =
    let here : (w.clients other).present ≡ 0 = ap (λ c. (w.clients c).present) same ∙ none in
    elim owns.1 [
      | inl present ↦ owns.0 (present ∙ here)
      | inr former ↦ empty owned (w.clients other).former (k.clients.unmade other here).0 former
    ]

-- a call with no name fits its state whatever its client is
nameless : (client later : Client) (servers : ℕ → ServerSession) (ups : List Message) (entries : List Entry) (names : List Name)
    → ((name : Name) → Contains names name → ⊥)
    → (client.ended ≡ true → later.ended ≡ true)
    → (state : State)
    → Fits client servers ups entries names state
    → Fits later servers ups entries names state
nameless client later servers ups entries names none ended Queued h = h
nameless client later servers ups entries names none ended Sent h = let last = on_last_among names h in absurd (none last.0 last.1)
nameless client later servers ups entries names none ended Held h = h
nameless client later servers ups entries names none ended (Done reply) h = h
nameless client later servers ups entries names none ended (Refused code) h = h
nameless client later servers ups entries names none ended (Unknown ServerSessionLost) h = h
nameless client later servers ups entries names none ended (Unknown Renewed) h =
    let last = on_last_among names h in absurd (none last.0 last.1)
nameless client later servers ups entries names none ended (Unknown Ended) h = ended h
nameless client later servers ups entries names none ended (Unknown Forgotten) h = h

new_client_takes : (now : ℕ) (w : World) (client session : ℕ)
    → Kept now w
    → IsOwnLawful w (NewClient client session)
    → TakesSession w (after_own w (NewClient client session)).clients client session
new_client_takes now w client session k lawful =
    let new : Client = record { present = session; former = []; salt = 0; learnt = []; ended = false } in
    let here : (if client == client then new else w.clients client) ≡ new = chosen client client new (w.clients client) refl in
    record {
      others = λ other differs. unchosen other client new (w.clients other) differs;
      present = ap (λ (c : Client). c.present) here;
      learnt = ap (λ (c : Client). c.learnt) here;
      salt = ap (λ (c : Client). c.salt) here;
      owned = λ other some owns.
          subst (λ (c : Client). Owns c some) (sym (unchosen other client new (w.clients other) (owner_differs now w client other some k lawful.0 owns))) owns;
      owned_before = λ other some owns.
          elim (choice_of (λ (c : Client). Owns c some) other client new (w.clients other) owns) [
            | inl is ↦ inl (is.0, elim is.1.1 [ inl present ↦ present | inr none ↦ absurd (contains_none some none) ])
            | inr old ↦ inr old.1
          ];
    }

new_client : (now : ℕ) (w : World) (client session : ℕ)
    → Kept now w → IsOwnLawful w (NewClient client session) → Kept now (after_own w (NewClient client session))
new_client now w client session k lawful =
    let later : World = after_own w (NewClient client session) in
    let t = new_client_takes now w client session k lawful in
    kept_restated now w later.clients (λ call. (w.calls call).state) k (owners_with_session k t lawful.1) (clients_with_session k t lawful.1) (λ call is. is) (
    λ call.
    elim (cases_eq call.client client) [
      | inr differs ↦
          subst (λ (c : Client). Fits c w.servers w.ups w.entries (w.calls call).names (w.calls call).state) (sym (t.others call.client differs)) (
          k.calls.fits call
          )
      | inl same ↦
          nameless (w.clients call.client) (later.clients call.client) w.servers w.ups w.entries (w.calls call).names (
          λ name among. owner_differs now w client call.client name.session k lawful.0 (k.owners.of_name call name among) same
          ) (
          λ ended.
          let not_ended = (k.clients.unmade call.client (ap (λ c. (w.clients c).present) same ∙ lawful.0)).1 in
          absurd (both_ways (w.clients call.client).ended not_ended ended)
          ) (w.calls call).state (k.calls.fits call)
    ]
    )

-- A client renews

renewed : (client : Client) (session : ℕ) (servers : ℕ → ServerSession) (ups : List Message) (entries : List Entry) (names : List Name) (state : State)
    → Fits client servers ups entries names state
    → Fits (record client { present = session; former = client.present ∷ client.former; salt = 0; learnt = [] }) servers ups entries names (state_renewed state)
renewed client session servers ups entries names Queued h = h
renewed client session servers ups entries names Sent h = on_last names (λ name lives. subst (Contains (client.present ∷ client.former)) (sym lives.0) (contains_first client.present client.former)) h
renewed client session servers ups entries names Held h = h
renewed client session servers ups entries names (Done reply) h = h
renewed client session servers ups entries names (Refused code) h = h
renewed client session servers ups entries names (Unknown cause) h =
    cause_of_client client (record client { present = session; former = client.present ∷ client.former; salt = 0; learnt = [] }) servers names
    (λ some. contains_rest some client.present client.former) (λ ended. ended) cause h

-- the client after it renewed
client_renewed : Client → ℕ → Client
client_renewed client session = record client { present = session; former = client.present ∷ client.former; salt = 0; learnt = [] }

renew_takes : (w : World) (client session : ℕ) → TakesSession w (after_own w (Renew client session)).clients client session
unfolding client_renewed
renew_takes w client session =
    let here = chosen client client (client_renewed (w.clients client) session) (w.clients client) refl in
    record {
      others = λ other differs. unchosen other client (client_renewed (w.clients other) session) (w.clients other) differs;
      present = ap (λ (c : Client). c.present) here;
      learnt = ap (λ (c : Client). c.learnt) here;
      salt = ap (λ (c : Client). c.salt) here;
      owned = λ other some owns.
          choice (λ (c : Client). Owns c some) other client (client_renewed (w.clients other) session) (w.clients other)
          (
          λ same. (
            owns.0,
            elim owns.1 [
              | inl present ↦
                  inr (subst (Contains ((w.clients other).present ∷ (w.clients other).former)) (sym present) (contains_first (w.clients other).present (w.clients other).former))
              | inr former ↦ inr (contains_rest some (w.clients other).present (w.clients other).former former)
            ],
          )
          )
          (λ differs. owns);
      owned_before = λ other some owns.
          elim (choice_of (λ (c : Client). Owns c some) other client (client_renewed (w.clients other) session) (w.clients other) owns) [
            | inl new ↦
                elim new.1.1 [
                  | inl present ↦ inl (new.0, present)
                  | inr old ↦
                      elim (contains_cases some (w.clients other).present (w.clients other).former old) [
                        | inl before ↦ inr (new.1.0, inl before)
                        | inr former ↦ inr (new.1.0, inr former)
                      ]
                ]
            | inr old ↦ inr old.1
          ];
    }

renew : (now : ℕ) (w : World) (client session : ℕ)
    → Kept now w → IsOwnLawful w (Renew client session) → Kept now (after_own w (Renew client session))
unfolding client_renewed
renew now w client session k lawful =
    let later : World = after_own w (Renew client session) in
    let t = renew_takes w client session in
    kept_restated now w later.clients (λ call. (later.calls call).state) k (owners_with_session k t lawful.1) (clients_with_session k t lawful.1)
    (
    λ call is.
    choice (λ (s : State). s ≡ Refused 0) call.client client (state_renewed (w.calls call).state) (w.calls call).state
    (λ same. ap state_renewed is) (λ differs. is)
    )
    (
    λ call.
    elim (cases_eq call.client client) [
      | inr differs ↦
          subst₂ (λ (c : Client) (s : State). Fits c w.servers w.ups w.entries (w.calls call).names s)
          (sym (t.others call.client differs))
          (sym (unchosen call.client client (state_renewed (w.calls call).state) (w.calls call).state differs))
          (k.calls.fits call)
      | inl same ↦
          subst₂ (λ (c : Client) (s : State). Fits c w.servers w.ups w.entries (w.calls call).names s)
          (sym (chosen call.client client (client_renewed (w.clients call.client) session) (w.clients call.client) same))
          (sym (chosen call.client client (state_renewed (w.calls call).state) (w.calls call).state same))
          (renewed (w.clients call.client) session w.servers w.ups w.entries (w.calls call).names (w.calls call).state (k.calls.fits call))
    ]
    )

-- A call is submitted

-- one that isn't submitted afterwards wasn't before, and isn't the new one
not_submitted : (w : World) (client : ℕ) (body : Text) (call : CallId)
    → (after_own w (Submit client body)).submitted call.client ≤ call.place
    → (w.submitted call.client ≤ call.place) × (call ≡ call_at client (w.submitted client) → ⊥)
not_submitted w client body call not_yet =
    elim (choice_of (λ n. n ≤ call.place) call.client client (suc (w.submitted call.client)) (w.submitted call.client) not_yet) [
      | inl mine ↦
          let most : suc (w.submitted call.client) ≤ call.place = mine.1 in
          let is : w.submitted call.client ≡ w.submitted client = ap w.submitted mine.0 in (
            omega arith,
            λ same. let place : call.place ≡ w.submitted client = ap (λ (c : CallId). c.place) same in omega arith,
          )
      | inr old ↦ (old.1, λ same. old.0 (ap (λ (c : CallId). c.client) same))
    ]

submit : (now : ℕ) (w : World) (client : ℕ) (body : Text)
    → Kept now w → IsOwnLawful w (Submit client body) → Kept now (after_own w (Submit client body))
submit now w client body k lawful =
    let later : World = after_own w (Submit client body) in
    let new : CallId = call_at client (w.submitted client) in
    -- the new call has no name
    let nameless_new : (call : CallId) → call ≡ new → (w.calls call).names ≡ [] =
    λ call same. (k.calls.unsubmitted call (subst (λ (c : CallId). w.submitted c.client ≤ c.place) (sym same) (le_self (w.submitted client)))).0 in
    let old_body : (call : CallId) (name : Name) → Contains (w.calls call).names name → (w.calls call).body ≡ (later.calls call).body =
    λ call name among.
    sym (call_unchosen call new body (w.calls call).body (λ same. empty name (w.calls call).names (nameless_new call same) among)) in
    record {
      servers = k.servers;
      outcomes = k.outcomes;
      messages = k.messages;
      owners = k.owners;
      clients = k.clients;
      names = k.names;
      bodies =
          record {
            of_name = λ call name message among sent under.
                k.bodies.of_name call name message among sent under ∙ ap Some (old_body call name among);
            of_message = λ message some among is.
                let old = k.bodies.of_message message some among is in
                (old.0, old.1, old.2, old.3, old.4 ∙ old_body old.0 old.1 old.2);
          };
      takers = k.takers;
      calls =
          record {
            unsubmitted = λ call not_yet.
                let was = not_submitted w client body call not_yet in
                let old = k.calls.unsubmitted call was.0 in
                (old.0, call_unchosen call new Queued (w.calls call).state was.1 ∙ old.1);
            fits = λ call.
                call_choice (Fits (w.clients call.client) w.servers w.ups w.entries (w.calls call).names) call new Queued (w.calls call).state
                (λ same name among. absurd (empty name (w.calls call).names (nameless_new call same) among))
                (λ differs. k.calls.fits call);
          };
      packets = packets_stay k later (unchanged w.servers) refl (λ entry h. h) (λ session number h. h) (λ session number given name. name);
    }
  where
    le_self : (n : ℕ) → n ≤ n
    le_self n = omega arith

-- A call is given up

give_up : (now : ℕ) (w : World) (given_up : CallId)
    → Kept now w → IsOwnLawful w (GiveUp given_up) → Kept now (after_own w (GiveUp given_up))
give_up now w given_up k lawful =
    let later : World = after_own w (GiveUp given_up) in
    kept_restated now w w.clients (λ call. (later.calls call).state) k k.owners k.clients
    (λ call is. call_choice (λ (s : State). s ≡ Refused 0) call given_up (Refused 0) (w.calls call).state (λ same. refl) (λ differs. is))
    (
    λ call.
    call_choice (Fits (w.clients call.client) w.servers w.ups w.entries (w.calls call).names) call given_up (Refused 0) (w.calls call).state
    (
    λ same.
    let queued : (w.calls call).state ≡ Queued = ap (λ c. (w.calls c).state) same ∙ lawful in
    subst (Fits (w.clients call.client) w.servers w.ups w.entries (w.calls call).names) queued (k.calls.fits call)
    )
    (λ differs. k.calls.fits call)
    )

-- A client ends

ended : (client : Client) (servers : ℕ → ServerSession) (ups : List Message) (entries : List Entry) (names : List Name) (state : State)
    → Fits client servers ups entries names state
    → Fits (record client { ended = true }) servers ups entries names (state_ended state)
ended client servers ups entries names Queued h = h
ended client servers ups entries names Sent h = refl
ended client servers ups entries names Held h = h
ended client servers ups entries names (Done reply) h = h
ended client servers ups entries names (Refused code) h = h
ended client servers ups entries names (Unknown cause) h =
    cause_of_client client (record client { ended = true }) servers names (λ some among. among) (λ was. refl) cause h

pub kept_after_end : (now : ℕ) (w : World) (client : ℕ)
    → Kept now w → IsMadeClient w client → Kept now (end_client w client)
kept_after_end now w client k made =
    let later : World = end_client w client in
    let there : (other : ℕ) → (other ≡ client → ⊥) → later.clients other ≡ w.clients other = λ other differs. rw (ne_eqb other client differs) refl in
    let here : (other : ℕ) → other ≡ client → later.clients other ≡ record (w.clients other) { ended = true } = λ other same. rw (eq-eqb other client same) refl in
    kept_restated now w later.clients (λ call. (later.calls call).state) k k.owners
    (
    record {
      salted = k.clients.salted;
      learnt = k.clients.learnt;
      bounded = k.clients.bounded;
      knows = k.clients.knows;
      unmade = λ other none.
          let differs : other ≡ client → ⊥ = λ same. made (sym (ap (λ c. (w.clients c).present) same) ∙ none) in
          ((k.clients.unmade other none).0, ap (λ (c : Client). c.ended) (there other differs) ∙ (k.clients.unmade other none).1);
    }
    )
    (
    λ call is.
    choice (λ (s : State). s ≡ Refused 0) call.client client (state_ended (w.calls call).state) (w.calls call).state
    (λ same. ap state_ended is) (λ differs. is)
    )
    (
    λ call.
    elim (cases_eq call.client client) [
      | inr differs ↦
          subst₂ (λ (c : Client) (s : State). Fits c w.servers w.ups w.entries (w.calls call).names s)
          (sym (there call.client differs))
          (sym (unchosen call.client client (state_ended (w.calls call).state) (w.calls call).state differs))
          (k.calls.fits call)
      | inl same ↦
          subst₂ (λ (c : Client) (s : State). Fits c w.servers w.ups w.entries (w.calls call).names s)
          (sym (here call.client same))
          (sym (chosen call.client client (state_ended (w.calls call).state) (w.calls call).state same))
          (ended (w.clients call.client) w.servers w.ups w.entries (w.calls call).names (w.calls call).state (k.calls.fits call))
    ]
    )

pub kept_after_own : (now : ℕ) (w : World) (act : OwnAct) → Kept now w → IsOwnLawful w act → Kept now (after_own w act)
kept_after_own now w (NewClient client session) k lawful = new_client now w client session k lawful
kept_after_own now w (Renew client session) k lawful = renew now w client session k lawful
kept_after_own now w (Submit client body) k lawful = submit now w client body k lawful
kept_after_own now w (GiveUp call) k lawful = give_up now w call k lawful
kept_after_own now w (End client) k lawful = kept_after_end now w client k lawful
