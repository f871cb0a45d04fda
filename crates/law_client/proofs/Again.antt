-- A message that is sent again, under the number that it has.
use Rattle.std.proofs.Common.{◌≡◌, ◌≢◌, ℕ, ◌-◌, ◌≤◌, List, [], ◌∷◌, Option, None, Some, inl, inr, refl, sym, ap, subst, ◌∙◌, arith}
use Rattle.std.specs.Prelude.{slice_get, option_map, IfSome}
use Rattle.std.specs.List.{Contains}
use Rattle.std.proofs.lemmas.Bool.{cases_eq}
use Rattle.service_tl.specs.declared.lists.Message.{Message}
use Rattle.law_moves.specs.Table as moves
use Rattle.law_moves.specs.World.{World}
use Rattle.law_moves.specs.Move.Move.{Send}
use Rattle.law_moves.specs.Move.Part.{Again, OtherAgain}
use Rattle.law_moves.specs.After.{after, message_of}
use Rattle.law_moves.specs.Lawful.{IsNewest, WasNoCall}
use Rattle.law_moves.specs.Reached.{Reached}
use Rattle.call_table.specs.declared.call.CallNo.{CallNo}
use Rattle.call_table.specs.Table.{Call, Name, State, with_salt, changed_at}
use Rattle.call_table.specs.Table as table
use Rattle.client_rules.specs.Client.{Client, Asked, Temporary, bound_so, calls_of, with_binding, with_call}
use Rattle.client_rules.specs.Flush.{gone_again}
use Rattle.law_client.specs.Clients.{LivesIn, StandsAs, AreNamesThere, IsNameThere, IsCallThere, StandsThere, IsAskedThere, IsGivenBy, state_there}
use Rattle.law_client.specs.Leading.{Leads}
use Rattle.law_client.specs.Sent.{IsBindingCall, WasSent}
use Rattle.law_client.proofs.Basics.{Apart, all_given_alike, each_of, here, later, living_alike, names_keep}
use Rattle.law_client.proofs.Leading.{moves_once}
use Rattle.law_client.proofs.Own.{is_made}
use Rattle.law_client.proofs.Quiet.{length_changed}
use Rattle.law_client.proofs.Sending.{all_asked_more, get_changed, get_unchanged, salted, unsalted}

-- the names of a call whose last one gets a salt
salted_names : (m : moves.Message) (ups : List moves.Message) (name : Name) (older : List Name) (theres : List moves.Name)
    → AreNamesThere ups (name ∷ older) theres
    → ((there : moves.Name) (others : List moves.Name) → theres ≡ there ∷ others → (m.session ≡ there.session) × (m.number ≡ there.number)
    × ((same : moves.Name) → Contains others same → there.session ≡ same.session → there.number ≡ same.number → ⊥))
    → AreNamesThere (m ∷ ups) (with_salt m.salt (name ∷ older)) theres
salted_names m ups name older [] h first = h
salted_names m ups name older (there ∷ others) h first =
    let at = first there others refl in (
      record { session = h.0.session; number = h.0.number; salts = salted m ups there at.0 at.1 ∙ ap (λ (l : List ℕ). m.salt ∷ l) h.0.salts },
      names_keep ups (m ∷ ups) older others (λ n t among k. record {
        session = k.session;
        number = k.number;
        salts = unsalted m ups t (λ session number. at.2 t among (sym at.0 ∙ session) (sym at.1 ∙ number)) ∙ k.salts;
      }) h.1,
    )

salted_living : (session salt : ℕ) (state : State) (names : List Name) → LivesIn session state names → LivesIn session state (with_salt salt names)
salted_living session salt state [] h = h
salted_living session salt table.Sent (name ∷ names) h = h
salted_living session salt table.Queued (name ∷ names) h = tt
salted_living session salt table.Held (name ∷ names) h = tt
salted_living session salt (table.Done reply) (name ∷ names) h = tt
salted_living session salt (table.Refused code) (name ∷ names) h = tt
salted_living session salt (table.Unknown cause) (name ∷ names) h = tt

-- the living name of a call that is sent
living_session : (session : ℕ) (state : State) (names : List Name) (name : Name) (older : List Name) → state ≡ table.Sent → names ≡ name ∷ older
    → LivesIn session state names → name.session ≡ session
living_session session state names name older is_sent named h =
    subst (λ (st : State). LivesIn session st (name ∷ older)) is_sent (subst (λ (l : List Name). LivesIn session state l) named h)

-- the session number and the number of the first of some names
abbrev first_session : List moves.Name → ℕ → ℕ
first_session [] other = other
first_session (there ∷ others) other = there.session

abbrev first_number : List moves.Name → ℕ → ℕ
first_number [] other = other
first_number (there ∷ others) other = there.number

first_there : (ups : List moves.Message) (name : Name) (older : List Name) (theres : List moves.Name) → AreNamesThere ups (name ∷ older) theres
    → (there : moves.Name) × (others : List moves.Name) × (theres ≡ there ∷ others) × IsNameThere ups name there
first_there ups name older [] h = absurd h
first_there ups name older (there ∷ others) h = (there, others, refl, h.0)

module _ (apart : Apart) (w : World) (number : ℕ) (client : Client) (reached : Reached w) (s : StandsAs w number client) where
  present : (w.clients number).present ≡ client.session
  present = ap (λ (c : moves.Client). c.present) s.parts

  module _ (k : CallNo) (call : Call) (name : Name) (older : List Name) (found : slice_get (calls_of client) (k.n - 1) ≡ Some call)
      (is_sent : call.state ≡ table.Sent) (named : call.names ≡ name ∷ older) where
    abbrev place : ℕ
    place = k.n - 1

    abbrev its : ℕ
    its = name.message.number

    abbrev id : moves.CallId
    id = moves.call_at number place

    abbrev m : moves.Message
    m = message_of (w.clients number) its (Some (w.calls id).body)

    abbrev change : Call → Call
    change = gone_again client.salt

    abbrev gone : Client
    gone = with_call k change client

    abbrev gone_w : World
    gone_w = after w (Send number (Again place its ∷ []))

    there_now : IsCallThere client w.ups call (w.calls id)
    there_now = subst (λ (f : Option Call). StandsThere client w.ups f (w.calls id)) found (s.calls place)

    names_now : AreNamesThere w.ups (name ∷ older) (w.calls id).names
    names_now = subst (λ (l : List Name). AreNamesThere w.ups l (w.calls id).names) named there_now.names

    lives : name.session ≡ client.session
    lives = living_session client.session call.state call.names name older is_sent named there_now.living

    first : (there : moves.Name) × (others : List moves.Name) × ((w.calls id).names ≡ there ∷ others) × IsNameThere w.ups name there
    first = first_there w.ups name older (w.calls id).names names_now

    same_session : m.session ≡ first.0.session
    same_session = present ∙ sym lives ∙ sym first.3.session

    same_number : m.number ≡ first.0.number
    same_number = sym first.3.number

    among_now : Contains (w.calls id).names first.0
    among_now = subst (λ (l : List moves.Name). Contains l first.0) (sym first.2) (here first.0 first.1)

    is_given : its ≤ client.counters.last
    is_given =
        let under = apart.sent w id first.0 reached among_now in
        let le : under.0.number ≤ client.counters.last =
        each_of (λ (one : moves.Message). IsGivenBy client one.session one.number) w.ups s.given under.0 under.1
        (under.2.0 ∙ first.3.session ∙ lives) in
        omega (arith, le, under.2.1, first.3.number)

    salt_there : m.salt ≡ client.salt
    salt_there = ap (λ (c : moves.Client). c.salt) s.parts

    names_gone : AreNamesThere (m ∷ w.ups) (with_salt client.salt call.names) (w.calls id).names
    names_gone =
        subst (λ (l : List Name). AreNamesThere (m ∷ w.ups) (with_salt client.salt l) (w.calls id).names) (sym named)
        (subst (λ (salt : ℕ). AreNamesThere (m ∷ w.ups) (with_salt salt (name ∷ older)) (w.calls id).names) salt_there
        (salted_names m w.ups name older (w.calls id).names names_now (λ there others is. (
          same_session ∙ ap (λ (l : List moves.Name). first_session l first.0.session) (sym first.2 ∙ is),
          same_number ∙ ap (λ (l : List moves.Name). first_number l first.0.number) (sym first.2 ∙ is),
          λ same also session also_number. apart.newest w id there same others reached is also session also_number,
        ))))

    call_gone : StandsThere gone gone_w.ups (Some (change call)) (w.calls id)
    call_gone = record {
      body = there_now.body;
      state = there_now.state;
      names = names_gone;
      living = salted_living client.session client.salt call.state call.names there_now.living;
      asks = there_now.asks;
    }

    other_call : (q : ℕ) → q ≢ place → (found : Option Call) → StandsThere client w.ups found (w.calls (moves.call_at number q))
        → StandsThere gone (m ∷ w.ups) found (w.calls (moves.call_at number q))
    other_call q differs None h = h
    other_call q differs (Some one) h = record {
      body = h.body;
      state = h.state;
      names = names_keep w.ups (m ∷ w.ups) one.names (w.calls (moves.call_at number q)).names (λ n there among h. record {
        session = h.session;
        number = h.number;
        salts = unsalted m w.ups there (λ session is.
            differs (ap (λ (c : moves.CallId). c.place)
            (apart.of_one w (moves.call_at number q) id there first.0 reached among among_now (sym session ∙ same_session) (sym is ∙ same_number)))) ∙ h.salts;
      }) h.names;
      living = living_alike client gone refl one h.living;
      asks = h.asks;
    }

    calls_gone : (q : ℕ) → StandsThere gone gone_w.ups (slice_get (calls_of gone) q) (gone_w.calls (moves.call_at number q))
    calls_gone q =
        elim (cases_eq q place) [
          | inl is ↦ rw (get_changed place change (calls_of client) q is, is, found) call_gone
          | inr differs ↦
              rw (get_unchanged place change (calls_of client) q differs)
              (other_call q differs (slice_get (calls_of client) q) (s.calls q))
        ]

    newest_there : IsNewest (w.calls id).names its
    newest_there = subst (λ (l : List moves.Name). IsNewest l its) (sym first.2) first.3.number

    pub sends_again : Leads number w (λ later. StandsAs later number gone × WasSent later.ups client.session client.salt its (Some call.body))
    sends_again =
        moves_once number w (λ later. StandsAs later number gone × WasSent later.ups client.session client.salt its (Some call.body)) (Send number (Again place its ∷ []))
        (is_made w number client s, ((there_now.state ∙ ap state_there is_sent, newest_there), tt)) refl (
          record {
            made = s.made;
            parts = s.parts;
            submitted = s.submitted ∙ sym (length_changed place change (calls_of client));
            calls = calls_gone;
            given = (λ is. is_given, all_given_alike client gone (record { session = refl; last = omega arith }) w.ups s.given);
            short = record { acks = s.short.acks; resent = s.short.resent };
            asked = all_asked_more m w.ups client gone refl client.temporary s.asked;
          },
          record { up = m; there = here m w.ups; under = present; salted = salt_there; numbered = refl; is = ap (λ (body : List ℕ). Some body) there_now.body },
        )

  -- ---- the binding

  module _ (message : Message) (was : WasNoCall w.ups client.session message.number) (is_binding : IsBindingCall message.body) where
    abbrev bound : Client
    bound = with_binding (Asked message) client

    abbrev up : moves.Message
    up = message_of (w.clients number) message.number None

    given_number : message.number ≤ client.counters.last
    given_number =
        let le : was.0.number ≤ client.counters.last =
        each_of (λ (one : moves.Message). IsGivenBy client one.session one.number) w.ups s.given was.0 was.1 was.2 in
        omega (arith, le, was.3)

    kept_salts : (id : moves.CallId) (name : Name) (there : moves.Name) → Contains (w.calls id).names there → IsNameThere w.ups name there
        → IsNameThere (up ∷ w.ups) name there
    kept_salts id name there among h = record {
      session = h.session;
      number = h.number;
      salts = unsalted up w.ups there (λ session is. apart.no_name w was.0 reached was.1 was.4
          (id, there, among, sym session ∙ present ∙ sym was.2, sym is ∙ sym was.3)) ∙ h.salts;
    }

    kept_place : (id : moves.CallId) (found : Option Call) → StandsThere client w.ups found (w.calls id) → StandsThere bound (up ∷ w.ups) found (w.calls id)
    kept_place id None h = h
    kept_place id (Some call) h = record {
      body = h.body;
      state = h.state;
      names = names_keep w.ups (up ∷ w.ups) call.names (w.calls id).names (kept_salts id) h.names;
      living = living_alike client bound refl call h.living;
      asks = h.asks;
    }

    asked_now : (temporary : Option Temporary)
        → IfSome (option_map (bound_so (Asked message)) temporary) (λ (t : Temporary). IsAskedThere (up ∷ w.ups) bound t.binding)
    asked_now None = tt
    asked_now (Some temporary) = ((was.0, later was.0 up w.ups was.1, was.2, was.3, was.4), is_binding)

    pub sends_binding_again : Leads number w (λ later. StandsAs later number bound × WasSent later.ups client.session client.salt message.number None)
    sends_binding_again =
        moves_once number w (λ later. StandsAs later number bound × WasSent later.ups client.session client.salt message.number None) (Send number (OtherAgain message.number ∷ []))
        (is_made w number client s, ((was.0, was.1, was.2 ∙ sym present, was.3, was.4), tt)) refl (
          record {
            made = s.made;
            parts = s.parts;
            submitted = s.submitted;
            calls = λ place. kept_place (moves.call_at number place) (slice_get (calls_of client) place) (s.calls place);
            given = (λ is. given_number, all_given_alike client bound (record { session = refl; last = omega arith }) w.ups s.given);
            short = record { acks = s.short.acks; resent = s.short.resent };
            asked = asked_now client.temporary;
          },
          record { up = up; there = here up w.ups; under = present; salted = ap (λ (c : moves.Client). c.salt) s.parts; numbered = refl; is = refl },
        )
