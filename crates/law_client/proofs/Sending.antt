-- One message of a client's packet.
use Rattle.std.proofs.Common.{◌≡◌, ◌≢◌, ℕ, zero, suc, ◌-◌, ◌≤◌, ◌<◌, Bool, true, List, [], ◌∷◌, Option, None, Some, inl, inr, refl, sym, ap, subst, ◌∙◌, arith, eq-eqb, ne_eqb}
use Rattle.std.specs.Prelude.{slice_get, option_map, IfSome}
use Rattle.std.specs.List.{AllByRecursion, Contains}
use Rattle.std.proofs.lemmas.Bool.{cases_eq}
use Rattle.msg_ids.specs.Counters.{next_number}
use Rattle.service_tl.specs.declared.lists.Message.{Message}
use Rattle.law_moves.specs.Table as moves
use Rattle.law_moves.specs.World.{World}
use Rattle.law_moves.specs.Move.Move.{Own, Send}
use Rattle.law_moves.specs.Move.OwnAct.{GiveUp}
use Rattle.law_moves.specs.Move.Part.{First, Other}
use Rattle.law_moves.specs.After.{after, salts_of, message_of}
use Rattle.law_moves.specs.Lawful.{IsBelow, IsNewNumber}
use Rattle.law_moves.specs.Reached.{Reached}
use Rattle.call_table.specs.declared.call.CallNo.{CallNo}
use Rattle.call_table.specs.declared.call.Living.{Living}
use Rattle.call_table.specs.declared.call.Fate.TheVariants as fate
use Rattle.call_table.specs.Table.{Call, Name, State, living_name, sent, settled, changed_at}
use Rattle.call_table.specs.Table as table
use Rattle.client_rules.specs.Client.{Client, Binding, Needed, Asked, Held, Bound, Refused, Temporary, calls_of, numbered, after_message, with_call, time_of}
use Rattle.law_client.specs.Clients.{StandsAs, IsNameThere, IsCallThere, StandsThere, IsAskedThere, IsGivenBy, state_there}
use Rattle.law_client.specs.Leading.{Leads}
use Rattle.law_client.specs.Sent.{IsSent, WasSent}
use Rattle.law_client.proofs.Basics.{Apart, all_given_alike, all_of, at_each, each_of, here, later, living_alike, names_keep}
use Rattle.law_client.proofs.Leading.{moves_once}
use Rattle.law_client.proofs.Own.{is_made}
use Rattle.law_client.proofs.Quiet.{asked_alike, length_changed, same_there}

-- ---- a new number

pub above : (last now : ℕ) → last < next_number last now
above last now = omega arith

-- what was sent under the session number has a number below a new one
pub all_below : (w : World) (number : ℕ) (client : Client) → StandsAs w number client → (session salt bound : ℕ) → client.session ≡ session → client.counters.last < bound
    → (messages : List Message) → AllByRecursion (IsSent w.ups session salt) messages → AllByRecursion (λ (message : Message). message.number < bound) messages
all_below w number client s session salt bound same more [] h = tt
all_below w number client s session salt bound same more (message ∷ messages) h =
    let sent = h.0.2 in
    let given = each_of (λ (m : moves.Message). IsGivenBy client m.session m.number) w.ups s.given sent.up sent.there (sent.under ∙ sym same) in
    let is : sent.up.number ≡ message.number = sent.numbered in
    (omega (arith, given, is, more), all_below w number client s session salt bound same more messages h.1)

-- ---- a call that is changed

pub get_changed : {X : Type 0} (place : ℕ) (change : X → X) (xs : List X) (q : ℕ) → q ≡ place → slice_get (changed_at place change xs) q ≡ option_map change (slice_get xs q)
get_changed place change [] q is = refl
get_changed zero change (x ∷ xs) zero is = refl
get_changed zero change (x ∷ xs) (suc q) is = absurd (omega (arith, is))
get_changed (suc place) change (x ∷ xs) zero is = absurd (omega (arith, is))
get_changed (suc place) change (x ∷ xs) (suc q) is = get_changed place change xs q (omega (arith, is))

pub get_unchanged : {X : Type 0} (place : ℕ) (change : X → X) (xs : List X) (q : ℕ) → q ≢ place → slice_get (changed_at place change xs) q ≡ slice_get xs q
get_unchanged place change [] q differs = refl
get_unchanged zero change (x ∷ xs) zero differs = absurd (differs refl)
get_unchanged zero change (x ∷ xs) (suc q) differs = refl
get_unchanged (suc place) change (x ∷ xs) zero differs = refl
get_unchanged (suc place) change (x ∷ xs) (suc q) differs = get_unchanged place change xs q (λ is. differs (ap suc is))

-- ---- salts

pub unsalted : (m : moves.Message) (ups : List moves.Message) (there : moves.Name)
    → (m.session ≡ there.session → m.number ≡ there.number → ⊥) → salts_of (m ∷ ups) there ≡ salts_of ups there
unsalted m ups there differs =
    elim (cases_eq m.session there.session) [
      | inl session ↦
          elim (cases_eq m.number there.number) [
            | inl number ↦ absurd (differs session number)
            | inr number ↦ rw (eq-eqb m.session there.session session, ne_eqb m.number there.number number) refl
          ]
      | inr session ↦ rw (ne_eqb m.session there.session session) refl
    ]

pub salted : (m : moves.Message) (ups : List moves.Message) (there : moves.Name) → m.session ≡ there.session → m.number ≡ there.number
    → salts_of (m ∷ ups) there ≡ m.salt ∷ salts_of ups there
salted m ups there session number = rw (eq-eqb m.session there.session session, eq-eqb m.number there.number number) refl

-- a name that no message is under has no salts
no_salts : (ups : List moves.Message) (there : moves.Name)
    → AllByRecursion (λ (m : moves.Message). m.session ≡ there.session → m.number ≡ there.number → ⊥) ups → salts_of ups there ≡ []
no_salts [] there none = refl
no_salts (m ∷ ups) there none = unsalted m ups there none.0 ∙ no_salts ups there none.1

-- ---- what lasts as messages are added

asked_more : (m : moves.Message) (ups : List moves.Message) (client other : Client) → other.session ≡ client.session → (binding : Binding)
    → IsAskedThere ups client binding → IsAskedThere (m ∷ ups) other binding
asked_more m ups client other session Needed h = tt
asked_more m ups client other session (Asked message) h = ((h.0.0, later h.0.0 m ups h.0.1, h.0.2 ∙ sym session, h.0.3, h.0.4), h.1)
asked_more m ups client other session Held h = tt
asked_more m ups client other session Bound h = tt
asked_more m ups client other session (Refused code) h = tt

pub all_asked_more : (m : moves.Message) (ups : List moves.Message) (client other : Client) → other.session ≡ client.session → (temporary : Option Temporary)
    → IfSome temporary (λ (t : Temporary). IsAskedThere ups client t.binding) → IfSome temporary (λ (t : Temporary). IsAskedThere (m ∷ ups) other t.binding)
all_asked_more m ups client other session None h = tt
all_asked_more m ups client other session (Some temporary) h = asked_more m ups client other session temporary.binding h

module _ (apart : Apart) (w : World) (number : ℕ) (client : Client) (reached : Reached w) (s : StandsAs w number client) where
  present : (w.clients number).present ≡ client.session
  present = ap (λ (c : moves.Client). c.present) s.parts

  salt_there : (w.clients number).salt ≡ client.salt
  salt_there = ap (λ (c : moves.Client). c.salt) s.parts

  -- ---- a number above all that were given

  module _ (new : ℕ) (more : client.counters.last < new) where
    none_under : AllByRecursion (λ (m : moves.Message). m.session ≡ client.session → m.number ≡ new → ⊥) w.ups
    none_under = all_of (λ (m : moves.Message). m.session ≡ client.session → m.number ≡ new → ⊥) w.ups
        (λ m among session is.
        let le : m.number ≤ client.counters.last =
        each_of (λ (m : moves.Message). IsGivenBy client m.session m.number) w.ups s.given m among session in
        omega (arith, le, is, more))

    is_new : IsNewNumber w number new
    is_new = at_each (IsBelow (w.clients number).present new) w.ups (all_of (IsBelow (w.clients number).present new) w.ups
        (λ m among session.
        let le : m.number ≤ client.counters.last =
        each_of (λ (m : moves.Message). IsGivenBy client m.session m.number) w.ups s.given m among (session ∙ present) in
        omega (arith, le, more)))

    -- the names that were there keep their salts
    kept_salts : (m : moves.Message) → m.session ≡ client.session → m.number ≡ new → (call : moves.CallId) (name : Name) (there : moves.Name)
        → Contains (w.calls call).names there → IsNameThere w.ups name there → IsNameThere (m ∷ w.ups) name there
    kept_salts m session is call name there among h = record {
      session = h.session;
      number = h.number;
      salts = unsalted m w.ups there (λ same_session same_number.
          let under = apart.sent w call there reached among in
          each_of (λ (m : moves.Message). m.session ≡ client.session → m.number ≡ new → ⊥) w.ups none_under under.0 under.1
          (under.2.0 ∙ sym same_session ∙ session) (under.2.1 ∙ sym same_number ∙ is)) ∙ h.salts;
    }

    kept_call : (m : moves.Message) → m.session ≡ client.session → m.number ≡ new → (other : Client) → other.session ≡ client.session
        → (id : moves.CallId) (call : Call) → IsCallThere client w.ups call (w.calls id) → IsCallThere other (m ∷ w.ups) call (w.calls id)
    kept_call m session is other same id call h = record {
      body = h.body;
      state = h.state;
      names = names_keep w.ups (m ∷ w.ups) call.names (w.calls id).names (kept_salts m session is id) h.names;
      living = living_alike client other same call h.living;
      asks = h.asks;
    }

    pub kept_place : (m : moves.Message) → m.session ≡ client.session → m.number ≡ new → (other : Client) → other.session ≡ client.session
        → (id : moves.CallId) (found : Option Call) → StandsThere client w.ups found (w.calls id) → StandsThere other (m ∷ w.ups) found (w.calls id)
    kept_place m session is other same id None h = h
    kept_place m session is other same id (Some call) h = kept_call m session is other same id call h

  -- ---- a message that is no call

  pub sends_other : (is_content : Bool) (body : List ℕ)
      → Leads number w (λ later. StandsAs later number (after_message is_content client)
      × WasSent later.ups client.session client.salt (numbered is_content body client).number None)
  sends_other is_content body =
      let new : ℕ = next_number client.counters.last (time_of client) in
      let more : client.counters.last < new = above client.counters.last (time_of client) in
      let m : moves.Message = message_of (w.clients number) new None in
      let other : Client = after_message is_content client in
      moves_once number w (λ later. StandsAs later number other × WasSent later.ups client.session client.salt new None) (Send number (Other new ∷ []))
      (is_made w number client s, (is_new new more, tt)) refl (
        record {
          made = s.made;
          parts = s.parts;
          submitted = s.submitted;
          calls = λ place. kept_place new more m present refl other refl (moves.call_at number place) (slice_get (calls_of client) place) (s.calls place);
          given = (λ is. omega arith, all_given_alike client other (record { session = refl; last = omega (arith, more) }) w.ups s.given);
          short = record { acks = s.short.acks; resent = s.short.resent };
          asked = all_asked_more m w.ups client other refl client.temporary s.asked;
        },
        record { up = m; there = here m w.ups; under = present; salted = salt_there; numbered = refl; is = refl },
      )

  -- ---- a call goes under a new number

  module _ (k : CallNo) (call : Call) (wrap : Option ℕ) (seq : ℕ) (found : slice_get (calls_of client) (k.n - 1) ≡ Some call) (queued : call.state ≡ table.Queued) where
    abbrev place : ℕ
    place = k.n - 1

    abbrev new : ℕ
    new = next_number client.counters.last (time_of client)

    abbrev living : Living
    living = record { number = new; seq = seq; wrap = wrap }

    abbrev change : Call → Call
    change = sent client.session living client.salt

    abbrev gone : Client
    gone = with_call k change (after_message true client)

    abbrev id : moves.CallId
    id = moves.call_at number place

    abbrev m : moves.Message
    m = message_of (w.clients number) new (Some (w.calls id).body)

    abbrev gone_w : World
    gone_w = after w (Send number (First place new ∷ []))

    more : client.counters.last < new
    more = above client.counters.last (time_of client)

    there_now : IsCallThere client w.ups call (w.calls id)
    there_now = subst (λ (f : Option Call). StandsThere client w.ups f (w.calls id)) found (s.calls place)

    new_name : IsNameThere (m ∷ w.ups) (record { session = client.session; message = living; salts = client.salt ∷ [] })
        (record { session = (w.clients number).present; number = new; first = w.time; known = (w.clients number).learnt })
    new_name =
        let there : moves.Name = record { session = (w.clients number).present; number = new; first = w.time; known = (w.clients number).learnt } in
        record {
          session = present;
          number = refl;
          salts = salted m w.ups there refl refl
              ∙ ap (λ (l : List ℕ). (w.clients number).salt ∷ l) (no_salts w.ups there (all_of (λ (one : moves.Message). one.session ≡ there.session → one.number ≡ new → ⊥) w.ups
              (λ one among session is. each_of (λ (one : moves.Message). one.session ≡ client.session → one.number ≡ new → ⊥) w.ups (none_under new more) one among (session ∙ present) is)))
              ∙ ap (λ (c : moves.Client). c.salt ∷ []) s.parts;
        }

    call_gone : StandsThere gone gone_w.ups (Some (change call))
        (record (w.calls id) { state = moves.State.Sent; names = record { session = (w.clients number).present; number = new; first = w.time; known = (w.clients number).learnt } ∷ (w.calls id).names })
    call_gone = record {
      body = there_now.body;
      state = refl;
      names = (new_name, names_keep w.ups (m ∷ w.ups) call.names (w.calls id).names (kept_salts new more m present refl id) there_now.names);
      living = refl;
      asks = there_now.asks;
    }

    calls_gone : (q : ℕ) → StandsThere gone gone_w.ups (slice_get (calls_of gone) q) (gone_w.calls (moves.call_at number q))
    calls_gone q =
        elim (cases_eq q place) [
          | inl is ↦
              rw (eq-eqb number number refl, eq-eqb q place is, get_changed place change (calls_of client) q is, is, found) call_gone
          | inr differs ↦
              rw (eq-eqb number number refl, ne_eqb q place differs, get_unchanged place change (calls_of client) q differs)
              (kept_place new more m present refl gone refl (moves.call_at number q) (slice_get (calls_of client) q) (s.calls q))
        ]

    pub sends_first : Leads number w (λ later. StandsAs later number gone × WasSent later.ups client.session client.salt new (Some call.body))
    sends_first =
        moves_once number w (λ later. StandsAs later number gone × WasSent later.ups client.session client.salt new (Some call.body)) (Send number (First place new ∷ []))
        (is_made w number client s, ((there_now.state ∙ ap state_there queued, is_new new more), tt)) refl (
          record {
            made = s.made;
            parts = s.parts;
            submitted = s.submitted ∙ sym (length_changed place change (calls_of client));
            calls = calls_gone;
            given = (λ is. omega arith, all_given_alike client gone (record { session = refl; last = omega (arith, more) }) w.ups s.given);
            short = record { acks = s.short.acks; resent = s.short.resent };
            asked = all_asked_more m w.ups client gone refl client.temporary s.asked;
          },
          record { up = m; there = here m w.ups; under = present; salted = salt_there; numbered = refl; is = ap (λ (body : List ℕ). Some body) there_now.body },
        )

    -- ---- or never goes

    abbrev stop : Call → Call
    stop = settled (fate.Refused 0)

    abbrev given_up : Client
    given_up = with_call k stop client

    abbrev given_up_w : World
    given_up_w = after w (Own (GiveUp id))

    call_stopped : StandsThere given_up w.ups (Some (stop call)) (record (w.calls id) { state = moves.State.Refused 0 })
    call_stopped = record { body = there_now.body; state = refl; names = there_now.names; living = tt; asks = there_now.asks }

    calls_stopped : (q : ℕ) → StandsThere given_up w.ups (slice_get (calls_of given_up) q) (given_up_w.calls (moves.call_at number q))
    calls_stopped q =
        elim (cases_eq q place) [
          | inl is ↦ rw (eq-eqb number number refl, eq-eqb q place is, get_changed place stop (calls_of client) q is, is, found) call_stopped
          | inr differs ↦
              rw (eq-eqb number number refl, ne_eqb q place differs, get_unchanged place stop (calls_of client) q differs)
              (same_there client given_up (record { session = refl; last = omega arith }) w.ups (slice_get (calls_of client) q) (w.calls (moves.call_at number q)) (s.calls q))
        ]

    pub gives_up : Leads number w (λ later. StandsAs later number given_up)
    gives_up =
        moves_once number w (λ later. StandsAs later number given_up) (Own (GiveUp id)) (there_now.state ∙ ap state_there queued) refl
        (record {
          made = s.made;
          parts = s.parts;
          submitted = s.submitted ∙ sym (length_changed place stop (calls_of client));
          calls = calls_stopped;
          given = all_given_alike client given_up (record { session = refl; last = omega arith }) w.ups s.given;
          short = record { acks = s.short.acks; resent = s.short.resent };
          asked = asked_alike client given_up refl w.ups client.temporary s.asked;
        })
