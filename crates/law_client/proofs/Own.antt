-- What a client does by itself.
use Rattle.std.proofs.Common.{◌≡◌, ◌≢◌, ℕ, ◌%◌, ◌==◌, not, Bool, true, false, List, [], ◌∷◌, ◌++◌, length, length-append, reverse, Option, None, Some, if◌then◌else◌, inl, inr, refl, sym, ap, subst, ◌∙◌, arith, eq-eqb, ne_eqb}
use Rattle.std.specs.Prelude.{slice_get, option_map, IfSome, nat_le, nat_lt}
use Rattle.std.proofs.lemmas.List.{length-map, reverse-append}
use Rattle.law_moves.specs.Table as moves
use Rattle.law_moves.specs.World.{World, no_call}
use Rattle.law_moves.specs.Move.Move.{Own}
use Rattle.law_moves.specs.Move.OwnAct.{NewClient, Renew, Submit, End}
use Rattle.law_moves.specs.After.{after, state_renewed, state_ended}
use Rattle.law_moves.specs.Lawful.{IsLawful, IsNewSession}
use Rattle.law_moves.specs.Reached.{Reached}
use Rattle.call_table.specs.declared.call.CallNo.{CallNo}
use Rattle.call_table.specs.declared.call.Fate.{Fate}
use Rattle.call_table.specs.Table.{Call, Name, State, calls_max, new_call}
use Rattle.call_table.specs.Table as table
use Rattle.client_rules.specs.Client.{Client, Needed, Temporary, bound_so, calls_of, fresh_client, temporary_of}
use Rattle.client_rules.specs.Asking.{Fault, TooLong, NotWords, NoSuchCall, TooMany, begins_service, body_bytes_max, has_earlier, submit_fault, submitted}
use Rattle.client_rules.specs.Learning.{ended, settled_if, fate_at_end}
use Rattle.client_rules.specs.Events.{renewed, fate_renewed}
use Rattle.law_client.specs.Clients.{IsNobody, LivesIn, StandsAs, AreNamesThere, IsCallThere, StandsThere, IsAskedThere, state_there}
use Rattle.law_client.proofs.Basics.{Alike, Apart, get_map, get_past, get_pushed, all_given_alike, none_given}
use Rattle.law_client.proofs.Quiet.{asked_alike}

-- ---- it joins

pub joins : Apart → (w : World) (number key session : ℕ) → Reached w → IsNobody w number → IsNewSession w session
    → StandsAs (after w (Own (NewClient number session))) number (fresh_client key None session)
joins apart w number key session reached nobody new = record {
  made = new.0;
  parts = rw (eq-eqb number number refl) refl;
  submitted = nobody.submitted;
  calls = nobody.calls;
  given = none_given apart w session 0 reached new;
  short = record { acks = omega arith; resent = omega arith };
  asked = tt;
}

pub joins_so : Apart → (w : World) (number key session perm expires : ℕ) → Reached w → IsNobody w number → IsNewSession w session
    → StandsAs (after w (Own (NewClient number session))) number (fresh_client key (Some (temporary_of perm expires)) session)
joins_so apart w number key session perm expires reached nobody new = record {
  made = new.0;
  parts = rw (eq-eqb number number refl) refl;
  submitted = nobody.submitted;
  calls = nobody.calls;
  given = none_given apart w session 0 reached new;
  short = record { acks = omega arith; resent = omega arith };
  asked = tt;
}

pub joins_lawfully : (w : World) (number session : ℕ) → IsNobody w number → IsNewSession w session → IsLawful w (Own (NewClient number session))
joins_lawfully w number session nobody new = (ap (λ (c : moves.Client). c.present) nobody.parts, new)

-- ---- it is made

pub is_made : (w : World) (number : ℕ) (client : Client) → StandsAs w number client → (w.clients number).present ≢ 0
is_made w number client s = λ none. s.made (sym (ap (λ (c : moves.Client). c.present) s.parts) ∙ none)

-- ---- a call is submitted

module _ (w : World) (number : ℕ) (client : Client) (body : List ℕ) (earlier : Option CallNo) (plain : begins_service body ≡ false) (s : StandsAs w number client) where
  abbrev later : Client
  later = submitted body earlier client

  abbrev w' : World
  w' = after w (Own (Submit number body))

  alike : Alike client later
  alike = record { session = refl; last = omega arith }

  old_call : (call : Call) (there : moves.Call) → IsCallThere client w.ups call there → IsCallThere later w.ups call there
  old_call call there h = record {
    body = h.body;
    state = h.state;
    names = h.names;
    living = h.living;
    asks = h.asks;
  }

  old_place : (found : Option Call) (there : moves.Call) → StandsThere client w.ups found there → StandsThere later w.ups found there
  old_place None there h = h
  old_place (Some call) there h = old_call call there h

  pub calls_submitted : (place : ℕ) → StandsThere later w'.ups (slice_get (calls_of later) place) (w'.calls (moves.call_at number place))
  calls_submitted place =
      elim (get_pushed (calls_of client) (new_call body earlier) place) [
        | inl last ↦
            let is : place ≡ w.submitted number = last.0 ∙ sym s.submitted in
            let nothing : w.calls (moves.call_at number place) ≡ no_call =
            subst (λ (found : Option Call). StandsThere client w.ups found (w.calls (moves.call_at number place)))
            (get_past (calls_of client) place (omega (arith, last.0))) (s.calls place) in
            rw (last.1, eq-eqb number number refl, eq-eqb place (w.submitted number) is, nothing)
            (record { body = refl; state = refl; names = tt; living = tt; asks = plain })
        | inr other ↦
            let differs : place ≢ w.submitted number = λ is. other.0 (is ∙ s.submitted) in
            rw (other.1, eq-eqb number number refl, ne_eqb place (w.submitted number) differs)
            (old_place (slice_get (calls_of client) place) (w.calls (moves.call_at number place)) (s.calls place))
      ]

  stands_submitted : StandsAs w' number later
  stands_submitted = record {
    made = s.made;
    parts = s.parts;
    submitted = rw (eq-eqb number number refl) (omega (arith, s.submitted, length-append (calls_of client) (new_call body earlier ∷ [])));
    calls = calls_submitted;
    given = all_given_alike client later alike w.ups s.given;
    short = record { acks = s.short.acks; resent = s.short.resent };
    asked = s.asked;
  }

unfaulty : (long odd service missing many : Bool) (a b c : Fault) → (if long then Some a else if odd then Some b else if service then Some c else if missing then Some NoSuchCall else if many then Some TooMany else None) ≡ None
    → service ≡ false
unfaulty true odd service missing many a b c is = absurd (cc)
unfaulty false true service missing many a b c is = absurd (cc)
unfaulty false false true missing many a b c is = absurd (cc)
unfaulty false false false missing many a b c is = refl

pub submits : (w : World) (number : ℕ) (client : Client) (body : List ℕ) (earlier : Option CallNo) → submit_fault body earlier client ≡ None → StandsAs w number client
    → StandsAs (after w (Own (Submit number body))) number (submitted body earlier client)
submits w number client body earlier unrefused s =
    stands_submitted w number client body earlier
    (unfaulty (nat_lt body_bytes_max (length body)) (not (length body % 4 == 0)) (begins_service body) (not (has_earlier (length (calls_of client)) earlier))
    (nat_le calls_max (length (calls_of client))) (TooLong (length body)) (NotWords (length body)) _ unrefused) s

-- ---- it goes on in another session

renewed_state : (state : State) (call : Call) → call.state ≡ state
    → state_there (settled_if (fate_renewed state) call).state ≡ state_renewed (state_there state)
renewed_state table.Queued call is = ap (λ (s : State). state_there s) is
renewed_state table.Sent call is = refl
renewed_state table.Held call is = refl
renewed_state (table.Done reply) call is = ap (λ (s : State). state_there s) is
renewed_state (table.Refused code) call is = ap (λ (s : State). state_there s) is
renewed_state (table.Unknown cause) call is = ap (λ (s : State). state_there s) is

-- a call that isn't sent has no living name
unsent : (session : ℕ) (state : State) (names : List Name) → (state ≡ table.Sent → ⊥) → LivesIn session state names
unsent session table.Queued names not = tt
unsent session table.Sent names not = absurd (not refl)
unsent session table.Held names not = tt
unsent session (table.Done reply) names not = tt
unsent session (table.Refused code) names not = tt
unsent session (table.Unknown cause) names not = tt

renewed_unsent : (state : State) (call : Call) → call.state ≡ state → (settled_if (fate_renewed state) call).state ≡ table.Sent → ⊥
renewed_unsent table.Queued call is sent = let e : table.Queued ≡ table.Sent = sym is ∙ sent in absurd (cc)
renewed_unsent table.Sent call is sent = absurd (cc)
renewed_unsent table.Held call is sent = absurd (cc)
renewed_unsent (table.Done reply) call is sent = let e : table.Done reply ≡ table.Sent = sym is ∙ sent in absurd (cc)
renewed_unsent (table.Refused code) call is sent = let e : table.Refused code ≡ table.Sent = sym is ∙ sent in absurd (cc)
renewed_unsent (table.Unknown cause) call is sent = let e : table.Unknown cause ≡ table.Sent = sym is ∙ sent in absurd (cc)

settled_names : (fate : Option Fate) (call : Call) → (settled_if fate call).names ≡ call.names
settled_names None call = refl
settled_names (Some fate) call = refl

settled_body : (fate : Option Fate) (call : Call) → (settled_if fate call).body ≡ call.body
settled_body None call = refl
settled_body (Some fate) call = refl

module _ (apart : Apart) (w : World) (number session : ℕ) (client : Client) (reached : Reached w) (s : StandsAs w number client) (new : IsNewSession w session) where
  abbrev behind : Client
  behind = renewed session client

  abbrev renewed_w : World
  renewed_w = after w (Own (Renew number session))

  former_there : reverse (client.former ++ client.session ∷ []) ≡ client.session ∷ reverse client.former
  former_there = reverse-append client.former (client.session ∷ [])

  call_renewed : (call : Call) (there : moves.Call) → IsCallThere client w.ups call there
      → IsCallThere behind w.ups (settled_if (fate_renewed call.state) call) (record there { state = state_renewed there.state })
  call_renewed call there h = record {
    body = h.body ∙ sym (settled_body (fate_renewed call.state) call);
    state = ap state_renewed h.state ∙ sym (renewed_state call.state call refl);
    names = subst (λ (names : List Name). AreNamesThere w.ups names there.names) (sym (settled_names (fate_renewed call.state) call))
        h.names;
    living = unsent session (settled_if (fate_renewed call.state) call).state (settled_if (fate_renewed call.state) call).names
        (renewed_unsent call.state call refl);
    asks = subst (λ (body : List ℕ). begins_service body ≡ false) (sym (settled_body (fate_renewed call.state) call)) h.asks;
  }

  place_renewed : (found : Option Call) (there : moves.Call) → StandsThere client w.ups found there
      → StandsThere behind w.ups (option_map (λ (call : Call). settled_if (fate_renewed call.state) call) found) (record there { state = state_renewed there.state })
  place_renewed None there h = rw h refl
  place_renewed (Some call) there h = call_renewed call there h

  calls_renewed : (place : ℕ) → StandsThere behind renewed_w.ups (slice_get (calls_of behind) place) (renewed_w.calls (moves.call_at number place))
  calls_renewed place =
      rw (eq-eqb number number refl, get_map (λ (call : Call). settled_if (fate_renewed call.state) call) (calls_of client) place)
      (place_renewed (slice_get (calls_of client) place) (w.calls (moves.call_at number place)) (s.calls place))

  needed_now : (temporary : Option Temporary) → IfSome (option_map (bound_so Needed) temporary) (λ (t : Temporary). IsAskedThere w.ups behind t.binding)
  needed_now None = tt
  needed_now (Some temporary) = tt

  stands_renewed : StandsAs renewed_w number behind
  stands_renewed = record {
    made = new.0;
    parts = rw (eq-eqb number number refl, former_there, s.parts) refl;
    submitted = s.submitted ∙ sym (length-map (calls_of client) (λ (call : Call). settled_if (fate_renewed call.state) call));
    calls = calls_renewed;
    given = none_given apart w session 0 reached new;
    short = record { acks = omega arith; resent = omega arith };
    asked = needed_now client.temporary;
  }

pub renews : Apart → (w : World) (number session : ℕ) (client : Client) → Reached w → StandsAs w number client → IsNewSession w session
    → StandsAs (after w (Own (Renew number session))) number (renewed session client)
renews apart w number session client reached s new = stands_renewed apart w number session client reached s new

-- ---- it ends

ended_state : (state : State) (call : Call) → call.state ≡ state
    → state_there (settled_if (fate_at_end state) call).state ≡ state_ended (state_there state)
ended_state table.Queued call is = refl
ended_state table.Sent call is = refl
ended_state table.Held call is = refl
ended_state (table.Done reply) call is = ap (λ (s : State). state_there s) is
ended_state (table.Refused code) call is = ap (λ (s : State). state_there s) is
ended_state (table.Unknown cause) call is = ap (λ (s : State). state_there s) is

ended_unsent : (state : State) (call : Call) → call.state ≡ state → (settled_if (fate_at_end state) call).state ≡ table.Sent → ⊥
ended_unsent table.Queued call is sent = absurd (cc)
ended_unsent table.Sent call is sent = absurd (cc)
ended_unsent table.Held call is sent = absurd (cc)
ended_unsent (table.Done reply) call is sent = let e : table.Done reply ≡ table.Sent = sym is ∙ sent in absurd (cc)
ended_unsent (table.Refused code) call is sent = let e : table.Refused code ≡ table.Sent = sym is ∙ sent in absurd (cc)
ended_unsent (table.Unknown cause) call is sent = let e : table.Unknown cause ≡ table.Sent = sym is ∙ sent in absurd (cc)

module _ (w : World) (number : ℕ) (client : Client) (s : StandsAs w number client) where
  abbrev over : Client
  over = ended client

  abbrev ended_w : World
  ended_w = after w (Own (End number))

  alike_over : Alike client over
  alike_over = record { session = refl; last = omega arith }

  call_ended : (call : Call) (there : moves.Call) → IsCallThere client w.ups call there
      → IsCallThere over w.ups (settled_if (fate_at_end call.state) call) (record there { state = state_ended there.state })
  call_ended call there h = record {
    body = h.body ∙ sym (settled_body (fate_at_end call.state) call);
    state = ap state_ended h.state ∙ sym (ended_state call.state call refl);
    names = subst (λ (names : List Name). AreNamesThere w.ups names there.names) (sym (settled_names (fate_at_end call.state) call))
        h.names;
    living = unsent over.session (settled_if (fate_at_end call.state) call).state (settled_if (fate_at_end call.state) call).names
        (ended_unsent call.state call refl);
    asks = subst (λ (body : List ℕ). begins_service body ≡ false) (sym (settled_body (fate_at_end call.state) call)) h.asks;
  }

  place_ended : (found : Option Call) (there : moves.Call) → StandsThere client w.ups found there
      → StandsThere over w.ups (option_map (λ (call : Call). settled_if (fate_at_end call.state) call) found) (record there { state = state_ended there.state })
  place_ended None there h = rw h refl
  place_ended (Some call) there h = call_ended call there h

  stands_ended : StandsAs ended_w number over
  stands_ended = record {
    made = s.made;
    parts = rw (eq-eqb number number refl, s.parts) refl;
    submitted = s.submitted ∙ sym (length-map (calls_of client) (λ (call : Call). settled_if (fate_at_end call.state) call));
    calls = λ place.
        rw (eq-eqb number number refl, get_map (λ (call : Call). settled_if (fate_at_end call.state) call) (calls_of client) place)
        (place_ended (slice_get (calls_of client) place) (w.calls (moves.call_at number place)) (s.calls place));
    given = all_given_alike client over alike_over w.ups s.given;
    short = record { acks = s.short.acks; resent = s.short.resent };
    asked = asked_alike client over refl w.ups client.temporary s.asked;
  }

pub ends : (w : World) (number : ℕ) (client : Client) → StandsAs w number client → StandsAs (after w (Own (End number))) number (ended client)
ends w number client s = stands_ended w number client s
