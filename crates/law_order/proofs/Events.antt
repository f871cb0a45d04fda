-- Each event of a client keeps its calls in turn.
use Rattle.std.proofs.Common.{◌≡◌, ◌==◌, ℕ, ◌-◌, true, cond, Option, Some, None, List, [], ◌∷◌, length, sym, subst, refl, arith, inl, inr}
use Rattle.std.specs.Prelude.{◌%◌, not, is_none, nat_lt}
use Rattle.std.proofs.lemmas.Bool.{and_parts, cases_Bool, cond_both, ltb-true, leb-true}
use Rattle.byteorder.specs.Endian.{little_number}
use Rattle.draws.specs.Draws.{word_after}
use Rattle.call_table.specs.declared.call.CallNo.{CallNo}
use Rattle.call_table.specs.declared.call.Fate.{Fate}
use Rattle.call_table.specs.Table.{Call, State, at}
use Rattle.call_table.specs.Table as table
use Rattle.client_rules.specs.Client.{Client, calls_of, with_call}
use Rattle.client_rules.specs.Asking.{Fault, NoSuchCall, alone_if_sent, attached, begins_service, body_bytes_max, can_drop, drops, dropped, fault_at, has_call, has_earlier, submit_fault, submitted, NotWords, ServiceTag, TooLong}
use Rattle.client_rules.specs.Events.{Attach, AskSalts, Drop, End, Event, Flush, Ping, Renew, Run, Submit, Take, Tick, fate_renewed, renewed, run_of, step, unless_fault}
use Rattle.client_rules.specs.Sending.{Setting}
use Rattle.law_order.proofs.Following.{AreKept, Base, Follows, added-turn, changed-turn, flagged-follows, mapped-turn}
use Rattle.law_order.proofs.Taking.{each-turn, ended-turn, take-turn}
use Rattle.law_order.proofs.Filling.{flush-so}
use Rattle.law_order.proofs.Lists.{none-some, some-same}
use Rattle.law_order.proofs.Places.{get-within}

module _ (base : Base) where
  abbrev KeepsTurn : Client → Type 0
  KeepsTurn client = AreKept base client.key client.session client.counters.last (calls_of client)

  -- ---- a call is submitted

  abbrev IsFault : Option Fault → Type 0
  IsFault found = found ≡ None → ⊥

  refused : (fault : Fault) → IsFault (Some fault)
  refused fault none = none-some fault (sym none)

  earlier-there : (count : ℕ) (body : List ℕ) (after : Option CallNo) → fault_at count body after ≡ None → has_earlier count after ≡ true
  earlier-there count body after is =
      elim (cases_Bool (has_earlier count after)) [
        | inl there ↦ there
        | inr none ↦
            absurd
            (cond_both (nat_lt body_bytes_max (length body)) (Some (TooLong (length body))) _ IsFault (λ is. refused (TooLong (length body)))
            (λ is.
            cond_both (not ((length body % 4) == 0)) (Some (NotWords (length body))) _ IsFault (λ is. refused (NotWords (length body)))
            (λ is.
            cond_both (begins_service body) (Some (ServiceTag (little_number 4 body))) _ IsFault (λ is. refused (ServiceTag (little_number 4 body)))
            (λ is. rw none (refused NoSuchCall))))
            is)
      ]

  call-there : (calls : List Call) (number : CallNo) → has_call (length calls) number ≡ true → (earlier : Call) × (at number calls ≡ Some earlier)
  call-there calls number is =
      let parts = and_parts _ _ is in
      let above = ltb-true 0 number.n parts.0 in
      let within = leb-true number.n (length calls) parts.1 in
      get-within calls (number.n - 1) (omega arith)

  submitted-turn : (body : List ℕ) (after : Option CallNo) (client : Client) → submit_fault body after client ≡ None → KeepsTurn client → KeepsTurn (submitted body after client)
  submitted-turn body after client is turn =
      added-turn base client.key client.session client.counters.last (calls_of client) body after (there after (earlier-there (length (calls_of client)) body after is)) turn where
        there : (after : Option CallNo) → has_earlier (length (calls_of client)) after ≡ true → (number : CallNo) → after ≡ Some number
            → (earlier : Call) × (at number (calls_of client) ≡ Some earlier)
        there None has number is = absurd (none-some number is)
        there (Some one) has number is =
            subst (λ (number : CallNo). (earlier : Call) × (at number (calls_of client) ≡ Some earlier)) (some-same one number is) (call-there (calls_of client) one has)

  unless-turn : (body : List ℕ) (after : Option CallNo) (client : Client) → KeepsTurn client → KeepsTurn (unless_fault body after client)
  unless-turn body after client turn = go (submit_fault body after client) refl where
    go : (found : Option Fault) → submit_fault body after client ≡ found → KeepsTurn (cond (is_none found) (submitted body after client) client)
    go None is = submitted-turn body after client is turn
    go (Some fault) is = turn

  -- ---- other wishes

  attached-turn : (client : Client) → KeepsTurn client → KeepsTurn (attached client)
  attached-turn client turn =
      mapped-turn base client.key client.session client.counters.last client.session client.counters.last alone_if_sent (calls_of client)
      (λ call lives.
      cond_both (Rattle.call_table.specs.Table.is_sent call.state) _ call (Follows (calls_of client) client.session client.counters.last call)
      (λ is. flagged-follows (calls_of client) client.session client.counters.last (record call.flags { alone = true }) call lives)
      (λ is. flagged-follows (calls_of client) client.session client.counters.last call.flags call lives))
      turn

  dropped-turn : (call : CallNo) (client : Client) → KeepsTurn client → KeepsTurn (dropped call client)
  dropped-turn call client turn =
      cond_both (can_drop call client) (with_call call drops client) client KeepsTurn
      (λ is.
      changed-turn base client.key client.session client.counters.last (call.n - 1) drops (calls_of client)
      (λ one there lives. flagged-follows (calls_of client) client.session client.counters.last (record one.flags { dropping = true }) one lives) turn)
      (λ is. turn)

  -- ---- another session

  renewed-open : (state : State) (fate : Fate) → fate_renewed state ≡ Some fate → (result : List ℕ) → state ≡ table.Done result → ⊥
  renewed-open table.Sent fate is result done = cc
  renewed-open table.Held fate is result done = cc
  renewed-open table.Queued fate is result done = none-some fate is
  renewed-open (table.Done reply) fate is result done = none-some fate is
  renewed-open (table.Refused code) fate is result done = none-some fate is
  renewed-open (table.Unknown cause) fate is result done = none-some fate is

  renewed-gone : (state : State) → fate_renewed state ≡ None → state ≡ table.Sent → ⊥
  renewed-gone table.Sent none sent = none-some _ (sym none)
  renewed-gone table.Held none sent = cc
  renewed-gone table.Queued none sent = cc
  renewed-gone (table.Done reply) none sent = cc
  renewed-gone (table.Refused code) none sent = cc
  renewed-gone (table.Unknown cause) none sent = cc

  renewed-turn : (session : ℕ) (client : Client) → KeepsTurn client → KeepsTurn (renewed session client)
  renewed-turn session client turn =
      each-turn base client.key client.session client.counters.last session 0 (λ call. fate_renewed call.state) (calls_of client) (λ call fate is. renewed-open call.state fate is)
      (λ call lives none sent. absurd (renewed-gone call.state none sent)) turn

  -- ---- all events

  pub step-turn : {S : Type 0} (setting : Setting S) (run : Run S) (event : Event) → KeepsTurn run.client → KeepsTurn (step setting run event).client
  step-turn setting run (Submit body after) turn = unless-turn body after run.client turn
  step-turn setting run Attach turn = attached-turn run.client turn
  step-turn setting run Tick turn = turn
  step-turn setting run (Ping id) turn = turn
  step-turn setting run (AskSalts count) turn = turn
  step-turn setting run (Drop call) turn = dropped-turn call run.client turn
  step-turn setting run (Flush now) turn = (flush-so base ⊥ setting now run.client run.draw (λ none. absurd none) turn).0
  step-turn setting run (Take now None) turn = turn
  step-turn setting run (Take now (Some envelope)) turn = take-turn base now envelope run.client turn
  step-turn setting run Renew turn = renewed-turn (word_after setting.step 0 run.draw) run.client turn
  step-turn setting run End turn = ended-turn base run.client turn

  pub all-turn : {S : Type 0} (setting : Setting S) (events : List Event) (run : Run S) → KeepsTurn run.client → KeepsTurn (run_of setting run events).client
  all-turn setting [] run turn = turn
  all-turn setting (event ∷ events) run turn = all-turn setting events (step setting run event) (step-turn setting run event turn)
