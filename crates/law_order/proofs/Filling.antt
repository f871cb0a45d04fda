-- A flush keeps a client's calls in turn.
use Rattle.std.proofs.Common.{◌≡◌, ◌≢◌, ◌∙◌, ℕ, suc, ◌+◌, ◌-◌, ◌<◌, ◌≤◌, Bool, true, false, Option, Some, None, List, [], ◌∷◌, ◌++◌, length, map, ap, sym, subst, refl, arith, inl, inr}
use Rattle.std.specs.Prelude.{◌&&◌, ◌⊎◌, ⊤, IfSome, filter_map, fold, is_some, nat_lt, option_map, slice_get}
use Rattle.std.specs.List.{AllByRecursion}
use Rattle.std.proofs.lemmas.Bool.{cases_Bool, cases_eq, cond_both}
use Rattle.msg_ids.specs.Counters.{next_number, room}
use Rattle.std.proofs.lemmas.List.{length-take}
use Rattle.draws.specs.Draws.{draw_after, next_bytes}
use Rattle.service_tl.specs.declared.item.Item.{Item}
use Rattle.service_tl.specs.declared.item.Item.TheVariants.{DestroySession, GetFutureSalts, MsgResendReq, MsgsAck, MsgsStateInfo, MsgsStateReq, Ping, RpcDropAnswer, AuthBindTempAuthKey}
use Rattle.service_tl.specs.declared.lists.Message.{Message}
use Rattle.service_tl.specs.Items.{spelling_of}
use Rattle.packing.specs.Packing.{is_within}
use Rattle.call_table.specs.declared.call.CallNo.{CallNo}
use Rattle.call_table.specs.declared.call.Fate.TheVariants as fate
use Rattle.call_table.specs.declared.call.Group.TheVariants as group
use Rattle.call_table.specs.declared.call.Living.{Living}
use Rattle.call_table.specs.Table.{Call, Name, State, at, call_no, changed_at, flagged, group_of, is_in, is_queued, living_name, living_name_in, owner, places_from, sent, settled}
use Rattle.call_table.specs.Table as table
use Rattle.client_rules.specs.Client.{Asked, Bound, Client, Binding, Held, Needed, Refused, States, Temporary, after_message, at_moment, calls_of, is_open, numbered, with_call, time_of}
use Rattle.client_rules.specs.Sending.{Setting, binding_body, inner_of, packet_of}
use Rattle.client_rules.specs.Filling.{Filling, Goes, Never, Turn, Waits, asks_binding, asks_states, body_behind, changes, empty, fills, goes, inserted, is_needed, living_number, number_of, numbers_max, outstanding, says, says_acks, says_binding, says_call, says_call_at, says_destroyed, says_drop, says_drop_of, says_ping, says_resent, says_salts, says_states, says_told, sends_call, takes_turn, turn_after, turn_behind, turn_by, turn_of, turn_under, turn_with, undropped}
use Rattle.service_tl.specs.Results.{is_good}
use Rattle.client_rules.specs.Flush.{Marked, Flushed, asked_alone, binding_alone, filled, first_marked, flush, gone_again, has_any, marked_at, message_behind, remembers, remembers_lone, room_min, sends, unless_binding, unless_call}
use Rattle.law_order.specs.Behind.{Last, LivesIn, WentBehind}
use Rattle.law_order.specs.Going.{IsAnswerFrom, IsAskedBy, IsFrom, IsOfCall, IsPacketFrom, IsReady}
use Rattle.law_client.specs.Clients.{IsShort}
use Rattle.law_client.specs.Sent.{Asks, IsBindingCall, IsSaidAside}
use Rattle.tl_codec.specs.Standard.{longs_max}
use Rattle.law_order.proofs.Following.{AreKept, Base, again-follows, changed-last, changed-turn, flagged-follows, nothing-last, queued-open, raised, raised-lives, sent-follows, settled-follows}
use Rattle.law_order.proofs.Lists.{all-append, all-weaker, here, none-some, some-same, true-false}
use Rattle.law_order.proofs.Places.{all-at, get_changed, get_unchanged}

module _ (base : Base) (Q : Type 0) where
  abbrev KeepsTurn : Client → Type 0
  KeepsTurn client = AreKept base client.key client.session client.counters.last (calls_of client)

  -- ---- calls that are queued

  pub record QueuedAt (calls : List Call) (k : CallNo) : Type 0 where
    pub call : Call
    pub found : at k calls ≡ Some call
    pub queued : call.state ≡ table.Queued

  abbrev AreQueued : List Call → List CallNo → Type 0
  AreQueued calls ks = AllByRecursion (QueuedAt calls) ks

  abbrev AreApart : List CallNo → Type 0
  AreApart [] = ⊤
  AreApart (k ∷ ks) = AllByRecursion (λ (j : CallNo). j.n - 1 ≢ k.n - 1) ks × AreApart ks

  still-queued : (calls changed : List Call) (ks : List CallNo) → ((k : CallNo) → QueuedAt calls k → QueuedAt changed k) → AreQueued calls ks → AreQueued changed ks
  still-queued calls changed [] keep are = tt
  still-queued calls changed (k ∷ ks) keep are = (keep k are.0, still-queued calls changed ks keep are.1)

  -- a change that leaves states
  state-queued : (calls : List Call) (place : ℕ) (change : Call → Call) → ((call : Call) → (change call).state ≡ call.state) → (k : CallNo) → QueuedAt calls k
      → QueuedAt (changed_at place change calls) k
  state-queued calls place change only k is =
      elim (cases_eq (k.n - 1) place) [
        | inl same ↦ record {
          call = change is.call;
          found = get_changed place change calls (k.n - 1) same ∙ ap (λ (found : Option Call). option_map change found) is.found;
          queued = only is.call ∙ is.queued;
        }
        | inr differs ↦ record { call = is.call; found = get_unchanged place change calls (k.n - 1) differs ∙ is.found; queued = is.queued }
      ]

  -- a change of another call
  other-queued : (calls : List Call) (k : CallNo) (change : Call → Call) (ks : List CallNo) → AllByRecursion (λ (j : CallNo). j.n - 1 ≢ k.n - 1) ks
      → AreQueued calls ks → AreQueued (changed_at (k.n - 1) change calls) ks
  other-queued calls k change [] differs are = tt
  other-queued calls k change (j ∷ ks) differs are = (
    record { call = are.0.call; found = get_unchanged (k.n - 1) change calls (j.n - 1) differs.0 ∙ are.0.found; queued = are.0.queued },
    other-queued calls k change ks differs.1 are.1,
  )

  above-all : (k : ℕ) (test : Call → Bool) (place : ℕ) (xs : List Call) → k < place → AllByRecursion (λ (j : CallNo). j.n - 1 ≢ k) (map call_no (places_from test place xs))
  above-all k test place [] below = tt
  above-all k test place (x ∷ xs) below =
      elim (cases_Bool (test x)) [
        | inl is ↦ rw is (λ same. omega (arith, same, below), above-all k test (place + 1) xs (omega arith))
        | inr not ↦ rw not (above-all k test (place + 1) xs (omega arith))
      ]

  group-apart : (test : Call → Bool) (place : ℕ) (xs : List Call) → AreApart (map call_no (places_from test place xs))
  group-apart test place [] = tt
  group-apart test place (x ∷ xs) =
      elim (cases_Bool (test x)) [
        | inl is ↦
            let here_ : place ≡ (call_no place).n - 1 = omega arith in
            rw is (
              subst (λ (n : ℕ). AllByRecursion (λ (c : CallNo). c.n - 1 ≢ n) (map call_no (places_from test (place + 1) xs))) here_
                  (above-all place test (place + 1) xs (omega arith)),
              group-apart test (place + 1) xs,
            )
        | inr not ↦ rw not (group-apart test (place + 1) xs)
      ]

  queued-so : (state : State) → is_queued state ≡ true → state ≡ table.Queued
  queued-so table.Queued is = refl
  queued-so table.Sent is = absurd (true-false (sym is))
  queued-so table.Held is = absurd (true-false (sym is))
  queued-so (table.Done reply) is = absurd (true-false (sym is))
  queued-so (table.Refused code) is = absurd (true-false (sym is))
  queued-so (table.Unknown cause) is = absurd (true-false (sym is))

  group-queued : (all : List Call) (place : ℕ) (xs : List Call) → ((i : ℕ) → slice_get xs i ≡ slice_get all (place + i))
      → AreQueued all (map call_no (places_from (is_in group.Queued) place xs))
  group-queued all place [] at_all = tt
  group-queued all place (x ∷ xs) at_all =
      let rest : (i : ℕ) → slice_get xs i ≡ slice_get all (place + 1 + i) =
      λ i. at_all (suc i) ∙ ap (λ (n : ℕ). slice_get all n) (omega arith) in
      elim (cases_Bool (is_in group.Queued x)) [
        | inl is ↦
            rw is (
              record {
                call = x;
                found = ap (λ (n : ℕ). slice_get all n) (omega arith) ∙ sym (at_all 0);
                queued = queued-so x.state is;
              },
              group-queued all (place + 1) xs rest,
            )
        | inr not ↦ rw not (group-queued all (place + 1) xs rest)
      ]

  -- ---- messages so far

  above : (last now : ℕ) → last < next_number last now
  above last now = omega arith

  pub from-last : (session number : ℕ) (body : List ℕ) (calls news : List Call) → Last calls news → IsFrom session calls number body → IsFrom session news number body
  from-last session number body calls news lasts (inr none) = inr none
  from-last session number body calls news lasts (inl of_call) =
      let later = lasts of_call.place of_call.call of_call.there in
      let has = later.2.names of_call.name of_call.among in
      inl
      (record {
        place = of_call.place;
        call = later.0;
        name = has.name;
        there = later.1;
        among = has.among;
        of_session = has.of_session ∙ of_call.of_session;
        of_number = ap (λ (message : Living). message.number) has.same ∙ of_call.of_number;
        goes =
            of_call.goes
            ∙ (ap (λ (wrap : Option ℕ). body_behind wrap of_call.call.body) (ap (λ (message : Living). message.wrap) (sym has.same))
            ∙ ap (body_behind has.name.message.wrap) (sym later.2.body));
      })

  abbrev AreFrom : ℕ → List Call → List Message → Type 0
  AreFrom session calls messages = AllByRecursion (λ (message : Message). IsFrom session calls message.number message.body) messages

  pub all-from : (session : ℕ) (calls news : List Call) (messages : List Message) → Last calls news → AreFrom session calls messages → AreFrom session news messages
  all-from session calls news messages lasts are =
      all-weaker (λ (message : Message). IsFrom session calls message.number message.body) (λ (message : Message). IsFrom session news message.number message.body) messages
      (λ message. from-last session message.number message.body calls news lasts) are

  abbrev AreWithin : ℕ → List Message → Type 0
  AreWithin last messages = AllByRecursion (λ (message : Message). message.number ≤ last) messages

  more-within : (last more : ℕ) (messages : List Message) → last ≤ more → AreWithin last messages → AreWithin more messages
  more-within last more messages less are =
      all-weaker (λ (message : Message). message.number ≤ last) (λ (message : Message). message.number ≤ more) messages (λ message within. omega (arith, less, within)) are

  -- So far the calls are in turn, and these are still queued; where it is asked of them, the messages are of calls, or none, under numbers that were given
  pub record Holds (ks : List CallNo) (client : Client) (messages : List Message) : Type 0 where
    pub turn : KeepsTurn client
    pub queued : AreQueued (calls_of client) ks
    pub from : Q → AreFrom client.session (calls_of client) messages
    pub within : AreWithin client.counters.last messages

  -- ---- the items of a packet

  goes-so : {S : Type 0} (P : Client → List Message → Type 0) (message : Message) (leaves : Filling S → Filling S) (filling : Filling S) → P filling.client filling.messages
      → P (leaves (record filling { messages = filling.messages ++ message ∷ [] })).client (leaves (record filling { messages = filling.messages ++ message ∷ [] })).messages
      → P (goes message leaves filling).client (goes message leaves filling).messages
  goes-so {S} P message leaves filling before after =
      cond_both filling.is_full filling _ (λ (filling : Filling S). P filling.client filling.messages) (λ is. before)
      (λ is.
      cond_both (is_within (filling.messages ++ message ∷ [])) _ _ (λ (filling : Filling S). P filling.client filling.messages) (λ is. after) (λ is. before))

  -- a message more that asks nothing
  said-so : (ks : List CallNo) (is_content : Bool) (body : List ℕ) (client : Client) (messages : List Message) → (Q → Asks body None) → Holds ks client messages
      → Holds ks (after_message is_content client) (messages ++ numbered is_content body client ∷ [])
  said-so ks is_content body client messages asks holds =
      let calls = calls_of client in
      let last = client.counters.last in
      let new = next_number last (time_of client) in
      let more = above last (time_of client) in
      let less : last ≤ new = omega (arith, more) in
      let message : Message = numbered is_content body client in
      record {
        turn = raised base client.key client.session last new calls less holds.turn;
        queued = holds.queued;
        from = λ q. all-append (λ (message : Message). IsFrom client.session calls message.number message.body) messages (message ∷ []) (holds.from q) (inr (asks q), tt);
        within = all-append (λ (message : Message). message.number ≤ new) messages (message ∷ []) (more-within last new messages less holds.within) (omega arith, tt);
      }

  -- an item that leaves session and calls
  says-so : {S : Type 0} (ks : List CallNo) (is_content : Bool) (item : Item) (change : Client → Client) (filling : Filling S) → (Q → IsSaidAside item)
      → ((client : Client) (messages : List Message) → Holds ks client messages → Holds ks (change client) messages) → Holds ks filling.client filling.messages
      → Holds ks (says is_content item change filling).client (says is_content item change filling).messages
  says-so ks is_content item change filling aside so holds =
      goes-so (Holds ks) (numbered is_content (spelling_of item) filling.client) (changes (λ client. change (after_message is_content client))) filling holds
      (so (after_message is_content filling.client) _ (said-so ks is_content (spelling_of item) filling.client filling.messages (λ q. (item, refl, aside q)) holds))

  few-outstanding : (client : Client) → length (outstanding client) ≤ longs_max
  few-outstanding client =
      let all : List ℕ = fold inserted [] (filter_map living_number (calls_of client)) in
      let is = length-take numbers_max all in omega (arith, is)

  binding-call : {S : Type 0} (setting : Setting S) (client : Client) (temporary : Temporary) (number : ℕ) (draw : S) → IsBindingCall (binding_body setting client temporary number draw)
  binding-call setting client temporary number draw =
      let inner = inner_of setting client temporary draw in
      let random = next_bytes setting.step 16 (draw_after setting.step 1 draw) in
      let padding = next_bytes setting.step 8 (draw_after setting.step 3 draw) in
      (inner.perm, inner.nonce, inner.expires, setting.binding_message inner.perm random number inner padding, refl)

  asks-binding : (body : List ℕ) → IsBindingCall body → Asks body None
  asks-binding body (perm, nonce, expires, message, is) = (AuthBindTempAuthKey perm nonce expires message, is, tt)

  module _ {S : Type 0} (ks : List CallNo) where
    abbrev HoldsIn : Filling S → Type 0
    HoldsIn filling = Holds ks filling.client filling.messages

    acks-so : (acks : List ℕ) (filling : Filling S) → (Q → length acks ≤ longs_max) → HoldsIn filling → HoldsIn (says_acks acks filling)
    acks-so [] filling short holds = holds
    acks-so (ack ∷ acks) filling short holds =
        says-so ks false (MsgsAck (ack ∷ acks)) (λ client. record client { table = record client.table { acks = [] } }) filling short
        (λ client messages holds. record { turn = holds.turn; queued = holds.queued; from = holds.from; within = holds.within }) holds

    told-so : (told : Option States) (filling : Filling S) → HoldsIn filling → HoldsIn (says_told told filling)
    told-so None filling holds = holds
    told-so (Some states) filling holds =
        says-so ks false (MsgsStateInfo states.request states.info) (λ client. record client { waiting = record client.waiting { told = None } }) filling (λ q. tt)
        (λ client messages holds. record { turn = holds.turn; queued = holds.queued; from = holds.from; within = holds.within }) holds

    resent-so : (numbers : List ℕ) (filling : Filling S) → (Q → length numbers ≤ longs_max) → HoldsIn filling → HoldsIn (says_resent numbers filling)
    resent-so [] filling short holds = holds
    resent-so (number ∷ numbers) filling short holds =
        says-so ks false (MsgResendReq (number ∷ numbers)) (λ client. record client { waiting = record client.waiting { resent = [] } }) filling short
        (λ client messages holds. record { turn = holds.turn; queued = holds.queued; from = holds.from; within = holds.within }) holds

    states-so : (is : Bool) (filling : Filling S) → HoldsIn filling → HoldsIn (says_states is filling)
    states-so false filling holds = holds
    states-so true filling holds =
        says-so ks false (MsgsStateReq (outstanding filling.client)) (asks_states (outstanding filling.client)) filling (λ q. few-outstanding filling.client)
        (λ client messages holds. record { turn = holds.turn; queued = holds.queued; from = holds.from; within = holds.within }) holds

    ping-so : (ping : Option ℕ) (filling : Filling S) → HoldsIn filling → HoldsIn (says_ping ping filling)
    ping-so None filling holds = holds
    ping-so (Some id) filling holds =
        says-so ks false (Ping id) (λ client. record client { waiting = record client.waiting { ping = None } }) filling (λ q. tt)
        (λ client messages holds. record { turn = holds.turn; queued = holds.queued; from = holds.from; within = holds.within }) holds

    salts-so : (salts : Option ℕ) (filling : Filling S) → HoldsIn filling → HoldsIn (says_salts salts filling)
    salts-so None filling holds = holds
    salts-so (Some count) filling holds =
        says-so ks true (GetFutureSalts count) (λ client. record client { waiting = record client.waiting { salts = None } }) filling (λ q. tt)
        (λ client messages holds. record { turn = holds.turn; queued = holds.queued; from = holds.from; within = holds.within }) holds

    destroyed-so : (destroyed : Option ℕ) (filling : Filling S) → HoldsIn filling → HoldsIn (says_destroyed destroyed filling)
    destroyed-so None filling holds = holds
    destroyed-so (Some session) filling holds =
        cond_both (is_open filling.client) _ filling HoldsIn
        (λ is.
        says-so ks true (DestroySession session) (λ client. record client { waiting = record client.waiting { destroyed = None } }) filling (λ q. tt)
        (λ client messages holds. record { turn = holds.turn; queued = holds.queued; from = holds.from; within = holds.within }) holds)
        (λ is. holds)

    binding-so : (setting : Setting S) (temporary : Option Temporary) (filling : Filling S) → HoldsIn filling → HoldsIn (says_binding setting temporary filling)
    binding-so setting None filling holds = holds
    binding-so setting (Some temporary) filling holds =
        let unsaid : Message = numbered true [] filling.client in
        let body = binding_body setting filling.client temporary unsaid.number filling.draw in
        let message : Message = record unsaid { body = body } in
        cond_both (is_needed temporary.binding && is_open filling.client) _ filling HoldsIn
        (λ is.
        let said = said-so ks true body filling.client filling.messages (λ q. asks-binding body (binding-call setting filling.client temporary unsaid.number filling.draw)) holds in
        goes-so (Holds ks) message (asks_binding setting message) filling holds (record { turn = said.turn; queued = said.queued; from = said.from; within = said.within }))
        (λ is. holds)

    drop_of-so : (k : CallNo) (number : Option ℕ) (filling : Filling S) → HoldsIn filling → HoldsIn (says_drop_of k number filling)
    drop_of-so k None filling holds = holds
    drop_of-so k (Some number) filling holds =
        says-so ks true (RpcDropAnswer number) (with_call k undropped) filling (λ q. tt)
        (λ client messages holds.
        let so : (one : Call) → slice_get (calls_of client) (k.n - 1) ≡ Some one → LivesIn client.session client.counters.last one
        → Rattle.law_order.proofs.Following.Follows (calls_of client) client.session client.counters.last one (undropped one) =
        λ one there lives. flagged-follows (calls_of client) client.session client.counters.last (record one.flags { dropping = false }) one lives in
        record {
          turn = changed-turn base client.key client.session client.counters.last (k.n - 1) undropped (calls_of client) so holds.turn;
          queued =
              still-queued (calls_of client) (changed_at (k.n - 1) undropped (calls_of client)) ks
              (state-queued (calls_of client) (k.n - 1) undropped (λ call. refl)) holds.queued;
          from = λ q.
              all-from client.session (calls_of client) (changed_at (k.n - 1) undropped (calls_of client)) messages
              (changed-last client.session client.counters.last (k.n - 1) undropped (calls_of client) so holds.turn.turn.living) (holds.from q);
          within = holds.within;
        })
        holds

    drops-so : (drops : List CallNo) (filling : Filling S) → HoldsIn filling → HoldsIn (fold says_drop filling drops)
    drops-so [] filling holds = holds
    drops-so (k ∷ drops) filling holds = drops-so drops (says_drop filling k) (drop_of-so k (number_of (at k (calls_of filling.client))) filling holds)

  -- ---- a call's turn

  under-goes : (binding : Binding) (turn : Turn) (wrap : Option ℕ) → turn_under binding turn ≡ Goes wrap → turn ≡ Goes wrap
  under-goes Bound turn wrap is = is
  under-goes (Refused code) turn wrap is = absurd (let no : Never ≡ Goes wrap = is in cc)
  under-goes Needed turn wrap is = absurd (let no : Waits ≡ Goes wrap = is in cc)
  under-goes (Asked message) turn wrap is = absurd (let no : Waits ≡ Goes wrap = is in cc)
  under-goes Held turn wrap is = absurd (let no : Waits ≡ Goes wrap = is in cc)

  with-goes : (temporary : Option Temporary) (turn : Turn) (wrap : Option ℕ) → turn_with temporary turn ≡ Goes wrap → turn ≡ Goes wrap
  with-goes None turn wrap is = is
  with-goes (Some temporary) turn wrap is = under-goes temporary.binding turn wrap is

  turn-goes : (client : Client) (call : Call) (wrap : Option ℕ) → turn_of client call ≡ Goes wrap → turn_after (calls_of client) call.after ≡ Goes wrap
  turn-goes client call wrap is =
      let turn = turn_after (calls_of client) call.after in
      cond_both (is_open client) (turn_with client.temporary turn) turn (λ (found : Turn). found ≡ Goes wrap → turn ≡ Goes wrap)
      (λ is_now. with-goes client.temporary turn wrap) (λ opening is. is) is

  goes-same : (one other : Option ℕ) → Goes one ≡ Goes other → one ≡ other
  goes-same one other is = cc

  living-first : (state : State) (names : List Name) (name : Name) → living_name_in state names ≡ Some name → (older : List Name) × (names ≡ name ∷ older)
  living-first table.Sent [] name is = absurd (none-some name is)
  living-first table.Sent (first ∷ older) name is = (older, ap (λ (one : Name). one ∷ older) (some-same first name is))
  living-first table.Queued names name is = absurd (none-some name is)
  living-first table.Held names name is = absurd (none-some name is)
  living-first (table.Done reply) names name is = absurd (none-some name is)
  living-first (table.Refused code) names name is = absurd (none-some name is)
  living-first (table.Unknown cause) names name is = absurd (none-some name is)

  -- the earlier call is sent or done well, where this one goes
  by-behind : (session last own : ℕ) (earlier : Call) → last < own → LivesIn session last earlier → (state : State) → earlier.state ≡ state → (wrap : Option ℕ)
      → turn_by state (living_number earlier) ≡ Goes wrap → WentBehind earlier session own wrap
  by-behind session last own earlier more lives (table.Done result) is wrap goes_so =
      elim (cases_Bool (is_good result)) [
        | inl good ↦
            let none : None ≡ wrap = goes-same None wrap (rw good at goes_so) in
            subst (WentBehind earlier session own) none (record { result = result; done = is; good = good })
        | inr bad ↦ absurd (let no : Never ≡ Goes wrap = rw bad at goes_so in cc)
      ]
  by-behind session last own earlier more lives table.Sent is wrap goes_so =
      let first = lives is in
      let named : living_number earlier ≡ Some first.0.message.number = ap (λ (found : Option Name). option_map (λ (name : Name). name.message.number) found) first.1 in
      let same : Some first.0.message.number ≡ wrap = sym named ∙ goes-same (living_number earlier) wrap goes_so in
      let names = living-first earlier.state earlier.names first.0 first.1 in
      subst (WentBehind earlier session own) same
      (record {
        name = first.0;
        among = subst (λ (names : List Name). Rattle.std.specs.List.Contains names first.0) (sym names.1) (here first.0 names.0);
        of_session = first.2;
        of_number = refl;
        below = let within = first.3 in omega (arith, within, more);
      })
  by-behind session last own earlier more lives table.Queued is wrap goes_so = absurd (let no : Waits ≡ Goes wrap = goes_so in cc)
  by-behind session last own earlier more lives table.Held is wrap goes_so = absurd (let no : Waits ≡ Goes wrap = goes_so in cc)
  by-behind session last own earlier more lives (table.Refused code) is wrap goes_so = absurd (let no : Never ≡ Goes wrap = goes_so in cc)
  by-behind session last own earlier more lives (table.Unknown cause) is wrap goes_so = absurd (let no : Never ≡ Goes wrap = goes_so in cc)

  -- a call that goes is behind its earlier one
  turn-behind : (client : Client) (call : Call) (wrap : Option ℕ) (own : ℕ) → client.counters.last < own → KeepsTurn client → turn_of client call ≡ Goes wrap
      → (number : CallNo) → call.after ≡ Some number → (earlier : Call) → at number (calls_of client) ≡ Some earlier → WentBehind earlier client.session own wrap
  turn-behind client call wrap own more turn goes_so number is earlier there =
      let its : turn_after (calls_of client) (Some number) ≡ Goes wrap =
      ap (turn_after (calls_of client)) (sym is) ∙ turn-goes client call wrap goes_so in
      let by : turn_by earlier.state (living_number earlier) ≡ Goes wrap = ap turn_behind (sym there) ∙ its in
      by-behind client.session client.counters.last own earlier more (all-at (LivesIn client.session client.counters.last) (calls_of client) (number.n - 1) earlier there turn.turn.living) earlier.state refl wrap by

  module _ {S : Type 0} where
    turn-so : (k : CallNo) (call : Call) (ks : List CallNo) (turn : Turn) (filling : Filling S) → turn_of filling.client call ≡ turn
        → at k (calls_of filling.client) ≡ Some call → call.state ≡ table.Queued → AllByRecursion (λ (j : CallNo). j.n - 1 ≢ k.n - 1) ks
        → Holds ks filling.client filling.messages → Holds ks (takes_turn k call.body turn filling).client (takes_turn k call.body turn filling).messages
    turn-so k call ks Waits filling is found queued differs holds = holds
    turn-so k call ks Never filling is found queued differs holds =
        let calls = calls_of filling.client in
        let session = filling.client.session in
        let last = filling.client.counters.last in
        let stop : Call → Call = settled (fate.Refused 0) in
        let so : (one : Call) → slice_get calls (k.n - 1) ≡ Some one → LivesIn session last one
        → Rattle.law_order.proofs.Following.Follows calls session last one (stop one) =
        λ one there lives.
        settled-follows calls session last (fate.Refused 0) one (queued-open one (ap (λ (call : Call). call.state) (some-same one call (sym there ∙ found)) ∙ queued)) in
        record {
          turn = changed-turn base filling.client.key session last (k.n - 1) stop calls so holds.turn;
          queued = other-queued calls k stop ks differs holds.queued;
          from = λ q. all-from session calls (changed_at (k.n - 1) stop calls) filling.messages (changed-last session last (k.n - 1) stop calls so holds.turn.turn.living) (holds.from q);
          within = holds.within;
        }
    turn-so k call ks (Goes wrap) filling is found queued differs holds =
        let calls = calls_of filling.client in
        let session = filling.client.session in
        let last = filling.client.counters.last in
        let message : Message = numbered true (body_behind wrap call.body) filling.client in
        let new = message.number in
        let more = above last (time_of filling.client) in
        let less : last ≤ new = omega (arith, more) in
        let living : Living = record { number = message.number; seq = message.seq; wrap = wrap } in
        let change = sent session living filling.client.salt in
        let name : Name = record { session = session; message = living; salts = filling.client.salt ∷ [] } in
        let so : (one : Call) → slice_get calls (k.n - 1) ≡ Some one → LivesIn session new one
        → Rattle.law_order.proofs.Following.Follows calls session new one (change one) =
        λ one there lives.
        let same : one ≡ call = some-same one call (sym there ∙ found) in
        sent-follows calls session new living filling.client.salt one (queued-open one (ap (λ (call : Call). call.state) same ∙ queued))
        (λ number of_number earlier at_number.
        turn-behind filling.client call wrap new more holds.turn is number (ap (λ (call : Call). call.after) (sym same) ∙ of_number) earlier at_number)
        (omega arith) in
        let kept = raised base filling.client.key session last new calls less holds.turn in
        let news = changed_at (k.n - 1) change calls in
        goes-so (Holds ks) message (sends_call k wrap message) filling holds
        (record {
          turn = changed-turn base filling.client.key session new (k.n - 1) change calls so kept;
          queued = other-queued calls k change ks differs holds.queued;
          from = λ q.
              all-append (λ (message : Message). IsFrom session news message.number message.body) filling.messages (message ∷ [])
              (all-from session calls news filling.messages (changed-last session new (k.n - 1) change calls so kept.turn.living) (holds.from q)) (
                inl
                    (record {
                      place = k.n - 1;
                      call = change call;
                      name = name;
                      there = get_changed (k.n - 1) change calls (k.n - 1) refl ∙ ap (λ (one : Option Call). option_map change one) found;
                      among = here name call.names;
                      of_session = refl;
                      of_number = refl;
                      goes = refl;
                    }),
                tt,
              );
          within =
              all-append (λ (message : Message). message.number ≤ new) filling.messages (message ∷ []) (more-within last new filling.messages less holds.within) (omega arith, tt);
        })

    call-so : (k : CallNo) (ks : List CallNo) (found : Option Call) (filling : Filling S) → at k (calls_of filling.client) ≡ found → QueuedAt (calls_of filling.client) k
        → AllByRecursion (λ (j : CallNo). j.n - 1 ≢ k.n - 1) ks → Holds ks filling.client filling.messages
        → Holds ks (says_call_at k found filling).client (says_call_at k found filling).messages
    call-so k ks None filling found is differs holds = holds
    call-so k ks (Some call) filling found is differs holds =
        let same : is.call ≡ call = some-same is.call call (sym is.found ∙ found) in
        turn-so k call ks (turn_of filling.client call) filling refl found (ap (λ (call : Call). call.state) (sym same) ∙ is.queued) differs holds

    calls-so : (ks : List CallNo) (filling : Filling S) → AreApart ks → Holds ks filling.client filling.messages
        → Holds [] (fold says_call filling ks).client (fold says_call filling ks).messages
    calls-so [] filling apart holds = holds
    calls-so (k ∷ ks) filling apart holds =
        let rest : Holds ks filling.client filling.messages = record { turn = holds.turn; queued = holds.queued.1; from = holds.from; within = holds.within } in
        calls-so ks (says_call filling k) apart.1
        (cond_both filling.is_full filling (says_call_at k (at k (calls_of filling.client)) filling) (λ (filling : Filling S). Holds ks filling.client filling.messages) (λ is. rest)
        (λ is. call-so k ks (at k (calls_of filling.client)) filling refl holds.queued.0 apart.0 rest))

    fills-so : (setting : Setting S) (client : Client) (draw : S) → (Q → IsShort client) → KeepsTurn client
        → Holds [] (fills setting client draw).client (fills setting client draw).messages
    fills-so setting client draw short turn =
        let calls = calls_of client in
        let ks : List CallNo = group_of group.Queued calls in
        let waiting = client.waiting in
        let start : Holds ks client [] =
        record { turn = turn; queued = group-queued calls 0 calls (λ i. ap (λ (n : ℕ). slice_get calls n) (omega arith)); from = λ q. tt; within = tt } in
        let a = says_acks client.table.acks (empty client draw) in
        let b = says_told waiting.told a in
        let c = says_resent waiting.resent b in
        let d = says_states waiting.states c in
        let e = says_ping waiting.ping d in
        let f = says_salts waiting.salts e in
        let g = says_destroyed waiting.destroyed f in
        let bound = says_binding setting client.temporary g in
        let drops = group_of group.Dropping calls in
        calls-so ks (fold says_drop bound drops) (group-apart (is_in group.Queued) 0 calls)
        (drops-so ks drops bound
        (binding-so ks setting client.temporary g
        (destroyed-so ks waiting.destroyed f
        (salts-so ks waiting.salts e
        (ping-so ks waiting.ping d
        (states-so ks waiting.states c
        (resent-so ks waiting.resent b (λ q. (short q).resent)
        (told-so ks waiting.told a
        (acks-so ks client.table.acks (empty client draw) (λ q. (short q).acks) start)))))))))

  -- ---- what goes alone

  abbrev IsLone : List Message → Type 0
  IsLone (message ∷ (other ∷ messages)) = ⊥
  IsLone _ = ⊤

  -- the messages of a packet, of which several have numbers that were given
  pub record Whole (client : Client) (messages : List Message) : Type 0 where
    pub turn : KeepsTurn client
    pub from : Q → AreFrom client.session (calls_of client) messages
    pub numbers : IsLone messages ⊎ AreWithin client.counters.last messages

  -- what a marked call is
  pub record IsMarked (client : Client) (marked : Marked) : Type 0 where
    pub call : Call
    pub name : Name
    pub found : at marked.call (calls_of client) ≡ Some call
    pub living : living_name call ≡ Some name
    pub message : record { number = name.message.number; seq = name.message.seq; body = body_behind name.message.wrap call.body } ≡ marked.message

  marked-behind : (client : Client) (k : CallNo) (call : Call) (marked : Marked) → at k (calls_of client) ≡ Some call → (living : Option Name)
      → living_name call ≡ living → option_map (λ (message : Message). record { call = k; message = message }) (message_behind call.body living) ≡ Some marked
      → IsMarked client marked
  marked-behind client k call marked found None living is = absurd (none-some marked is)
  marked-behind client k call marked found (Some name) living is =
      let one : Marked = record { call = k; message = record { number = name.message.number; seq = name.message.seq; body = body_behind name.message.wrap call.body } } in
      let same : one ≡ marked = some-same one marked is in
      record {
        call = call;
        name = name;
        found = subst (λ (marked : Marked). at marked.call (calls_of client) ≡ Some call) same found;
        living = living;
        message = ap (λ (marked : Marked). marked.message) same;
      }

  marked-found : (client : Client) (k : CallNo) (found : Option Call) (marked : Marked) → at k (calls_of client) ≡ found → marked_at k found ≡ Some marked → IsMarked client marked
  marked-found client k None marked is marks = absurd (none-some marked marks)
  marked-found client k (Some call) marked is marks = marked-behind client k call marked is (living_name call) refl marks

  is-marked : (client : Client) (ks : List CallNo) (marked : Marked) → first_marked (calls_of client) ks ≡ Some marked → IsMarked client marked
  is-marked client [] marked is = absurd (none-some marked is)
  is-marked client (k ∷ ks) marked is = marked-found client k (at k (calls_of client)) marked refl is

  living-is-sent : (state : State) (names : List Name) (name : Name) → living_name_in state names ≡ Some name → state ≡ table.Sent
  living-is-sent table.Sent names name is = refl
  living-is-sent table.Queued names name is = absurd (none-some name is)
  living-is-sent table.Held names name is = absurd (none-some name is)
  living-is-sent (table.Done reply) names name is = absurd (none-some name is)
  living-is-sent (table.Refused code) names name is = absurd (none-some name is)
  living-is-sent (table.Unknown cause) names name is = absurd (none-some name is)

  marked-from : (client : Client) (marked : Marked) → KeepsTurn client → IsMarked client marked → IsOfCall client.session (calls_of client) marked.message.number marked.message.body
  marked-from client marked turn is =
      let lives = all-at (LivesIn client.session client.counters.last) (calls_of client) (marked.call.n - 1) is.call is.found turn.turn.living in
      let own = lives (living-is-sent is.call.state is.call.names is.name is.living) in
      let same : own.0 ≡ is.name = some-same own.0 is.name (sym own.1 ∙ is.living) in
      let names = living-first is.call.state is.call.names is.name is.living in
      record {
        place = marked.call.n - 1;
        call = is.call;
        name = is.name;
        there = is.found;
        among = subst (λ (names : List Name). Rattle.std.specs.List.Contains names is.name) (sym names.1) (here is.name names.0);
        of_session = ap (λ (name : Name). name.session) (sym same) ∙ own.2;
        of_number = ap (λ (message : Message). message.number) is.message;
        goes = ap (λ (message : Message). message.body) (sym is.message);
      }

  asked-body : (is_alone : Bool) (binding : Binding) (message : Message) → asked_alone is_alone binding ≡ Some message → IsAskedBy binding → IsBindingCall message.body
  asked-body false binding message is asked = absurd (none-some message is)
  asked-body true Needed message is asked = absurd (none-some message is)
  asked-body true (Asked one) message is asked = subst (λ (message : Message). IsBindingCall message.body) (some-same one message is) asked
  asked-body true Held message is asked = absurd (none-some message is)
  asked-body true Bound message is asked = absurd (none-some message is)
  asked-body true (Refused code) message is asked = absurd (none-some message is)

  asked-by : (temporary : Option Temporary) (message : Message) → binding_alone temporary ≡ Some message → IfSome temporary (λ (temporary : Temporary). IsAskedBy temporary.binding)
      → IsBindingCall message.body
  asked-by None message is asked = absurd (none-some message is)
  asked-by (Some temporary) message is asked = asked-body temporary.is_alone temporary.binding message is asked

  module _ {S : Type 0} (setting : Setting S) where
    unless_call-so : (marked : Option Marked) (client : Client) (draw : S) → (Q → IsShort client) → first_marked (calls_of client) (group_of group.Alone (calls_of client)) ≡ marked
        → KeepsTurn client → Whole (unless_call setting marked client draw).client (unless_call setting marked client draw).messages
    unless_call-so (Some marked) client draw short is turn =
        let session = client.session in
        let last = client.counters.last in
        let calls = calls_of client in
        let change = gone_again client.salt in
        let so : (one : Call) → slice_get calls (marked.call.n - 1) ≡ Some one → LivesIn session last one
        → Rattle.law_order.proofs.Following.Follows calls session last one (change one) =
        λ one there lives. again-follows calls session last client.salt (record one.flags { alone = false }) one lives in
        let news = changed_at (marked.call.n - 1) change calls in
        record {
          turn = changed-turn base client.key session last (marked.call.n - 1) change calls so turn;
          from = λ q. (
            from-last session marked.message.number marked.message.body calls news (changed-last session last (marked.call.n - 1) change calls so turn.turn.living)
                (inl (marked-from client marked turn (is-marked client (group_of group.Alone calls) marked is))),
            tt,
          );
          numbers = inl tt;
        }
    unless_call-so None client draw short is turn =
        let holds = fills-so setting client draw short turn in
        record { turn = holds.turn; from = holds.from; numbers = inr holds.within }

    unless_binding-so : (message : Option Message) (client : Client) (draw : S) → (Q → IsReady client) → binding_alone client.temporary ≡ message
        → KeepsTurn client → Whole (unless_binding setting message client draw).client (unless_binding setting message client draw).messages
    unless_binding-so (Some message) client draw ready is turn =
        record { turn = turn; from = λ q. (inr (asks-binding message.body (asked-by client.temporary message is (ready q).asked)), tt); numbers = inl tt }
    unless_binding-so None client draw ready is turn =
        unless_call-so (first_marked (calls_of client) (group_of group.Alone (calls_of client))) client draw (λ q. (ready q).short) refl turn

    -- ---- the packet

    abbrev IsFlushed : Flushed S → Type 0
    IsFlushed done = KeepsTurn done.client × (Q → IsAnswerFrom (calls_of done.client) done.answer)

    lone-so : (message : Message) (inner : List ℕ) (client : Client) (draw : S) → KeepsTurn client → (Q → IsFrom client.session (calls_of client) message.number message.body)
        → KeepsTurn (remembers_lone message.number inner client)
        × (Q → IsPacketFrom (calls_of (remembers_lone message.number inner client)) (packet_of setting (remembers_lone message.number inner client) draw message).envelope)
    lone-so message inner client draw turn from =
        cond_both (is_some (owner message.number (calls_of client))) client (remembers message.number inner client)
        (λ (client : Client). KeepsTurn client × (Q → IsPacketFrom (calls_of client) (packet_of setting client draw message).envelope))
        (λ is. (turn, λ q. inl (from q))) (λ is. (turn, λ q. inl (from q)))

    sends-so : (messages : List Message) (filling : Filling S) → Whole filling.client messages → IsFlushed (sends setting messages filling)
    sends-so [] filling whole = (whole.turn, λ q. tt)
    sends-so (message ∷ []) filling whole = lone-so message filling.inner filling.client filling.draw whole.turn (λ q. (whole.from q).0)
    sends-so (message ∷ (other ∷ messages)) filling whole =
        let client = filling.client in
        let last = client.counters.last in
        let new = next_number last (time_of client) in
        let more = above last (time_of client) in
        let less : last ≤ new = omega (arith, more) in
        let all : List Message = message ∷ (other ∷ messages) in (
          raised base client.key client.session last new (calls_of client) less whole.turn,
          λ q.
              inr
              (record {
                messages = all;
                body = refl;
                inner = whole.from q;
                below = elim whole.numbers [
                  | inl lone ↦ absurd lone
                  | inr within ↦
                      all-weaker (λ (message : Message). message.number ≤ last) (λ (message : Message). message.number < new) all (λ message is. omega (arith, is, more)) within
                ];
              }),
        )

    pub flush-so : (now : ℕ) (client : Client) (draw : S) → (Q → IsReady client) → KeepsTurn client → IsFlushed (flush setting now client draw)
    flush-so now client draw ready turn =
        let at = at_moment now client in
        let filling = filled setting at draw in
        let whole = unless_binding-so (binding_alone at.temporary) at draw (λ q. let r = ready q in record { short = record { acks = r.short.acks; resent = r.short.resent }; asked = r.asked }) refl turn in
        cond_both (has_any filling.messages) _ _ IsFlushed
        (λ is.
        cond_both (nat_lt (room client.counters) room_min) _ _ IsFlushed (λ is. (turn, λ q. tt))
        (λ is. sends-so filling.messages filling whole))
        (λ is. (whole.turn, λ q. tt))
