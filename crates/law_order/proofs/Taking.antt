-- What a client hears keeps its calls in turn.
use Rattle.std.proofs.Common.{◌≡◌, ◌∙◌, ◌==◌, ℕ, ◌-◌, Bool, true, false, Option, Some, None, List, [], ◌∷◌, length, map, ap, sym, subst, refl}
use Rattle.std.specs.Prelude.{◌||◌, not, fold, nat_le, nat_lt}
use Rattle.std.specs.List.{list_any, zip}
use Rattle.std.proofs.lemmas.Bool.{cond_both}
use Rattle.service_tl.specs.declared.item.Item.{Item}
use Rattle.service_tl.specs.declared.item.Item.TheVariants.{RpcResult, NewSessionCreated, MsgsStateReq, MsgsStateInfo, MsgsAllInfo, MsgResendReq, MsgDetailedInfo, MsgNewDetailedInfo, BadMsgNotification, BadServerSalt}
use Rattle.service_tl.specs.declared.lists.Message.{Message}
use Rattle.service_tl.specs.ItemOf.{item_of}
use Rattle.envelope.specs.declared.parts.Envelope.{Envelope}
use Rattle.call_table.specs.declared.call.CallNo.{CallNo}
use Rattle.call_table.specs.declared.call.Fate.{Fate}
use Rattle.call_table.specs.declared.call.Fate.TheVariants as fate
use Rattle.call_table.specs.Table.{Call, Name, State, inner_of, living_name, living_name_in, owner, settled, under_of}
use Rattle.call_table.specs.Table as table
use Rattle.client_rules.specs.Client.{Client, StateRequest, at_moment, calls_of, is_open}
use Rattle.client_rules.specs.Asking.{alone}
use Rattle.client_rules.specs.Learning.{ended, fate_at_end, fate_learning, learn, learnt_max, learns, settled_if, with_clock}
use Rattle.client_rules.specs.Taking.{Notice, acknowledges, alone_call, alone_number, answered_by, asks_answer, becomes, fate_noticed, goes_again, has_asked, is_for, message_in, messages_of, noticed, noticed_by, row, take, takes_message, takes_over, told_of, told_state, told_states, with_notice_clock, with_notice_salt, without_idle_wish}
use Rattle.msg_ids.specs.Counters.{is_odd}
use Rattle.law_order.specs.Behind.{LivesIn}
use Rattle.law_order.proofs.Following.{AreKept, Base, Follows, NotDone, changed-turn, flagged-follows, mapped-turn, owner-sent, sent-open, settled-follows}
use Rattle.law_order.proofs.Lists.{none-some}

module _ (base : Base) where
  abbrev KeepsTurn : Client → Type 0
  KeepsTurn client = AreKept base client.key client.session client.counters.last (calls_of client)

  -- ---- one call

  -- a call of which one hears is sent
  becomes-turn : (number : ℕ) (call : CallNo) (fate : Fate) (client : Client) → owner number (calls_of client) ≡ Some call → KeepsTurn client → KeepsTurn (becomes call fate client)
  becomes-turn number call fate client is turn =
      changed-turn base client.key client.session client.counters.last (call.n - 1) (settled fate) (calls_of client)
      (λ one there lives. settled-follows (calls_of client) client.session client.counters.last fate one (sent-open one (owner-sent number (calls_of client) call is one there))) turn

  alone-turn : (call : Option CallNo) (client : Client) → KeepsTurn client → KeepsTurn (alone_call call client)
  alone-turn None client turn = turn
  alone-turn (Some call) client turn =
      changed-turn base client.key client.session client.counters.last (call.n - 1) alone (calls_of client)
      (λ one there lives. flagged-follows (calls_of client) client.session client.counters.last (record one.flags { alone = true }) one lives) turn

  alone_all-turn : (numbers : List ℕ) (client : Client) → KeepsTurn client → KeepsTurn (fold alone_number client numbers)
  alone_all-turn [] client turn = turn
  alone_all-turn (number ∷ numbers) client turn =
      alone_all-turn numbers (alone_number client number) (alone-turn (owner number (calls_of client)) client turn)

  -- ---- all calls

  -- what a fate says of a call that isn't done
  abbrev pub IsOpenFate : (Call → Option Fate) → Type 0
  IsOpenFate fate = (call : Call) (one : Fate) → fate call ≡ Some one → NotDone call

  -- a call that it says nothing of lives on, where it lived
  settled_if-follows : (calls : List Call) (session last : ℕ) (found : Option Fate) (call : Call) → ((one : Fate) → found ≡ Some one → NotDone call)
      → (found ≡ None → LivesIn session last call) → Follows calls session last call (settled_if found call)
  settled_if-follows calls session last None call undone lives = flagged-follows calls session last call.flags call (lives refl)
  settled_if-follows calls session last (Some one) call undone lives = settled-follows calls session last one call (undone one refl)

  pub each-turn : (key before past session last : ℕ) (fate : Call → Option Fate) (calls : List Call) → IsOpenFate fate
      → ((call : Call) → LivesIn before past call → fate call ≡ None → LivesIn session last call) → AreKept base key before past calls
      → AreKept base key session last (map (λ call. settled_if (fate call) call) calls)
  each-turn key before past session last fate calls undone lives turn =
      mapped-turn base key before past session last (λ call. settled_if (fate call) call) calls
      (λ call was. settled_if-follows calls session last (fate call) call (undone call) (λ none. lives call was none)) turn

  end-open : (state : State) (fate : Fate) → fate_at_end state ≡ Some fate → (result : List ℕ) → state ≡ table.Done result → ⊥
  end-open table.Sent fate is result done = cc
  end-open table.Queued fate is result done = cc
  end-open table.Held fate is result done = cc
  end-open (table.Done reply) fate is result done = none-some fate is
  end-open (table.Refused code) fate is result done = none-some fate is
  end-open (table.Unknown cause) fate is result done = none-some fate is

  pub ended-turn : (client : Client) → KeepsTurn client → KeepsTurn (ended client)
  ended-turn client turn =
      each-turn client.key client.session client.counters.last client.session client.counters.last (λ call. fate_at_end call.state) (calls_of client) (λ call fate is. end-open call.state fate is) (λ call lives none. lives) turn

  learning-open : (first : Bool) (salt : ℕ) (state : State) (names : List Name) (fate : Fate) → fate_learning first salt (living_name_in state names) ≡ Some fate
      → (result : List ℕ) → state ≡ table.Done result → ⊥
  learning-open first salt table.Sent names fate is result done = cc
  learning-open first salt table.Queued names fate is result done = cc
  learning-open first salt table.Held names fate is result done = cc
  learning-open first salt (table.Done reply) names fate is result done = none-some fate is
  learning-open first salt (table.Refused code) names fate is result done = none-some fate is
  learning-open first salt (table.Unknown cause) names fate is result done = none-some fate is

  learns-turn : (unique salt : ℕ) (client : Client) → KeepsTurn client → KeepsTurn (learns unique salt client)
  learns-turn unique salt client turn =
      let first = not (is_open client) in
      each-turn client.key client.session client.counters.last client.session client.counters.last (λ call. fate_learning first salt (living_name call)) (calls_of client)
      (λ call fate is. learning-open first salt call.state call.names fate is) (λ call lives none. lives) turn

  learn-turn : (outer unique salt : ℕ) (client : Client) → KeepsTurn client → KeepsTurn (learn outer unique salt client)
  learn-turn outer unique salt client turn =
      cond_both (list_any (λ learnt. learnt == unique) client.learnt) client _ KeepsTurn (λ is. turn)
      (λ is.
      cond_both (nat_le learnt_max (length client.learnt)) (ended client) (with_clock outer (learns unique salt client)) KeepsTurn
      (λ is. ended-turn client turn) (λ is. learns-turn unique salt client turn))

  -- ---- notices

  -- the clock and the salt are taken over
  over-session : (outer : ℕ) (notice : Notice) (client : Client)
      → ((takes_over outer notice client).session ≡ client.session) × (calls_of (takes_over outer notice client) ≡ calls_of client)
      × ((takes_over outer notice client).counters.last ≡ client.counters.last) × ((takes_over outer notice client).key ≡ client.key)
  over-session outer notice client = go notice.salt where
    clock : ((with_notice_clock outer notice.code client).session ≡ client.session) × (calls_of (with_notice_clock outer notice.code client) ≡ calls_of client)
        × ((with_notice_clock outer notice.code client).counters.last ≡ client.counters.last) × ((with_notice_clock outer notice.code client).key ≡ client.key)
    clock =
        cond_both ((notice.code == 16) || (notice.code == 17)) (with_clock outer client) client (λ (other : Client). (other.session ≡ client.session) × (calls_of other ≡ calls_of client) × (other.counters.last ≡ client.counters.last) × (other.key ≡ client.key))
        (λ is. (refl, refl, refl, refl)) (λ is. (refl, refl, refl, refl))

    go : (salt : Option ℕ) → ((with_notice_salt salt (with_notice_clock outer notice.code client)).session ≡ client.session)
        × (calls_of (with_notice_salt salt (with_notice_clock outer notice.code client)) ≡ calls_of client)
        × ((with_notice_salt salt (with_notice_clock outer notice.code client)).counters.last ≡ client.counters.last)
        × ((with_notice_salt salt (with_notice_clock outer notice.code client)).key ≡ client.key)
    go None = clock
    go (Some salt) = clock

  over-turn : (outer : ℕ) (notice : Notice) (client : Client) → KeepsTurn client → KeepsTurn (takes_over outer notice client)
  over-turn outer notice client turn =
      let same = over-session outer notice client in
      let over = takes_over outer notice client in
      subst (λ (key : ℕ). AreKept base key over.session over.counters.last (calls_of over)) (sym same.3)
      (subst (λ (session : ℕ). AreKept base client.key session over.counters.last (calls_of over)) (sym same.0)
      (subst (λ (last : ℕ). AreKept base client.key client.session last (calls_of over)) (sym same.2)
      (subst (AreKept base client.key client.session client.counters.last) (sym same.1) turn)))

  noticed_by-turn : (call : Option CallNo) (is_binding : Bool) (packet : Option (List ℕ)) (outer : ℕ) (notice : Notice) (client : Client)
      → owner notice.about (calls_of client) ≡ call → KeepsTurn client → KeepsTurn (noticed_by call is_binding packet outer notice client)
  noticed_by-turn (Some call) is_binding packet outer notice client is turn =
      let over = takes_over outer notice client in
      becomes-turn notice.about call (fate_noticed notice.code) over (ap (owner notice.about) (over-session outer notice client).1 ∙ is) (over-turn outer notice client turn)
  noticed_by-turn None true packet outer notice client is turn = over-turn outer notice client turn
  noticed_by-turn None false (Some numbers) outer notice client is turn = alone_all-turn numbers _ (over-turn outer notice client turn)
  noticed_by-turn None false None outer notice client is turn = turn

  noticed-turn : (outer : ℕ) (notice : Notice) (client : Client) → KeepsTurn client → KeepsTurn (noticed outer notice client)
  noticed-turn outer notice client turn =
      noticed_by-turn (owner notice.about (calls_of client)) (has_asked notice.about client.temporary) (inner_of notice.about client.table.packets) outer notice client refl turn

  answered-turn : (about : ℕ) (call : Option CallNo) (is_binding : Bool) (result : List ℕ) (client : Client) → owner about (calls_of client) ≡ call → KeepsTurn client
      → KeepsTurn (answered_by call is_binding result client)
  answered-turn about (Some call) is_binding result client is turn = becomes-turn about call (fate.Done result) client is turn
  answered-turn about None true result client is turn = turn
  answered-turn about None false result client is turn = turn

  -- ---- states

  state-turn : (client : Client) (one : ℕ × ℕ) → KeepsTurn client → KeepsTurn (told_state client one)
  state-turn client (number, byte) turn =
      cond_both (goes_again byte) (alone_number client number) client KeepsTurn (λ is. alone-turn (owner number (calls_of client)) client turn) (λ is. turn)

  all_states-turn : (told : List (ℕ × ℕ)) (client : Client) → KeepsTurn client → KeepsTurn (fold told_state client told)
  all_states-turn [] client turn = turn
  all_states-turn (one ∷ told) client turn = all_states-turn told (told_state client one) (state-turn client one turn)

  told_states-turn : (numbers info : List ℕ) (client : Client) → KeepsTurn client → KeepsTurn (told_states numbers info client)
  told_states-turn numbers info client turn =
      cond_both (length info == length numbers) (fold told_state client (zip numbers info)) client KeepsTurn (λ is. all_states-turn (zip numbers info) client turn) (λ is. turn)

  told-turn : (asked : Option StateRequest) (request : ℕ) (info : List ℕ) (client : Client) → KeepsTurn client → KeepsTurn (told_of asked request info client)
  told-turn None request info client turn = turn
  told-turn (Some asked) request info client turn =
      cond_both (asked.number == request) (told_states asked.numbers info client) client KeepsTurn (λ is. told_states-turn asked.numbers info client turn) (λ is. turn)

  answer-turn : (number : ℕ) (client : Client) → KeepsTurn client → KeepsTurn (asks_answer number client)
  answer-turn number client turn = cond_both (nat_lt (length client.waiting.resent) 8192) _ client KeepsTurn (λ is. turn) (λ is. turn)

  -- ---- rows

  row-turn : (outer number : ℕ) (item : Item) (client : Client) → KeepsTurn client → KeepsTurn (row outer number item client)
  row-turn outer number (NewSessionCreated first unique salt) client turn = learn-turn outer unique salt client turn
  row-turn outer number (RpcResult about result) client turn =
      answered-turn about (owner about (calls_of client)) (has_asked about client.temporary) result client refl turn
  row-turn outer number (BadMsgNotification about seq code) client turn = noticed-turn outer (record { about = about; code = code; salt = None }) client turn
  row-turn outer number (BadServerSalt about seq code salt) client turn = noticed-turn outer (record { about = about; code = 48; salt = Some salt }) client turn
  row-turn outer number (MsgsStateInfo request info) client turn = told-turn client.asked request info client turn
  row-turn outer number (MsgsAllInfo numbers info) client turn = told_states-turn numbers info client turn
  row-turn outer number (MsgResendReq numbers) client turn = alone_all-turn numbers client turn
  row-turn outer number (MsgsStateReq numbers) client turn = turn
  row-turn outer number (MsgDetailedInfo about answer bytes status) client turn = answer-turn answer client turn
  row-turn outer number (MsgNewDetailedInfo answer bytes status) client turn = answer-turn answer client turn
  row-turn outer number _ client turn = turn

  acked-turn : (message : Message) (client : Client) → KeepsTurn client → KeepsTurn (acknowledges message client)
  acked-turn message client turn = cond_both (is_odd message.seq) _ client KeepsTurn (λ is. turn) (λ is. turn)

  message-turn : (outer : ℕ) (client : Client) (message : Message) → KeepsTurn client → KeepsTurn (takes_message outer client message)
  message-turn outer client message turn =
      cond_both client.has_ended client _ KeepsTurn (λ is. turn)
      (λ is. row-turn outer message.number (item_of message.body) (acknowledges message client) (acked-turn message client turn))

  messages-turn : (outer : ℕ) (messages : List Message) (client : Client) → KeepsTurn client → KeepsTurn (fold (takes_message outer) client messages)
  messages-turn outer [] client turn = turn
  messages-turn outer (message ∷ messages) client turn = messages-turn outer messages (takes_message outer client message) (message-turn outer client message turn)

  pub take-turn : (now : ℕ) (envelope : Envelope) (client : Client) → KeepsTurn client → KeepsTurn (take now envelope client)
  take-turn now envelope client turn =
      let ready = at_moment now client in
      cond_both (is_for client envelope) (without_idle_wish (fold (takes_message envelope.number) ready (messages_of (message_in envelope)))) ready KeepsTurn
      (λ is. messages-turn envelope.number (messages_of (message_in envelope)) ready turn) (λ is. turn)
