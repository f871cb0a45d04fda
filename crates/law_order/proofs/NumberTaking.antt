-- What a client hears leaves the numbers that it gave.
use Rattle.std.proofs.Common.{◌==◌, ℕ, ◌-◌, Bool, true, false, Option, Some, None, List, [], ◌∷◌, length}
use Rattle.std.specs.Prelude.{◌||◌, IfSome, not, fold, nat_le, nat_lt, option_map}
use Rattle.std.specs.List.{list_any, zip}
use Rattle.std.proofs.lemmas.Bool.{cond_both}
use Rattle.service_tl.specs.declared.item.Item.{Item}
use Rattle.service_tl.specs.declared.item.Item.TheVariants.{RpcResult, NewSessionCreated, MsgsStateReq, MsgsStateInfo, MsgsAllInfo, MsgResendReq, MsgDetailedInfo, MsgNewDetailedInfo, BadMsgNotification, BadServerSalt}
use Rattle.service_tl.specs.declared.lists.Message.{Message}
use Rattle.service_tl.specs.ItemOf.{item_of}
use Rattle.envelope.specs.declared.parts.Envelope.{Envelope}
use Rattle.call_table.specs.declared.call.CallNo.{CallNo}
use Rattle.call_table.specs.declared.call.Fate.{Fate}
use Rattle.call_table.specs.declared.call.Fate.TheVariants as fate
use Rattle.call_table.specs.Table.{Call, inner_of, living_name, owner, settled}
use Rattle.client_rules.specs.Client.{Binding, Bound, Client, Held, Needed, Refused, StateRequest, Temporary, at_moment, bound_so, calls_of, is_open, with_binding}
use Rattle.client_rules.specs.Asking.{alone}
use Rattle.client_rules.specs.Learning.{each_becomes, ended, fate_at_end, fate_learning, learn, learnt_max, learns, settled_if, with_clock}
use Rattle.client_rules.specs.Taking.{Notice, acknowledges, alone_among, alone_call, alone_number, answered_by, asks_answer, becomes, binding_answered, binding_noticed, fate_noticed, goes_again, has_asked, is_asked_by, is_for, message_in, messages_of, noticed, noticed_by, packet_noticed, row, take, takes_message, takes_over, told_of, told_state, told_states, with_notice_clock, with_notice_salt, without_idle_wish}
use Rattle.msg_ids.specs.Counters.{is_odd}
use Rattle.law_order.specs.Given.{IsAskedAmong, LivesAmong}
use Rattle.law_order.proofs.Kept.{Has, Line, changed-given, mapped-given, settled-lives}

module _ (session : Line) (given : List Message) where
  abbrev H : Client → Type 0
  H client = Has session given client

  abbrev IsAsked : Option Temporary → Type 0
  IsAsked temporary = IfSome temporary (λ temporary. IsAskedAmong given temporary.binding)

  -- ---- the binding

  -- a binding that asks for nothing
  abbrev IsIdle : Binding → Type 0
  IsIdle binding = IsAskedAmong given binding

  bound-asked : (binding : Binding) (temporary : Option Temporary) → IsIdle binding → IsAsked (option_map (bound_so binding) temporary)
  bound-asked binding None idle = tt
  bound-asked binding (Some temporary) idle = idle

  pub bound-given : (binding : Binding) (client : Client) → IsIdle binding → H client → H (with_binding binding client)
  bound-given binding client idle h = record { once = h.once; within = h.within; living = h.living; asked = bound-asked binding client.temporary idle; same = h.same }

  noticed-idle : (code : ℕ) → IsIdle (binding_noticed code)
  noticed-idle code =
      cond_both (((code == 16) || (code == 48)) || (code == 20)) Needed _ IsIdle (λ is. tt) (λ is. cond_both (code == 17) Held (Refused code) IsIdle (λ is. tt) (λ is. tt))

  answered-idle : (result : List ℕ) → IsIdle (binding_answered result)
  answered-idle result = cond_both _ Bound (Refused _) IsIdle (λ is. tt) (λ is. tt)

  -- ---- one call

  becomes-given : (call : CallNo) (fate : Fate) (client : Client) → H client → H (becomes call fate client)
  becomes-given call fate client h = changed-given session given (call.n - 1) (settled fate) client (λ one there lives. settled-lives given fate one lives.0) h

  alone-given : (call : Option CallNo) (client : Client) → H client → H (alone_call call client)
  alone-given None client h = h
  alone-given (Some call) client h = changed-given session given (call.n - 1) alone client (λ one there lives. lives) h

  alone_all-given : (numbers : List ℕ) (client : Client) → H client → H (fold alone_number client numbers)
  alone_all-given [] client h = h
  alone_all-given (number ∷ numbers) client h =
      alone_all-given numbers (alone_number client number) (alone-given (owner number (calls_of client)) client h)

  -- ---- all calls

  settled_if-lives : (found : Option Fate) (call : Call) → LivesAmong given call → LivesAmong given (settled_if found call)
  settled_if-lives None call lives = lives
  settled_if-lives (Some fate) call lives = settled-lives given fate call lives.0

  pub each-given : (fate : Call → Option Fate) (client : Client) → H client → H (each_becomes fate client)
  each-given fate client h = mapped-given session given (λ call. settled_if (fate call) call) client (λ call lives. settled_if-lives (fate call) call lives) h

  pub ended-given : (client : Client) → H client → H (ended client)
  ended-given client h =
      let each = each-given (λ call. fate_at_end call.state) client h in
      record { once = each.once; within = each.within; living = each.living; asked = each.asked; same = each.same }

  learns-given : (unique salt : ℕ) (client : Client) → H client → H (learns unique salt client)
  learns-given unique salt client h =
      let fate : Call → Option Fate = λ call. fate_learning (not (is_open client)) salt (living_name call) in
      let each = bound-given Needed (each_becomes fate client) tt (each-given fate client h) in
      record { once = each.once; within = each.within; living = each.living; asked = each.asked; same = each.same }

  clock-given : (outer : ℕ) (client : Client) → H client → H (with_clock outer client)
  clock-given outer client h = record { once = h.once; within = h.within; living = h.living; asked = h.asked; same = h.same }

  learn-given : (outer unique salt : ℕ) (client : Client) → H client → H (learn outer unique salt client)
  learn-given outer unique salt client h =
      cond_both (list_any (λ learnt. learnt == unique) client.learnt) client _ H (λ is. h)
      (λ is.
      cond_both (nat_le learnt_max (length client.learnt)) (ended client) (with_clock outer (learns unique salt client)) H
      (λ is. ended-given client h) (λ is. clock-given outer (learns unique salt client) (learns-given unique salt client h)))

  -- ---- notices

  notice_clock-given : (outer code : ℕ) (client : Client) → H client → H (with_notice_clock outer code client)
  notice_clock-given outer code client h =
      cond_both ((code == 16) || (code == 17)) (with_clock outer client) client H (λ is. clock-given outer client h) (λ is. h)

  notice_salt-given : (salt : Option ℕ) (client : Client) → H client → H (with_notice_salt salt client)
  notice_salt-given None client h = h
  notice_salt-given (Some salt) client h = record { once = h.once; within = h.within; living = h.living; asked = h.asked; same = h.same }

  over-given : (outer : ℕ) (notice : Notice) (client : Client) → H client → H (takes_over outer notice client)
  over-given outer notice client h =
      notice_salt-given notice.salt (with_notice_clock outer notice.code client) (notice_clock-given outer notice.code client h)

  alone-asked : (numbers : List ℕ) (temporary : Option Temporary) → IsAsked temporary → IsAsked (option_map (alone_among numbers) temporary)
  alone-asked numbers None asked = tt
  alone-asked numbers (Some temporary) asked =
      cond_both (list_any (λ number. is_asked_by number temporary.binding) numbers) _ temporary (λ (one : Temporary). IsAskedAmong given one.binding)
      (λ is. asked) (λ is. asked)

  packet-given : (numbers : List ℕ) (client : Client) → H client → H (packet_noticed numbers client)
  packet-given numbers client h =
      alone_all-given numbers (record client { temporary = option_map (alone_among numbers) client.temporary })
      (record { once = h.once; within = h.within; living = h.living; asked = alone-asked numbers client.temporary h.asked; same = h.same })

  noticed_by-given : (call : Option CallNo) (is_binding : Bool) (packet : Option (List ℕ)) (outer : ℕ) (notice : Notice) (client : Client) → H client
      → H (noticed_by call is_binding packet outer notice client)
  noticed_by-given (Some call) is_binding packet outer notice client h =
      becomes-given call (fate_noticed notice.code) (takes_over outer notice client) (over-given outer notice client h)
  noticed_by-given None true packet outer notice client h =
      bound-given (binding_noticed notice.code) (takes_over outer notice client) (noticed-idle notice.code) (over-given outer notice client h)
  noticed_by-given None false (Some numbers) outer notice client h = packet-given numbers (takes_over outer notice client) (over-given outer notice client h)
  noticed_by-given None false None outer notice client h = h

  noticed-given : (outer : ℕ) (notice : Notice) (client : Client) → H client → H (noticed outer notice client)
  noticed-given outer notice client h =
      noticed_by-given (owner notice.about (calls_of client)) (has_asked notice.about client.temporary) (inner_of notice.about client.table.packets) outer notice client h

  answered-given : (call : Option CallNo) (is_binding : Bool) (result : List ℕ) (client : Client) → H client → H (answered_by call is_binding result client)
  answered-given (Some call) is_binding result client h = becomes-given call (fate.Done result) client h
  answered-given None true result client h = bound-given (binding_answered result) client (answered-idle result) h
  answered-given None false result client h = h

  -- ---- states

  state-given : (client : Client) (one : ℕ × ℕ) → H client → H (told_state client one)
  state-given client (number, byte) h =
      cond_both (goes_again byte) (alone_number client number) client H (λ is. alone-given (owner number (calls_of client)) client h) (λ is. h)

  all_states-given : (told : List (ℕ × ℕ)) (client : Client) → H client → H (fold told_state client told)
  all_states-given [] client h = h
  all_states-given (one ∷ told) client h = all_states-given told (told_state client one) (state-given client one h)

  told_states-given : (numbers info : List ℕ) (client : Client) → H client → H (told_states numbers info client)
  told_states-given numbers info client h =
      cond_both (length info == length numbers) (fold told_state client (zip numbers info)) client H (λ is. all_states-given (zip numbers info) client h) (λ is. h)

  told-given : (asked : Option StateRequest) (request : ℕ) (info : List ℕ) (client : Client) → H client → H (told_of asked request info client)
  told-given None request info client h = h
  told-given (Some asked) request info client h =
      cond_both (asked.number == request) (told_states asked.numbers info client) client H (λ is. told_states-given asked.numbers info client h) (λ is. h)

  answer-given : (number : ℕ) (client : Client) → H client → H (asks_answer number client)
  answer-given number client h =
      cond_both (nat_lt (length client.waiting.resent) 8192) _ client H
      (λ is. record { once = h.once; within = h.within; living = h.living; asked = h.asked; same = h.same }) (λ is. h)

  -- ---- rows

  row-given : (outer number : ℕ) (item : Item) (client : Client) → H client → H (row outer number item client)
  row-given outer number (NewSessionCreated first unique salt) client h = learn-given outer unique salt client h
  row-given outer number (RpcResult about result) client h = answered-given (owner about (calls_of client)) (has_asked about client.temporary) result client h
  row-given outer number (BadMsgNotification about seq code) client h = noticed-given outer (record { about = about; code = code; salt = None }) client h
  row-given outer number (BadServerSalt about seq code salt) client h = noticed-given outer (record { about = about; code = 48; salt = Some salt }) client h
  row-given outer number (MsgsStateInfo request info) client h = told-given client.asked request info client h
  row-given outer number (MsgsAllInfo numbers info) client h = told_states-given numbers info client h
  row-given outer number (MsgResendReq numbers) client h = alone_all-given numbers client h
  row-given outer number (MsgsStateReq numbers) client h = record { once = h.once; within = h.within; living = h.living; asked = h.asked; same = h.same }
  row-given outer number (MsgDetailedInfo about answer bytes status) client h = answer-given answer client h
  row-given outer number (MsgNewDetailedInfo answer bytes status) client h = answer-given answer client h
  row-given outer number _ client h = h

  acked-given : (message : Message) (client : Client) → H client → H (acknowledges message client)
  acked-given message client h =
      cond_both (is_odd message.seq) _ client H (λ is. record { once = h.once; within = h.within; living = h.living; asked = h.asked; same = h.same }) (λ is. h)

  message-given : (outer : ℕ) (client : Client) (message : Message) → H client → H (takes_message outer client message)
  message-given outer client message h =
      cond_both client.has_ended client _ H (λ is. h)
      (λ is. row-given outer message.number (item_of message.body) (acknowledges message client) (acked-given message client h))

  messages-given : (outer : ℕ) (messages : List Message) (client : Client) → H client → H (fold (takes_message outer) client messages)
  messages-given outer [] client h = h
  messages-given outer (message ∷ messages) client h = messages-given outer messages (takes_message outer client message) (message-given outer client message h)

  pub moment-given : (now : ℕ) (client : Client) → H client → H (at_moment now client)
  moment-given now client h = record { once = h.once; within = h.within; living = h.living; asked = h.asked; same = h.same }

  wish-given : (client : Client) → H client → H (without_idle_wish client)
  wish-given client h = record { once = h.once; within = h.within; living = h.living; asked = h.asked; same = h.same }

  pub take-given : (now : ℕ) (envelope : Envelope) (client : Client) → H client → H (take now envelope client)
  take-given now envelope client h =
      let ready = at_moment now client in
      let r = moment-given now client h in
      cond_both (is_for client envelope) (without_idle_wish (fold (takes_message envelope.number) ready (messages_of (message_in envelope)))) ready H
      (λ is.
      wish-given (fold (takes_message envelope.number) ready (messages_of (message_in envelope)))
      (messages-given envelope.number (messages_of (message_in envelope)) ready r))
      (λ is. r)
