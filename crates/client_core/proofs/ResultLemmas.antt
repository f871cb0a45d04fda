-- A call that is answered stays so, whatever is taken after it.
use Rattle.std.proofs.Common.{◌≡◌, ◌∙◌, ℕ, zero, suc, ◌+◌, ◌-◌, Bool, true, false, List, [], ◌∷◌, ◌++◌, length, map, fold, ap, refl, sym, inl, inr, Option, Some, None, arith}
use Rattle.std.specs.Prelude.{◌==◌, ◌||◌, nat_le, nat_lt, not, if◌then◌else◌, option_map, slice_get, Result, Ok, Err, IfOk}
use Rattle.std.specs.List.{list_any, zip}
use Rattle.std.proofs.lemmas.Bool.{cases_Bool}
use Rattle.service_tl.specs.declared.lists.Message.{Message}
use Rattle.service_tl.specs.declared.item.Item.{Item}
use Rattle.service_tl.specs.declared.item.Item.TheVariants as item
use Rattle.service_tl.specs.ItemOf.{item_of}
use Rattle.envelope.specs.declared.parts.Envelope.{Envelope}
use Rattle.call_table.specs.declared.call.CallNo.{CallNo}
use Rattle.call_table.specs.declared.call.Fate.TheVariants as fate
use Rattle.call_table.specs.Table.{Table, acknowledged, Call, Name, State, Sent, Done, at, call_no, changed, changed_at, first_from, inner_of, is_number_of, living_name, living_name_in, owner, settled, state_at}
use Rattle.call_table.specs.Table as table
use Rattle.client_rules.specs.Client.{Client, StateRequest, at_moment, calls_of, is_open}
use Rattle.client_rules.specs.Asking.{alone}
use Rattle.client_rules.specs.Filling.{numbers_max}
use Rattle.client_rules.specs.Learning.{ended, fate_at_end, fate_learning, learn, learnt_max, learns, settled_if, with_clock}
use Rattle.client_rules.specs.Taking.{Notice, acknowledges, asks_answer, without_idle_wish, alone_call, alone_number, answered_by, fate_noticed, goes_again, message_in, messages_of, noticed_by, row, take, takes_message, takes_over, told_of, told_state, told_states, with_notice_salt}
use Rattle.msg_ids.specs.Counters.{is_odd}
use Rattle.client_core.specs.Results.{BringsResult, taken_of}
use Rattle.octets.specs.declared.memory.Memory.{Memory}
use Rattle.call_table.specs.Kept.{Contents as Calls, Stands as StandsFor, state_in}
use Rattle.client_core.specs.Kept.{Contents}
use Rattle.client_core.specs.Took.{TookBy}
use Rattle.client_core.proofs.CallLemmas.{value}

-- ---- one call among others

abbrev state_in_list : ℕ → List Call → Option State
state_in_list k calls = option_map (λ one. one.state) (slice_get calls k)

-- a change of one that is sent leaves one that is done
done_apart : (change : Call → Call) (answer : List ℕ) (j k : ℕ) (calls : List Call) → state_in_list j calls ≡ Some Sent → state_in_list k calls ≡ Some (Done answer)
    → state_in_list k (changed_at j change calls) ≡ Some (Done answer)
done_apart change answer j k [] sent done = done
done_apart change answer zero zero (call ∷ calls) sent done = absurd (grind (arith, sym sent ∙ done))
done_apart change answer zero (suc k) (call ∷ calls) sent done = done
done_apart change answer (suc j) zero (call ∷ calls) sent done = done
done_apart change answer (suc j) (suc k) (call ∷ calls) sent done = done_apart change answer j k calls sent done

-- where the change leaves the one that is done, all may be changed
done_each : (change : Call → Call) (answer : List ℕ) → ((call : Call) → call.state ≡ Done answer → (change call).state ≡ Done answer)
    → (k : ℕ) (calls : List Call) → state_in_list k calls ≡ Some (Done answer) → state_in_list k (map change calls) ≡ Some (Done answer)
done_each change answer keeps k [] done = done
done_each change answer keeps zero (call ∷ calls) done = ap Some (keeps call (ap (value call.state) done))
done_each change answer keeps (suc k) (call ∷ calls) done = done_each change answer keeps k calls done

-- ---- the owner of a number is sent

named_sent : (number : ℕ) (state : State) (names : List Name) → is_number_of number (living_name_in state names) ≡ true → state ≡ Sent
named_sent number Sent names told = refl
named_sent number table.Queued names told = absurd (grind (arith, told))
named_sent number table.Held names told = absurd (grind (arith, told))
named_sent number (Done bytes) names told = absurd (grind (arith, told))
named_sent number (table.Refused code) names told = absurd (grind (arith, told))
named_sent number (table.Unknown cause) names told = absurd (grind (arith, told))

first_sent : (number place found : ℕ) (calls : List Call) → first_from (λ call. is_number_of number (living_name call)) place calls ≡ Some found
    → (j : ℕ) × ((found ≡ place + j) × (state_in_list j calls ≡ Some Sent))
first_sent number place found [] told = absurd (grind (arith, told))
first_sent number place found (call ∷ calls) told = elim (cases_Bool (is_number_of number (living_name call))) [
  | inl holds ↦
      let here : Some place ≡ Some found = sym (ap (λ b. if b then Some place else first_from (λ one. is_number_of number (living_name one)) (place + 1) calls) holds) ∙ told in
      (0, (omega (arith, ap (value 0) here), ap Some (named_sent number call.state call.names holds)))
  | inr fails ↦
      let later = first_sent number (place + 1) found calls (sym (ap (λ b. if b then Some place else first_from (λ one. is_number_of number (living_name one)) (place + 1) calls) fails) ∙ told) in
      (suc later.0, (omega (arith, later.1.0), later.1.1))
]

abbrev n_of : Option CallNo → ℕ
n_of None = 0
n_of (Some call) = call.n

owned_sent : (found : Option ℕ) (number : ℕ) (call : CallNo) (calls : List Call) → first_from (λ one. is_number_of number (living_name one)) 0 calls ≡ found
    → option_map call_no found ≡ Some call → state_in_list (call.n - 1) calls ≡ Some Sent
owned_sent None number call calls first told = absurd (grind (arith, told))
owned_sent (Some place) number call calls first told =
    let sent = first_sent number 0 place calls first in
    let same : sent.0 ≡ call.n - 1 = omega (arith, sent.1.0, ap (λ (own : Option CallNo). n_of own) told) in
    ap (λ j. state_in_list j calls) (sym same) ∙ sent.1.1

owner_sent : (number : ℕ) (call : CallNo) (calls : List Call) → owner number calls ≡ Some call → state_in_list (call.n - 1) calls ≡ Some Sent
owner_sent number call calls told = owned_sent _ number call calls refl told

-- ---- what leaves a call that is done

abbrev KeepsDone : Client → Client → Type 0
KeepsDone client now = (k : ℕ) (answer : List ℕ) → state_in_list k (calls_of client) ≡ Some (Done answer) → state_in_list k (calls_of now) ≡ Some (Done answer)

not_living : (answer : List ℕ) (state : State) (names : List Name) → state ≡ Done answer → living_name_in state names ≡ None
not_living answer state names is = rw is refl

learns_keeps : (is_first : Bool) (salt : ℕ) (answer : List ℕ) (call : Call) → call.state ≡ Done answer → (settled_if (fate_learning is_first salt (living_name call)) call).state ≡ Done answer
learns_keeps is_first salt answer call is = rw (not_living answer call.state call.names is) is

ends_keeps : (answer : List ℕ) (call : Call) (state : State) → call.state ≡ state → state ≡ Done answer → (settled_if (fate_at_end state) call).state ≡ Done answer
ends_keeps answer call (Done bytes) is told = is ∙ told
ends_keeps answer call Sent is told = absurd (grind (arith, told))
ends_keeps answer call table.Queued is told = absurd (grind (arith, told))
ends_keeps answer call table.Held is told = absurd (grind (arith, told))
ends_keeps answer call (table.Refused code) is told = absurd (grind (arith, told))
ends_keeps answer call (table.Unknown cause) is told = absurd (grind (arith, told))

learn_keeps : (outer unique salt : ℕ) (client : Client) → KeepsDone client (learn outer unique salt client)
learn_keeps outer unique salt client k answer done =
    elim (list_any (λ learnt. learnt == unique) client.learnt) as (λ b. state_in_list k (calls_of (if b then client else if nat_le learnt_max (length client.learnt) then ended client else with_clock outer (learns unique salt client))) ≡ Some (Done answer)) [
      | true ↦ done
      | false ↦ elim (nat_le learnt_max (length client.learnt)) as (λ b. state_in_list k (calls_of (if b then ended client else with_clock outer (learns unique salt client))) ≡ Some (Done answer)) [
        | true ↦ done_each (λ call. settled_if (fate_at_end call.state) call) answer (λ call is. ends_keeps answer call call.state refl is) k (calls_of client) done
        | false ↦ done_each (λ call. settled_if (fate_learning (not (is_open client)) salt (living_name call)) call) answer (λ call is. learns_keeps (not (is_open client)) salt answer call is) k (calls_of client) done
      ]
    ]

becomes_keeps : (number : ℕ) (change : Call → Call) (call : CallNo) (calls : List Call) (k : ℕ) (answer : List ℕ) → owner number calls ≡ Some call
    → state_in_list k calls ≡ Some (Done answer) → state_in_list k (changed call change calls) ≡ Some (Done answer)
becomes_keeps number change call calls k answer own done = done_apart change answer (call.n - 1) k calls (owner_sent number call calls own) done

alone_keeps : (number : ℕ) (own : Option CallNo) (client : Client) → owner number (calls_of client) ≡ own → KeepsDone client (alone_call own client)
alone_keeps number None client is k answer done = done
alone_keeps number (Some call) client is k answer done = becomes_keeps number alone call (calls_of client) k answer is done

number_keeps : (client : Client) (number : ℕ) → KeepsDone client (alone_number client number)
number_keeps client number = alone_keeps number (owner number (calls_of client)) client refl

numbers_keep : (numbers : List ℕ) (client : Client) → KeepsDone client (fold alone_number client numbers)
numbers_keep [] client k answer done = done
numbers_keep (number ∷ numbers) client k answer done = numbers_keep numbers (alone_number client number) k answer (number_keeps client number k answer done)

state_keeps : (client : Client) (number byte : ℕ) → KeepsDone client (told_state client (number, byte))
state_keeps client number byte k answer done =
    elim (goes_again byte) as (λ b. state_in_list k (calls_of (if b then alone_number client number else client)) ≡ Some (Done answer)) [ true ↦ number_keeps client number k answer done | false ↦ done ]

states_keep : (pairs : List (ℕ × ℕ)) (client : Client) → KeepsDone client (fold told_state client pairs)
states_keep [] client k answer done = done
states_keep (pair ∷ pairs) client k answer done = states_keep pairs (told_state client pair) k answer (state_keeps client pair.0 pair.1 k answer done)

told_keep : (numbers info : List ℕ) (client : Client) → KeepsDone client (told_states numbers info client)
told_keep numbers info client k answer done =
    elim (length info == length numbers) as (λ b. state_in_list k (calls_of (if b then fold told_state client (zip numbers info) else client)) ≡ Some (Done answer)) [ true ↦ states_keep (zip numbers info) client k answer done | false ↦ done ]

told_of_keeps : (asked : Option StateRequest) (request : ℕ) (info : List ℕ) (client : Client) → KeepsDone client (told_of asked request info client)
told_of_keeps None request info client k answer done = done
told_of_keeps (Some asked) request info client k answer done =
    elim (asked.number == request) as (λ b. state_in_list k (calls_of (if b then told_states asked.numbers info client else client)) ≡ Some (Done answer)) [ true ↦ told_keep asked.numbers info client k answer done | false ↦ done ]

-- the clock and the salt leave the calls
over_calls : (outer code : ℕ) (salt : Option ℕ) (is : Bool) (client : Client) → calls_of (with_notice_salt salt (if is then with_clock outer client else client)) ≡ calls_of client
over_calls outer code None true client = refl
over_calls outer code None false client = refl
over_calls outer code (Some salt) true client = refl
over_calls outer code (Some salt) false client = refl

takes_over_calls : (outer : ℕ) (notice : Notice) (client : Client) → calls_of (takes_over outer notice client) ≡ calls_of client
takes_over_calls outer notice client = over_calls outer notice.code notice.salt (notice.code == 16 || notice.code == 17) client

noticed_keeps : (outer : ℕ) (notice : Notice) (own : Option CallNo) (asked : Bool) (packet : Option (List ℕ)) (client : Client) → owner notice.about (calls_of client) ≡ own
    → KeepsDone client (noticed_by own asked packet outer notice client)
noticed_keeps outer notice (Some call) asked packet client is k answer done =
    becomes_keeps notice.about (settled (fate_noticed notice.code)) call (calls_of (takes_over outer notice client)) k answer
    (ap (owner notice.about) (takes_over_calls outer notice client) ∙ is)
    (ap (state_in_list k) (takes_over_calls outer notice client) ∙ done)
noticed_keeps outer notice None true packet client is k answer done = ap (state_in_list k) (takes_over_calls outer notice client) ∙ done
noticed_keeps outer notice None false (Some numbers) client is k answer done =
    numbers_keep numbers _ k answer (ap (state_in_list k) (takes_over_calls outer notice client) ∙ done)
noticed_keeps outer notice None false None client is k answer done = done

answered_keeps : (about : ℕ) (result : List ℕ) (own : Option CallNo) (asked : Bool) (client : Client) → owner about (calls_of client) ≡ own
    → KeepsDone client (answered_by own asked result client)
answered_keeps about result (Some call) asked client is k answer done = becomes_keeps about (settled (fate.Done result)) call (calls_of client) k answer is done
answered_keeps about result None true client is k answer done = done
answered_keeps about result None false client is k answer done = done

asks_keeps : (number : ℕ) (client : Client) → KeepsDone client (asks_answer number client)
asks_keeps number client k answer done =
    elim (nat_lt (length client.waiting.resent) numbers_max) as (λ b. state_in_list k (calls_of (if b then record client { waiting = record client.waiting { resent = client.waiting.resent ++ number ∷ [] } } else client)) ≡ Some (Done answer)) [ true ↦ done | false ↦ done ]

row_keeps : (outer number : ℕ) (one : Item) (client : Client) → KeepsDone client (row outer number one client)
row_keeps outer number (item.RpcResult p q) client k answer done = answered_keeps p q _ _ client refl k answer done
row_keeps outer number (item.RpcError p q) client k answer done = done
row_keeps outer number (item.RpcDropAnswer p) client k answer done = done
row_keeps outer number item.RpcAnswerUnknown client k answer done = done
row_keeps outer number item.RpcAnswerDroppedRunning client k answer done = done
row_keeps outer number (item.RpcAnswerDropped p q r) client k answer done = done
row_keeps outer number (item.GetFutureSalts p) client k answer done = done
row_keeps outer number (item.FutureSalts p q r) client k answer done = done
row_keeps outer number (item.Ping p) client k answer done = done
row_keeps outer number (item.PingDelayDisconnect p q) client k answer done = done
row_keeps outer number (item.Pong p q) client k answer done = done
row_keeps outer number (item.DestroySession p) client k answer done = done
row_keeps outer number (item.DestroySessionOk p) client k answer done = done
row_keeps outer number (item.DestroySessionNone p) client k answer done = done
row_keeps outer number (item.NewSessionCreated p q r) client k answer done = learn_keeps outer q r client k answer done
row_keeps outer number (item.MsgContainer p) client k answer done = done
row_keeps outer number (item.MsgsAck p) client k answer done = done
row_keeps outer number (item.MsgsStateReq p) client k answer done = done
row_keeps outer number (item.MsgsStateInfo p q) client k answer done = told_of_keeps client.asked p q client k answer done
row_keeps outer number (item.MsgsAllInfo p q) client k answer done = told_keep p q client k answer done
row_keeps outer number (item.MsgResendReq p) client k answer done = numbers_keep p client k answer done
row_keeps outer number (item.MsgDetailedInfo p q r s) client k answer done = asks_keeps q client k answer done
row_keeps outer number (item.MsgNewDetailedInfo p q r) client k answer done = asks_keeps p client k answer done
row_keeps outer number (item.BadMsgNotification p q r) client k answer done = noticed_keeps outer (record { about = p; code = r; salt = None }) _ _ _ client refl k answer done
row_keeps outer number (item.BadServerSalt p q r s) client k answer done = noticed_keeps outer (record { about = p; code = 48; salt = Some s }) _ _ _ client refl k answer done
row_keeps outer number (item.InvokeAfterMsg p q) client k answer done = done
row_keeps outer number (item.InvokeAfterMsgs p q) client k answer done = done
row_keeps outer number (item.AuthBindTempAuthKey p q r s) client k answer done = done
row_keeps outer number item.Packed client k answer done = done
row_keeps outer number item.Call client k answer done = done
row_keeps outer number (item.Broken p) client k answer done = done

acknowledged_keeps : (message : Message) (client : Client) → KeepsDone client (acknowledges message client)
acknowledged_keeps message client k answer done =
    elim (is_odd message.seq) as (λ b. state_in_list k (calls_of (if b then record client { table = record client.table { acks = acknowledged message.number client.table.acks } } else client)) ≡ Some (Done answer)) [ true ↦ done | false ↦ done ]

message_keeps : (outer : ℕ) (client : Client) (message : Message) → KeepsDone client (takes_message outer client message)
message_keeps outer client message k answer done =
    elim client.has_ended as (λ b. state_in_list k (calls_of (if b then client else row outer message.number (item_of message.body) (acknowledges message client))) ≡ Some (Done answer)) [
      | true ↦ done
      | false ↦ row_keeps outer message.number (item_of message.body) (acknowledges message client) k answer (acknowledged_keeps message client k answer done)
    ]

messages_keep : (outer : ℕ) (messages : List Message) (client : Client) → KeepsDone client (fold (takes_message outer) client messages)
messages_keep outer [] client k answer done = done
messages_keep outer (message ∷ messages) client k answer done = messages_keep outer messages (takes_message outer client message) k answer (message_keeps outer client message k answer done)

-- ---- the result

acknowledged_calls : (message : Message) (client : Client) → calls_of (acknowledges message client) ≡ calls_of client
acknowledged_calls message client =
    elim (is_odd message.seq) as (λ b. calls_of (if b then record client { table = record client.table { acks = acknowledged message.number client.table.acks } } else client) ≡ calls_of client) [ true ↦ refl | false ↦ refl ]

done_here : (answer : List ℕ) (k : ℕ) (calls : List Call) → state_in_list k calls ≡ Some Sent → state_in_list k (changed_at k (settled (fate.Done answer)) calls) ≡ Some (Done answer)
done_here answer k [] sent = absurd (grind (arith, sent))
done_here answer zero (call ∷ calls) sent = refl
done_here answer (suc k) (call ∷ calls) sent = done_here answer k calls sent

answered_here : (about : ℕ) (answer : List ℕ) (call : CallNo) (asked : Bool) (client : Client) → owner about (calls_of client) ≡ Some call
    → state_in_list (call.n - 1) (calls_of (answered_by (owner about (calls_of client)) asked answer client)) ≡ Some (Done answer)
answered_here about answer call asked client own =
    ap (λ now. state_in_list (call.n - 1) (calls_of (answered_by now asked answer client))) own
    ∙ done_here answer (call.n - 1) (calls_of client) (owner_sent about call (calls_of client) own)

message_done : (outer about : ℕ) (answer : List ℕ) (call : CallNo) (client : Client) (message : Message) → client.has_ended ≡ false
    → item_of message.body ≡ item.RpcResult about answer → owner about (calls_of client) ≡ Some call
    → state_in_list (call.n - 1) (calls_of (takes_message outer client message)) ≡ Some (Done answer)
message_done outer about answer call client message lives said own =
    ap (λ b. state_in_list (call.n - 1) (calls_of (if b then client else row outer message.number (item_of message.body) (acknowledges message client)))) lives
    ∙ (ap (λ one. state_in_list (call.n - 1) (calls_of (row outer message.number one (acknowledges message client)))) said
    ∙ answered_here about answer call _ (acknowledges message client) (ap (owner about) (acknowledged_calls message client) ∙ own))

fold_split : {S X : Type 0} (f : S → X → S) (s : S) (xs ys : List X) → fold f s (xs ++ ys) ≡ fold f (fold f s xs) ys
fold_split f s [] ys = refl
fold_split f s (x ∷ xs) ys = fold_split f (f s x) xs ys

pub result_done : (now : ℕ) (envelope : Envelope) (client : Client) (call : CallNo) (answer : List ℕ) → BringsResult now envelope client call answer
    → state_at call (calls_of (take now envelope client)) ≡ Some (Done answer)
result_done now envelope client call answer brings =
    let outer = envelope.number in
    let ready = at_moment now client in
    let taken = messages_keep outer brings.after (takes_message outer (taken_of now envelope client brings.before) brings.message) (call.n - 1) answer
    (message_done outer brings.about answer call (taken_of now envelope client brings.before) brings.message brings.goes_on brings.said brings.outstanding) in
    let all = ap (λ messages. state_in_list (call.n - 1) (calls_of (fold (takes_message outer) ready messages))) brings.split
    ∙ ap (λ last. state_in_list (call.n - 1) (calls_of last)) (fold_split (takes_message outer) ready brings.before (brings.message ∷ brings.after)) in
    ap (λ b. state_at call (calls_of (if b then without_idle_wish (fold (takes_message outer) ready (messages_of (message_in envelope))) else ready))) brings.looked_at
    ∙ (all ∙ taken)

-- what is kept tells so
pub done_by : ((kept : Calls) (table : Table) → StandsFor kept table → (call : CallNo) → state_in call kept.rows ≡ state_at call table.calls)
    → (result : Result Bool Memory) (now : Contents) (before after : Client) (call : CallNo) (answer : List ℕ) → TookBy result now before after
    → state_at call (calls_of after) ≡ Some (Done answer) → IfOk result (λ ended. state_in call now.calls.rows ≡ Some (Done answer))
done_by tells (Ok false) now before after call answer took done = tells now.calls after.table took.1.calls call ∙ done
done_by tells (Ok true) now before after call answer took done = tells now.calls after.table took.1.calls call ∙ done
done_by tells (Err memory) now before after call answer took done = tt
