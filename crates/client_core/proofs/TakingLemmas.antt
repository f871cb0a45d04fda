-- Taking what messages bring is taking the messages, one after the other.
use Rattle.std.proofs.Common.{◌≡◌, ◌∙◌, ℕ, ◌+◌, ◌<◌, ◌≤◌, Bool, true, false, List, [], ◌∷◌, length, map, fold, ap, refl, sym, Option, Some, None, arith}
use Rattle.std.specs.Prelude.{◌==◌, if◌then◌else◌, nat_eq, nat_le, not, Ok}
use Rattle.std.specs.List.{AllByRecursion, list_any}
use Rattle.std.proofs.lemmas.Bool.Decides.{nat_tests}
use Rattle.service_tl.specs.declared.lists.Message.{Message}
use Rattle.service_tl.specs.declared.item.Item.{Item}
use Rattle.service_tl.specs.declared.item.Item.TheVariants as item
use Rattle.service_tl.specs.ItemOf.{item_of}
use Rattle.call_table.specs.declared.call.CallNo.{CallNo}
use Rattle.call_table.specs.Table.{owner}
use Rattle.client_rules.specs.Client.{Client, at_moment, calls_of, is_open}
use Rattle.client_rules.specs.Learning.{ended, learn, learnt_max, learns, with_clock}
use Rattle.envelope.specs.declared.parts.Envelope.{Envelope}
use Rattle.client_rules.specs.Taking.{answered_by, binding_error, has_asked, is_for, message_in, messages_of, row, take, takes_message, acknowledges, without_idle_wish}
use Rattle.client_core.specs.declared.brought.Incoming.{Incoming}
use Rattle.client_core.specs.Brought.{IsFit, acknowledges_number, answered_as, brought_of, lesson_of, row_of, takes_lesson}
use Rattle.client_core.specs.Kept.{Contents, Stands, at_end}
use Rattle.client_core.specs.Took.{Took, TookBy}

answer_same : (own : Option CallNo) (is_binding : Bool) (result : List ℕ) (client : Client) → answered_by own is_binding result client ≡ answered_as own is_binding result (binding_error (item_of result)) client
answer_same (Some call) is_binding result client = refl
answer_same None true result client = refl
answer_same None false result client = refl

row_same : (outer number : ℕ) (item : Item) (client : Client) → row outer number item client ≡ row_of outer number (brought_of item) client
row_same outer number (item.RpcResult a b) client = answer_same (owner a (calls_of client)) (has_asked a client.temporary) b client
row_same outer number (item.RpcError a b) client = refl
row_same outer number (item.RpcDropAnswer a) client = refl
row_same outer number item.RpcAnswerUnknown client = refl
row_same outer number item.RpcAnswerDroppedRunning client = refl
row_same outer number (item.RpcAnswerDropped a b c) client = refl
row_same outer number (item.GetFutureSalts a) client = refl
row_same outer number (item.FutureSalts a b c) client = refl
row_same outer number (item.Ping a) client = refl
row_same outer number (item.PingDelayDisconnect a b) client = refl
row_same outer number (item.Pong a b) client = refl
row_same outer number (item.DestroySession a) client = refl
row_same outer number (item.DestroySessionOk a) client = refl
row_same outer number (item.DestroySessionNone a) client = refl
row_same outer number (item.NewSessionCreated a b c) client = refl
row_same outer number (item.MsgContainer a) client = refl
row_same outer number (item.MsgsAck a) client = refl
row_same outer number (item.MsgsStateReq a) client = refl
row_same outer number (item.MsgsStateInfo a b) client = refl
row_same outer number (item.MsgsAllInfo a b) client = refl
row_same outer number (item.MsgResendReq a) client = refl
row_same outer number (item.MsgDetailedInfo a b c d) client = refl
row_same outer number (item.MsgNewDetailedInfo a b c) client = refl
row_same outer number (item.BadMsgNotification a b c) client = refl
row_same outer number (item.BadServerSalt a b c d) client = refl
row_same outer number (item.InvokeAfterMsg a b) client = refl
row_same outer number (item.InvokeAfterMsgs a b) client = refl
row_same outer number (item.AuthBindTempAuthKey a b c d) client = refl
row_same outer number item.Packed client = refl
row_same outer number item.Call client = refl
row_same outer number (item.Broken a) client = refl

message_same : (outer : ℕ) (client : Client) (message : Message) → takes_message outer client message ≡ takes_lesson outer client (lesson_of message)
message_same outer client message =
    ap (λ now. if client.has_ended then client else now) (row_same outer message.number (item_of message.body) (acknowledges message client))

pub messages_same : (outer : ℕ) (client : Client) (messages : List Message) → fold (takes_message outer) client messages ≡ fold (takes_lesson outer) client (map lesson_of messages)
messages_same outer client [] = refl
messages_same outer client (message ∷ messages) =
    ap (λ now. fold (takes_message outer) now messages) (message_same outer client message) ∙ messages_same outer (takes_lesson outer client (lesson_of message)) messages

-- an ended client takes nothing more
pub ended_stays : (outer : ℕ) (client : Client) (lessons : List Incoming) → client.has_ended ≡ true → fold (takes_lesson outer) client lessons ≡ client
ended_stays outer client [] ended = refl
ended_stays outer client (lesson ∷ lessons) ended =
    ap (λ now. fold (takes_lesson outer) now lessons)
    (ap (λ b. if b then client else row_of outer lesson.number lesson.brought (acknowledges_number lesson.number lesson.seq client)) ended)
    ∙ ended_stays outer client lessons ended

-- one that hasn't ended takes what a message brings
pub lives : (contents : Contents) (client : Client) → contents.rest.has_ended ≡ false → Stands contents client → client.has_ended ≡ false
lives contents client told stands = sym (ap (λ rest. rest.has_ended) stands.rest) ∙ told

pub takes_living : (outer : ℕ) (client : Client) (lesson : Incoming) → client.has_ended ≡ false
    → row_of outer lesson.number lesson.brought (acknowledges_number lesson.number lesson.seq client) ≡ takes_lesson outer client lesson
takes_living outer client lesson lives =
    sym (ap (λ b. if b then client else row_of outer lesson.number lesson.brought (acknowledges_number lesson.number lesson.seq client)) lives)

-- ---- a loop over what messages bring

-- what is left can be taken, and leads to what all lead to
pub record IsUnderWay (outer : ℕ) (old now : Contents) (all left : List Incoming) : Type 0 where
  pub resent : length left ≤ now.room.resent
  pub learnt : length left ≤ now.room.learnt
  pub sessions : 0 < now.room.sessions
  pub fit : AllByRecursion (λ lesson. IsFit lesson.brought) left
  pub stays_open : is_open old.rest ≡ true → is_open now.rest ≡ true
  pub grows : length now.rest.learnt + length left ≤ length old.rest.learnt + length all
  pub stands : (client : Client) → Stands old client → (mid : Client) × (Stands now mid × (fold (takes_lesson outer) mid left ≡ fold (takes_lesson outer) client all))

-- the client has ended by this message
pub ends : (outer : ℕ) (old now after : Contents) (all left : List Incoming) (lesson : Incoming) → IsUnderWay outer old now all (lesson ∷ left)
    → ((client : Client) → Stands now client → Stands (at_end after) (takes_lesson outer client lesson))
    → (client : Client) → Stands old client → Stands (at_end after) (fold (takes_lesson outer) client all)
ends outer old now after all left lesson way stands client was =
    let mid = way.stands client was in
    let last = stands mid.0 mid.1.0 in
    let over : (takes_lesson outer mid.0 lesson).has_ended ≡ true = sym (ap (λ rest. rest.has_ended) last.rest) in
    rw (sym mid.1.1, ended_stays outer (takes_lesson outer mid.0 lesson) left over) last

-- ---- whether it is open

pub open_by_length : (learnt : List ℕ) (empty : Bool) → empty ≡ nat_eq (length learnt) 0 → not empty ≡ list_any (λ unique. true) learnt
open_by_length [] empty told = rw told refl
open_by_length (unique ∷ learnt) empty told =
    let some : nat_eq (length (unique ∷ learnt)) 0 ≡ false = grind (arith, nat_tests) in rw (told, some) refl

-- ---- a unique number that isn't learnt, where there are few

pub learns_new : (outer unique salt : ℕ) (client : Client) → list_any (λ learnt. learnt == unique) client.learnt ≡ false → nat_le learnt_max (length client.learnt) ≡ false
    → with_clock outer (learns unique salt client) ≡ learn outer unique salt client
learns_new outer unique salt client other few =
    sym (ap (λ b. if b then client else if nat_le learnt_max (length client.learnt) then ended client else with_clock outer (learns unique salt client)) other
    ∙ ap (λ b. if b then ended client else with_clock outer (learns unique salt client)) few)

-- ---- a packet that is looked at

idle : (ended : Bool) (after now : Contents) (client : Client) → ((client : Client) → Stands after client → Stands now (without_idle_wish client))
    → ((client : Client) → Stands (at_end after) client → Stands (at_end now) (without_idle_wish client)) → Took ended after client → Took ended now (without_idle_wish client)
idle false after now client stands stands_ended took = stands client took
idle true after now client stands stands_ended took = stands_ended client took

pub took_ok : (ended : Bool) (now : Contents) (before after : Client) → now.rest.has_ended ≡ false → Took ended now after → TookBy (Ok ended) now before after
took_ok false now before after living took = (lives now after living took, took)
took_ok true now before after living took = (sym (ap (λ rest. rest.has_ended) took.rest), took)

pub takes_envelope : (moment : ℕ) (envelope : Envelope) (client : Client) (after now : Contents) (lessons : List Incoming) (ended : Bool) → is_for client envelope ≡ true
    → lessons ≡ map lesson_of (messages_of (message_in envelope)) → now.rest.has_ended ≡ false
    → ((client : Client) → Stands after client → Stands now (without_idle_wish client))
    → ((client : Client) → Stands (at_end after) client → Stands (at_end now) (without_idle_wish client))
    → Took ended after (fold (takes_lesson envelope.number) (at_moment moment client) lessons)
    → TookBy (Ok ended) now client (take moment envelope client)
takes_envelope moment envelope client after now lessons ended mine read living stands stands_ended took =
    let ready = at_moment moment client in
    let messages = messages_of (message_in envelope) in
    let taken : take moment envelope client ≡ without_idle_wish (fold (takes_lesson envelope.number) ready lessons) =
    ap (λ b. if b then without_idle_wish (fold (takes_message envelope.number) ready messages) else ready) mine
    ∙ ap without_idle_wish (messages_same envelope.number ready messages ∙ ap (fold (takes_lesson envelope.number) ready) (sym read)) in
    rw taken (took_ok ended now client (without_idle_wish (fold (takes_lesson envelope.number) ready lessons)) living (idle ended after now _ stands stands_ended took))

-- one that isn't looked at
pub takes_moment : (moment : ℕ) (envelope : Envelope) (client : Client) (now : Contents) → is_for client envelope ≡ false → now.rest.has_ended ≡ false
    → Stands now (at_moment moment client) → TookBy (Ok false) now client (take moment envelope client)
takes_moment moment envelope client now other living stands =
    let ready = at_moment moment client in
    let left : take moment envelope client ≡ ready =
    ap (λ b. if b then without_idle_wish (fold (takes_message envelope.number) ready (messages_of (message_in envelope))) else ready) other in
    rw left (took_ok false now client ready living stands)

-- an opening client hasn't ended by a packet
pub took_opening : (ended : Bool) (now : Contents) (before after : Client) → ended ≡ false → TookBy (Ok ended) now before after → Stands now after
took_opening false now before after is took = took.1
took_opening true now before after is took = absurd (grind (arith, is))
