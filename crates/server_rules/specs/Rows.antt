-- What a session owes because of a judgement: a row for each (core.telegram.org/mtproto/service_messages,
-- core.telegram.org/mtproto/service_messages_about_messages).
use Rattle.std.specs.Prelude.{ℕ, ◌==◌, ◌&&◌, not, min, Bool, true, false, if◌then◌else◌, is_some, Option, Some, None, List, [], ◌∷◌, fold, map}
use Rattle.std.specs.List.{filter, find, list_any, list_all}
use Rattle.service_tl.specs.declared.item.Item.{Item}
use Rattle.service_tl.specs.declared.item.Item.TheVariants.{RpcDropAnswer, GetFutureSalts, FutureSalts, Ping, PingDelayDisconnect, Pong, DestroySession, DestroySessionOk, DestroySessionNone, MsgsAck, MsgsStateReq, MsgsStateInfo, MsgResendReq, BadMsgNotification, BadServerSalt, InvokeAfterMsg, InvokeAfterMsgs, AuthBindTempAuthKey, Packed, Call, Broken}
use Rattle.service_tl.specs.declared.lists.FutureSalt.{FutureSalt}
use Rattle.service_tl.specs.Schema.{rpc_drop_answer}
use Rattle.salt_line.specs.declared.salt_line.SaltRow.{SaltRow}
use Rattle.salt_line.specs.Rows.{future_rows_max}
use Rattle.salt_line.specs.Future.{salt_rows}
use Rattle.id_window.specs.declared.mark.Mark.{Mark}
use Rattle.id_window.specs.declared.mark.Mark.TheVariants.{Noticed as MarkNoticed, Service, Waiting, Replied, Acked, Dropped}
use Rattle.msg_ids.specs.Counters.{is_odd}
use Rattle.inbox.specs.Verdicts.{Verdict, Accepted, Again, Noticed, Judgement}
use Rattle.inbox.specs.States.{state_byte}
use Rattle.server_rules.specs.Server.{Reply, WasAcked, Name, is_kept, mark_in, marks_of, reply_to, session_named}
use Rattle.server_rules.specs.Event.{Setting, State, Speaker, speaks, lost}
use Rattle.server_rules.specs.Speaking.{says, says_again, says_with_salt, needs_salts, answers, answers_in_place, packed_body_refused, bad_body}
use Rattle.server_rules.specs.Waiting.{tells_of, after_failures}
use Rattle.server_rules.specs.Calls.{accepts_call, drops_answer, binds, each_once}

-- ---- acknowledgements (core.telegram.org/mtproto/service_messages_about_messages, "Acknowledgment of Receipt")

-- a message that came again is acknowledged again, where it was accepted and isn't a container
abbrev pub is_mark_acked : Mark → Bool
is_mark_acked Service = true
is_mark_acked Waiting = true
is_mark_acked (Replied good) = true
is_mark_acked (Acked good) = true
is_mark_acked _ = false

abbrev pub is_verdict_acked : Verdict → Bool
is_verdict_acked (Accepted item) = true
is_verdict_acked (Again mark) = is_mark_acked mark
is_verdict_acked (Noticed code) = false

-- the numbers of messages of odd seq that were accepted, now or before, each once and in order of judging
abbrev pub acks_of : List Judgement → List ℕ
acks_of judged =
    each_once (map (λ judgement. judgement.number) (filter (λ judgement. is_odd judgement.seq && is_verdict_acked judgement.verdict) judged))

abbrev pub acknowledges : {S : Type 0} → Setting S → List ℕ → Speaker S → Speaker S
acknowledges setting [] speaker = speaker
acknowledges setting numbers speaker = says setting (MsgsAck numbers) speaker

-- ---- notices (the same page, "Notice of Ignored Error Message")

-- 48 has the right salt with it
abbrev pub notices : {S : Type 0} → Setting S → ℕ → ℕ → ℕ → Speaker S → Speaker S
notices setting number seq code speaker =
    if code == 48
    then says_with_salt setting (λ salt. BadServerSalt number seq 48 salt) speaker
    else says setting (BadMsgNotification number seq code) speaker

-- ---- what came again

abbrev pub says_reply : {S : Type 0} → Option Reply → Speaker S → Speaker S
says_reply None speaker = speaker
says_reply (Some reply) speaker = says_again reply speaker

-- by the mark that the number has now; none where it isn't kept any more
abbrev pub came_again : {S : Type 0} → Setting S → ℕ → ℕ → Option Mark → Speaker S → Speaker S
came_again setting number seq (Some (MarkNoticed code)) speaker = notices setting number seq code speaker
came_again setting number seq (Some (Replied good)) speaker = says_reply (reply_to number speaker.session.replies) speaker
came_again setting number seq (Some (Dropped good)) speaker = notices setting number seq 20 speaker
came_again setting number seq _ speaker = speaker

-- ---- service messages

-- (core.telegram.org/mtproto/service_messages, "Request for several future salts")
abbrev pub future_salt_of : SaltRow → FutureSalt
future_salt_of row = record { valid_since = row.since; valid_until = row.until; salt = row.salt }

abbrev pub tells_salts : {S : Type 0} → Setting S → ℕ → ℕ → Speaker S → Speaker S
tells_salts setting number count speaker =
    let ready = needs_salts setting count speaker in
    says setting (FutureSalts number setting.now (map future_salt_of (salt_rows ready.session.salts setting.now count))) ready

-- a kept reply whose number is listed is kept no more
abbrev pub acked_by : List ℕ → Reply → Reply
acked_by numbers reply =
    if is_kept reply && list_any (λ number. number == reply.number) numbers then record reply { fate = WasAcked } else reply

abbrev pub takes_acks : {S : Type 0} → List ℕ → Speaker S → Speaker S
takes_acks numbers speaker =
    record speaker { session = record speaker.session { replies = map (acked_by numbers) speaker.session.replies } }

-- a byte for each number (core.telegram.org/mtproto/service_messages_about_messages, "Informational Message regarding
-- Status of Messages")
abbrev pub tells_states : {S : Type 0} → Setting S → ℕ → List ℕ → Speaker S → Speaker S
tells_states setting number numbers speaker =
    let session = speaker.session in
    says setting (MsgsStateInfo number (map (state_byte session.history (marks_of session.history session.replies)) numbers)) speaker

-- the kept reply of this number
abbrev pub kept_numbered : List Reply → ℕ → Option Reply
kept_numbered replies number = find (λ reply. is_kept reply && (reply.number == number)) replies

-- the listed replies where all are kept, else what is known of the numbers (the same page, "Explicit Request to Re-Send
-- Messages")
abbrev pub sends_again : {S : Type 0} → Setting S → ℕ → List ℕ → Speaker S → Speaker S
sends_again setting number numbers speaker =
    if list_all (λ other. is_some (kept_numbered speaker.session.replies other)) numbers
    then fold (λ speaker other. says_reply (kept_numbered speaker.session.replies other) speaker) speaker numbers
    else tells_states setting number numbers speaker

-- a body that isn't spelt right is answered in place; a request to drop an answer is no call for the service
abbrev pub answers_broken : {S : Type 0} → Setting S → ℕ → ℕ → List ℕ → Speaker S → Speaker S
answers_broken setting number constructor body speaker =
    if constructor == rpc_drop_answer.number
    then answers setting number bad_body speaker
    else answers_in_place setting number body bad_body speaker

-- ---- the rows

-- an accepted message that is this item and has this body
abbrev pub accepts : {S : Type 0} → Setting S → ℕ → Item → List ℕ → Speaker S → Speaker S
accepts setting number Packed body speaker = answers_in_place setting number body packed_body_refused speaker
accepts setting number (Broken constructor) body speaker = answers_broken setting number constructor body speaker
accepts setting number (AuthBindTempAuthKey perm nonce expires message) body speaker =
    binds setting (record { number = number; perm = perm; nonce = nonce; expires = expires; message = message }) speaker
accepts setting number Call body speaker = accepts_call setting number [] body speaker
accepts setting number (InvokeAfterMsg other query) body speaker = accepts_call setting number (other ∷ []) query speaker
accepts setting number (InvokeAfterMsgs others query) body speaker = accepts_call setting number others query speaker
accepts setting number (RpcDropAnswer call) body speaker = drops_answer setting number call speaker
accepts setting number (Ping ping) body speaker = says setting (Pong number ping) speaker
accepts setting number (PingDelayDisconnect ping delay) body speaker = says setting (Pong number ping) speaker
accepts setting number (GetFutureSalts count) body speaker = tells_salts setting number (min count future_rows_max) speaker
accepts setting number (MsgsAck numbers) body speaker = takes_acks numbers speaker
accepts setting number (MsgsStateReq numbers) body speaker = tells_states setting number numbers speaker
accepts setting number (MsgResendReq numbers) body speaker = sends_again setting number numbers speaker
accepts setting number _ body speaker = speaker

abbrev pub owes : {S : Type 0} → Setting S → ℕ → ℕ → Verdict → List ℕ → Speaker S → Speaker S
owes setting number seq (Noticed code) body speaker = notices setting number seq code speaker
owes setting number seq (Again mark) body speaker = came_again setting number seq (mark_in speaker.session number) speaker
owes setting number seq (Accepted item) body speaker = accepts setting number item body speaker

-- the other session of its key with this number is lost (core.telegram.org/mtproto/service_messages, "Request to Destroy
-- Session")
abbrev pub destroys : {S : Type 0} → Setting S → ℕ → ℕ → Name → State S → State S
destroys setting number destroyed name state =
    let other = record name { session = destroyed } in
    if not (destroyed == name.session) && is_some (session_named other state.sessions)
    then speaks name (says setting (DestroySessionOk destroyed)) (lost other state)
    else speaks name (says setting (DestroySessionNone destroyed)) state

abbrev pub row : {S : Type 0} → Setting S → Name → ℕ → ℕ → Verdict → List ℕ → State S → State S
row setting name number seq (Accepted (DestroySession destroyed)) body state = destroys setting number destroyed name state
row setting name number seq verdict body state = speaks name (owes setting number seq verdict body) state

-- A judgement is settled: its row, then what the jobs owe that waited for its number, or for one that the row answered.
abbrev pub settles : {S : Type 0} → Setting S → Name → State S → Judgement × List ℕ → State S
settles setting name state (judgement, body) =
    after_failures setting
    (speaks name (tells_of judgement.number)
    (row setting name judgement.number judgement.seq judgement.verdict body state))
