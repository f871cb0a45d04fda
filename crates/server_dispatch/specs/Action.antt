-- What a judged message needs in an event: its row of the table, with what that row looks at and no more.
use Rattle.std.specs.Prelude.{ℕ, ◌+◌, ◌≤◌, ◌||◌, Bool, List, [], ◌∷◌, length, min, ⊤}
use Rattle.service_tl.specs.declared.item.Item.{Item}
use Rattle.service_tl.specs.declared.item.Item.TheVariants.{RpcDropAnswer, GetFutureSalts, Ping, PingDelayDisconnect, DestroySession, MsgsAck, MsgsStateReq, MsgResendReq, InvokeAfterMsg, InvokeAfterMsgs, AuthBindTempAuthKey, Packed, Call, Broken}
use Rattle.service_tl.specs.declared.lists.Message.{Message}
use Rattle.salt_line.specs.Rows.{future_rows_max}
use Rattle.outbox.specs.declared.kept.Kept.{Kept}
use Rattle.inbox.specs.declared.judged.Verdict.{Verdict as BareVerdict}
use Rattle.inbox.specs.declared.judged.Verdict.TheVariants as without
use Rattle.inbox.specs.Verdicts.{Verdict, Accepted, Again, Noticed}
use Rattle.inbox.specs.Kinds.{item_told}
use Rattle.server_rules.specs.Calls.{each_once}
use Rattle.server_dispatch.specs.Contents.{short_bytes_max}
use Rattle.server_output.specs.Items.{bad_salt_bytes, destroyed_bytes, ids_max, pong_bytes, result_bytes, salts_bytes, states_bytes}
use Rattle.server_session.specs.Unsaid.{is_among, is_to}
use Rattle.server_dispatch.specs.declared.dues.Due.{Due}
use Rattle.server_dispatch.specs.declared.calls.CallDue.{CallDue}
use Rattle.server_dispatch.specs.declared.action.Action.{Action}
use Rattle.server_dispatch.specs.declared.action.Action.TheVariants.{Notice, CameAgain, Tells, Answers, Destroys, Nothing}
use Rattle.server_dispatch.specs.declared.action.Telling.{Telling}
use Rattle.server_dispatch.specs.declared.action.Telling.TheVariants.{Pongs, Salts, Acks, States, Resends}
use Rattle.server_dispatch.specs.declared.action.Answering.TheVariants.{PackedBody, BrokenBody, Binds, Drops, ForService}

-- ---- by the judgement

abbrev pub call_needed : ℕ → List ℕ → List ℕ → CallDue
call_needed number numbers query = record { number = number; query = query; wait = each_once numbers }

-- of an accepted message: a word that it gives,
abbrev pub word_needed : Item → Action
word_needed (RpcDropAnswer call) = Answers (Drops call)
word_needed (Ping ping) = Tells (Pongs ping)
word_needed (PingDelayDisconnect ping delay) = Tells (Pongs ping)
word_needed (GetFutureSalts count) = Tells (Salts count)
word_needed (DestroySession session) = Destroys session
word_needed _ = Nothing

-- a list,
abbrev pub list_needed : Item → Action
list_needed (MsgsAck numbers) = Tells (Acks numbers)
list_needed (MsgsStateReq numbers) = Tells (States numbers)
list_needed (MsgResendReq numbers) = Tells (Resends numbers)
list_needed item = word_needed item

-- its body,
abbrev pub body_needed : Item → List ℕ → Action
body_needed Packed body = Answers (PackedBody body)
body_needed (Broken constructor) body = Answers (BrokenBody constructor body)
body_needed (AuthBindTempAuthKey perm nonce expires message) body =
    Answers (Binds (record { perm = perm; nonce = nonce; expires = expires; message = message }))
body_needed item body = list_needed item

-- or a query for the service
abbrev pub accepted_needed : ℕ → Item → List ℕ → Action
accepted_needed number Call body = Answers (ForService (call_needed number [] body))
accepted_needed number (InvokeAfterMsg other query) body = Answers (ForService (call_needed number (other ∷ []) query))
accepted_needed number (InvokeAfterMsgs others query) body = Answers (ForService (call_needed number others query))
accepted_needed number item body = body_needed item body

-- what the message of this number and seq needs, which was judged so and has this body
abbrev pub due_of : ℕ → ℕ → Verdict → List ℕ → Action
due_of number seq (Noticed code) body = Notice seq code
due_of number seq (Again mark) body = CameAgain seq
due_of number seq (Accepted item) body = accepted_needed number item body

-- what a message needs where it is accepted
abbrev pub needed_of : Message → Action
needed_of message = accepted_needed message.number (item_told message.body) message.body

abbrev pub due_needed : Message → Due
due_needed message = record { number = message.number; action = needed_of message }

-- what it needs once it is judged so, where this is what it needs accepted
abbrev pub due_by : ℕ → BareVerdict → Action → Action
due_by seq (without.Noticed code) due = Notice seq code
due_by seq (without.Again mark) due = CameAgain seq
due_by seq without.Accepted due = due

-- its list, where it asks by one, is no longer than what one message tells
abbrev pub IsItemShort : Item → Type 0
IsItemShort (MsgsStateReq numbers) = length numbers ≤ ids_max
IsItemShort (MsgResendReq numbers) = length numbers ≤ ids_max
IsItemShort _ = ⊤

-- ---- how much it may owe at most

-- the numbers of the kept replies that it asks for

abbrev pub telling_asks : Telling → List ℕ
telling_asks (Resends numbers) = numbers
telling_asks _ = []

abbrev pub asked_by : Action → List ℕ
asked_by (Tells telling) = telling_asks telling
asked_by _ = []

-- the kept replies that it calls for, as what the message of this number needs
abbrev pub due_calls : ℕ → Action → (Kept → Bool)
due_calls number (CameAgain seq) = is_to number
due_calls number due = is_among (asked_by due)

-- and those that a message may call for before it is judged
abbrev pub may_call : Due → Kept → Bool
may_call due kept = is_among (asked_by due.action) kept || is_to due.number kept

-- the bytes of bodies beside these, in two messages at most

abbrev pub telling_bytes : Telling → ℕ
telling_bytes (Pongs ping) = pong_bytes
telling_bytes (Salts count) = salts_bytes (min count future_rows_max)
telling_bytes (Acks numbers) = 0
telling_bytes (States numbers) = states_bytes (length numbers)
telling_bytes (Resends numbers) = states_bytes (length numbers)

-- two short answers
abbrev pub answering_bytes : ℕ
answering_bytes = result_bytes short_bytes_max + result_bytes short_bytes_max

abbrev pub due_bytes : Action → ℕ
due_bytes (Notice seq code) = bad_salt_bytes
due_bytes (CameAgain seq) = bad_salt_bytes
due_bytes (Tells telling) = telling_bytes telling
due_bytes (Answers answering) = answering_bytes
due_bytes (Destroys session) = destroyed_bytes
due_bytes Nothing = 0
