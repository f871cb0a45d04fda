-- Events that show what the definitions give.
use Rattle.std.specs.Prelude.{ℕ, zero, suc, ◌+◌, ◌-◌, ◌^◌, true, Option, Some, None, codes, List, [], ◌∷◌, map}
use Rattle.draws.specs.Steps.{step_word}
use Rattle.tl_codec.specs.Spelling.{Truth, spelling}
use Rattle.containers.specs.Container.{container_of}
use Rattle.service_tl.specs.declared.lists.Message.{Message}
use Rattle.service_tl.specs.declared.item.Item.{Item}
use Rattle.service_tl.specs.declared.item.Item.TheVariants.{RpcResult, RpcError, NewSessionCreated, BadMsgNotification, BadServerSalt, InvokeAfterMsg, MsgsAck, MsgsStateInfo, MsgResendReq, DestroySession}
use Rattle.service_tl.specs.Items.{spelling_of}
use Rattle.envelope.specs.declared.parts.Envelope.{Envelope}
use Rattle.call_table.specs.Table.{State, call_no}
use Rattle.client_rules.specs.Client.{Binding, temporary_of, calls_of}
use Rattle.client_rules.specs.Sending.{Setting}
use Rattle.client_rules.specs.Asking.{binding_of}
use Rattle.client_rules.specs.Flush.{Answer, Nothing, Spent, Sends, Flushed, flush}
use Rattle.client_rules.specs.Events.{Run, Event, Submit, Attach, Drop, Flush, Take, Renew, End, Tick, made, run_of}

-- words that are drawn one after the other, and a binding message of one byte
abbrev pub drawn : ℕ → ℕ × ℕ
drawn place = (step_word (place + 1), place + 1)

abbrev pub setting : Setting ℕ
setting = record { step = drawn; binding_message = λ perm random number inner padding. 6 ∷ [] }

-- the request that adds this amount to the register `x`
abbrev pub add_x : ℕ → List ℕ
add_x amount = 1 ∷ 44 ∷ 27 ∷ 10 ∷ 1 ∷ 120 ∷ 0 ∷ 0 ∷ amount ∷ 0 ∷ 0 ∷ 0 ∷ 0 ∷ 0 ∷ 0 ∷ 0 ∷ []

abbrev pub fresh : Run ℕ
fresh = made setting 1 None 0

-- a flush at moment 0
abbrev pub flushes : Run ℕ → Flushed ℕ
flushes run = flush setting 0 run.client run.draw

abbrev pub sent_by : Answer → Option Envelope
sent_by Nothing = None
sent_by Spent = None
sent_by (Sends packet) = Some packet.envelope

-- what goes out
abbrev pub sends : Run ℕ → Option Envelope
sends run = sent_by (flushes run).answer

abbrev pub states : Run ℕ → List State
states run = map (λ call. call.state) (calls_of run.client)

abbrev pub then_does : Run ℕ → List Event → Run ℕ
then_does run events = run_of setting run events

-- an envelope of the client, in its first session
abbrev pub up : ℕ → ℕ → ℕ → List ℕ → Envelope
up salt number seq body =
    record { key = 1; salt = salt; session = step_word 1; number = number; seq = seq; body = body }

-- an item from the server, alone in its packet
abbrev pub hears : ℕ → ℕ → Item → Event
hears number seq item =
    Take 0 (Some (record { key = 1; salt = 5; session = step_word 1; number = number; seq = seq; body = spelling_of item }))

-- ---- the first packet

abbrev pub submitted : Run ℕ
submitted = then_does fresh (Submit (add_x 5) None ∷ [])

abbrev pub first_flush : Run ℕ
first_flush = then_does submitted (Flush 0 ∷ [])

-- two calls, the second one after the first
abbrev pub two_calls : Run ℕ
two_calls = then_does fresh (Submit (add_x 1) None ∷ Submit (add_x 2) (Some (call_no 0)) ∷ [])

abbrev pub two_messages : List Message
two_messages =
    record { number = 4; seq = 1; body = add_x 1 }
    ∷ record { number = 8; seq = 3; body = spelling_of (InvokeAfterMsg 4 (add_x 2)) }
    ∷ []

-- ---- the answer to it

abbrev pub answer : List Message
answer =
    record { number = 7; seq = 1; body = spelling_of (NewSessionCreated 4 9 5) }
    ∷ record { number = 9; seq = 2; body = spelling_of (BadServerSalt 4 1 48 5) }
    ∷ []

abbrev pub answered : Run ℕ
answered = then_does first_flush
    (Take 0 (Some (record { key = 1; salt = 5; session = step_word 1; number = 15; seq = 2; body = container_of answer })) ∷ [])

abbrev pub acknowledged : List Message
acknowledged =
    record { number = 8; seq = 2; body = spelling_of (MsgsAck (7 ∷ [])) }
    ∷ record { number = 12; seq = 3; body = add_x 5 }
    ∷ []

abbrev pub sent_again : Run ℕ
sent_again = then_does answered (Flush 0 ∷ [])

-- its result, and one for a number that isn't outstanding
abbrev pub result : ℕ → Event
result number = hears 17 3 (RpcResult number (add_x 7))

-- ---- one call is sent, one is held, and one is queued

abbrev pub three_calls : Run ℕ
three_calls = then_does sent_again
    (Submit (add_x 1) None ∷ Flush 0 ∷ hears 17 2 (BadMsgNotification 20 5 17) ∷ Submit (add_x 2) None ∷ [])

abbrev pub renewed : Run ℕ
renewed = then_does three_calls (Renew ∷ [])

abbrev pub ended : Run ℕ
ended = then_does three_calls (End ∷ [])

abbrev pub two_queued : List Message
two_queued =
    record { number = 4; seq = 1; body = add_x 1 } ∷ record { number = 8; seq = 3; body = add_x 2 } ∷ []

-- ---- unique numbers

abbrev pub numbers_from : ℕ → ℕ → List ℕ
numbers_from first zero = []
numbers_from first (suc n) = first ∷ numbers_from (suc first) n

-- a client that learnt so many
abbrev pub with_learnt : ℕ → Run ℕ → Run ℕ
with_learnt count run = record run { client = record run.client { learnt = numbers_from 100 count } }

abbrev pub told_of_new : Run ℕ → Run ℕ
told_of_new run = then_does run (hears 21 3 (NewSessionCreated 4 9 6) ∷ [])

-- ---- a temporary key

abbrev pub temporary : Run ℕ
temporary = then_does (made setting 1 (Some (temporary_of 2 7200)) 0)
    (Submit (add_x 5) None ∷ hears 7 1 (NewSessionCreated 4 9 5) ∷ Flush 0 ∷ [])

-- its binding was asked for under number 8
abbrev pub bound_by : Item → Run ℕ
bound_by item = then_does temporary (hears 9 2 item ∷ [])

abbrev pub told_true : Item
told_true = RpcResult 8 (spelling Truth true)

abbrev pub told_error : Item
told_error = RpcResult 8 (spelling_of (RpcError 400 (codes "NO")))

abbrev pub told_code : ℕ → Item
told_code code = BadMsgNotification 8 1 code

abbrev pub binding_in : Run ℕ → Option Binding
binding_in run = binding_of run.client

-- ---- what goes again

abbrev pub both_sent : Run ℕ
both_sent = then_does two_calls (Flush 0 ∷ [])

-- the container is refused with the right salt
abbrev pub container_refused : Run ℕ
container_refused = then_does both_sent (hears 7 2 (BadServerSalt 12 4 48 5) ∷ [])

abbrev pub first_again : Run ℕ
first_again = then_does container_refused (Flush 0 ∷ [])

-- the same by an attach, and by what the server asks for or tells
abbrev pub second_body : List ℕ
second_body = spelling_of (InvokeAfterMsg 4 (add_x 2))

abbrev pub attached : Run ℕ
attached = then_does sent_again (Attach ∷ [])

abbrev pub asked_again : Run ℕ
asked_again = then_does sent_again (hears 17 2 (MsgResendReq (4 ∷ 12 ∷ [])) ∷ [])

-- states are asked for under number 20, and these are told
abbrev pub told_byte : ℕ → Run ℕ
told_byte byte = then_does sent_again (Tick ∷ Flush 0 ∷ hears 21 2 (MsgsStateInfo 20 (byte ∷ [])) ∷ [])

-- ---- later sessions of the server

-- another unique number is learnt while a call is sent
abbrev pub server_lost : Run ℕ
server_lost = then_does sent_again (hears 17 1 (NewSessionCreated 12 10 6) ∷ [])

-- the salt came before the first unique number, and the call went under it
abbrev pub salted_before : Run ℕ
salted_before = then_does first_flush (hears 7 2 (BadServerSalt 4 1 48 5) ∷ Flush 0 ∷ hears 11 1 (NewSessionCreated 8 9 5) ∷ [])

-- the former session is destroyed once the client is open again
abbrev pub open_again : Run ℕ
open_again = then_does renewed
    (Take 0 (Some (record { key = 1; salt = 5; session = renewed.client.session; number = 7; seq = 1; body = spelling_of (NewSessionCreated 4 11 6) })) ∷ [])

-- ---- other events

abbrev pub dropped : Run ℕ
dropped = then_does sent_again (Drop (call_no 0) ∷ [])

-- there may be numbers for no more than this many messages
abbrev pub nearly_spent : ℕ → Run ℕ
nearly_spent room =
    record submitted {
      client = record submitted.client { counters = record { last = 0; content_messages = 2 ^ 30 - room } };
    }

-- a packet of another session, and one with an even number
abbrev pub not_looked_at : Envelope → Run ℕ
not_looked_at envelope = then_does first_flush (Take 50 (Some envelope) ∷ [])

abbrev pub opening : Envelope
opening = record { key = 1; salt = 5; session = step_word 1; number = 7; seq = 1; body = spelling_of (NewSessionCreated 4 9 5) }

abbrev pub destroying : List Message
destroying =
    record { number = 4; seq = 0; body = spelling_of (MsgsAck (7 ∷ [])) }
    ∷ record { number = 8; seq = 1; body = spelling_of (DestroySession (step_word 1)) }
    ∷ record { number = 12; seq = 3; body = add_x 1 }
    ∷ record { number = 16; seq = 5; body = add_x 2 }
    ∷ []
