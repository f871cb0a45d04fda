-- Events that show what the definitions give.
use Rattle.std.specs.Prelude.{ℕ, zero, suc, ◌+◌, Bool, false, true, Option, Some, None, codes, List, [], ◌∷◌, map, length}
use Rattle.draws.specs.Steps.{step_word}
use Rattle.msg_ids.specs.Counters.{none_given}
use Rattle.salt_line.specs.Line.{fresh_line}
use Rattle.containers.specs.Container.{container_of}
use Rattle.service_tl.specs.declared.lists.Message.{Message}
use Rattle.service_tl.specs.declared.lists.FutureSalt.{FutureSalt}
use Rattle.service_tl.specs.declared.item.Item.TheVariants.{RpcResult, RpcDropAnswer, RpcAnswerDroppedRunning, GetFutureSalts, DestroySession, NewSessionCreated, BadServerSalt, MsgsAck, MsgsStateReq, InvokeAfterMsg, InvokeAfterMsgs, AuthBindTempAuthKey}
use Rattle.service_tl.specs.Items.{spelling_of}
use Rattle.id_window.specs.History.{History, Refused, AcceptedCall, AcceptedOther}
use Rattle.waits.specs.declared.job.Job.{Job}
use Rattle.waits.specs.Jobs.{ready_job}
use Rattle.server_rules.specs.Server.{Server, Session, Binding, name_of, fresh_server}
use Rattle.server_rules.specs.Event.{Setting, State, Envelope, Sent, speaks}
use Rattle.server_rules.specs.Speaking.{error}
use Rattle.server_rules.specs.Answer.{takes, runs, ticks, attaches, begun}

-- words that are drawn one after the other, at moment 0, by a server that has permanent keys alone
abbrev pub drawn : ℕ → ℕ × ℕ
drawn place = (step_word (place + 1), place + 1)

abbrev pub setting : Setting ℕ
setting = record { now = 0; step = drawn; is_temporary = λ key. false; bound_by = λ now name call. None }

-- the messages that are owed, and the calls of entries with whether they ran
abbrev pub messages_owed : State ℕ → List Message
messages_owed state = map (λ owed. owed.message) state.owed

abbrev pub calls_entered : State ℕ → List (ℕ × Bool)
calls_entered state = map (λ entry. (entry.number, entry.ran)) state.entries

-- how many bytes a packet has: the key's identifier and the message key, the head of the plain text, body and padding
abbrev pub packet_bytes : Sent → ℕ
packet_bytes sent = 24 + 32 + length sent.envelope.body + length sent.padding

-- the request that adds this amount to the register `x`
abbrev pub add_x : ℕ → List ℕ
add_x amount = 1 ∷ 44 ∷ 27 ∷ 10 ∷ 1 ∷ 120 ∷ 0 ∷ 0 ∷ amount ∷ 0 ∷ 0 ∷ 0 ∷ 0 ∷ 0 ∷ 0 ∷ 0 ∷ []

-- ---- a session's first packet, under salt 0

abbrev pub first_envelope : Envelope
first_envelope = record { key = 1; salt = 0; session = 9; number = 4; seq = 1; body = add_x 5 }

abbrev pub first_packet : State ℕ
first_packet = takes setting first_envelope (begun fresh_server 0)

-- it is told that it is new, and its right salt
abbrev pub first_owed : List Message
first_owed =
    record { number = 7; seq = 1; body = spelling_of (NewSessionCreated 4 (step_word 1) (step_word 2)) }
    ∷ record { number = 9; seq = 2; body = spelling_of (BadServerSalt 4 1 48 (step_word 2)) }
    ∷ []

-- ---- a container of two calls, and of a third that waits for them

abbrev pub standing : Session
standing =
    record {
      key = 1;
      number = 9;
      first = 4;
      unique = 7;
      salts = fresh_line 0 5;
      history = [];
      replies = [];
      counters = none_given;
    }

abbrev pub server : Server
server = record fresh_server { sessions = standing ∷ [] }

-- a message to the session under its salt
abbrev pub envelope : ℕ → ℕ → List ℕ → Envelope
envelope number seq body = record { key = 1; salt = 5; session = 9; number = number; seq = seq; body = body }

abbrev pub inner : List Message
inner =
    record { number = 8; seq = 1; body = add_x 1 }
    ∷ record { number = 12; seq = 3; body = add_x 2 }
    ∷ record { number = 16; seq = 5; body = spelling_of (InvokeAfterMsgs (8 ∷ 12 ∷ []) (add_x 4)) }
    ∷ []

abbrev pub container_packet : State ℕ
container_packet = takes setting (envelope 20 6 (container_of inner)) (begun server 0)

-- the jobs with the numbers that each waits for
abbrev pub jobs_waiting : State ℕ → List (ℕ × List ℕ)
jobs_waiting state = map (λ one. (one.job.number, one.job.after)) state.jobs

-- the calls are received
abbrev pub container_owed : List Message
container_owed = record { number = 7; seq = 0; body = spelling_of (MsgsAck (8 ∷ 12 ∷ 16 ∷ [])) } ∷ []

-- ---- further events

-- the server after an event
abbrev pub after : State ℕ → Server
after state = record { now = 0; sessions = state.sessions; jobs = state.jobs; bindings = state.bindings }

abbrev pub then_takes : State ℕ → Envelope → State ℕ
then_takes state message = takes setting message (begun (after state) 0)

abbrev pub ran_by : Option Job → ℕ → List ℕ → State ℕ → State ℕ
ran_by None place reply state = state
ran_by (Some job) place reply state = runs setting place job reply (begun (after state) 0)

-- the ready job of this place runs with this reply
abbrev pub then_runs : State ℕ → ℕ → List ℕ → State ℕ
then_runs state place reply = ran_by (ready_job place state.jobs) place reply state

abbrev pub result : ℕ → ℕ → ℕ → List ℕ → Message
result number seq call content = record { number = number; seq = seq; body = spelling_of (RpcResult call content) }

-- the first call runs badly: the one that waits for it is answered directly after it
abbrev pub bad_request : List ℕ
bad_request = error 400 (codes "BAD_REQUEST")

abbrev pub bad_run : State ℕ
bad_run = then_runs container_packet 0 bad_request

-- the second and then the first run well: the third is ready
abbrev pub good_reply : List ℕ
good_reply = 3 ∷ 44 ∷ 27 ∷ 10 ∷ 2 ∷ 0 ∷ 0 ∷ 0 ∷ 0 ∷ 0 ∷ 0 ∷ 0 ∷ []

abbrev pub second_run : State ℕ
second_run = then_runs container_packet 1 good_reply

abbrev pub both_runs : State ℕ
both_runs = then_runs second_run 0 good_reply

-- an answered call comes again, alone, and twice in one container
abbrev pub repeated : State ℕ
repeated = then_takes second_run (envelope 12 3 (add_x 2))

abbrev pub twice : List Message
twice = record { number = 12; seq = 3; body = add_x 2 } ∷ record { number = 12; seq = 3; body = add_x 2 } ∷ []

abbrev pub repeated_twice : State ℕ
repeated_twice = then_takes second_run (envelope 24 6 (container_of twice))

-- the reply is acknowledged, and then the call comes again
abbrev pub acknowledged : State ℕ
acknowledged = then_takes (then_takes second_run (envelope 24 6 (spelling_of (MsgsAck (9 ∷ []))))) (envelope 12 3 (add_x 2))

-- the answer to an unfinished call for which another waits is dropped
abbrev pub drop_packet : State ℕ
drop_packet = then_takes container_packet (envelope 24 7 (spelling_of (RpcDropAnswer 8)))

abbrev pub dropped_running : List ℕ
dropped_running = spelling_of RpcAnswerDroppedRunning

-- the answer to a finished call is dropped
abbrev pub drop_kept : State ℕ
drop_kept = then_takes second_run (envelope 24 7 (spelling_of (RpcDropAnswer 12)))

-- a request for states: 4 was refused, 8 is no call, 12 is a call that waits, 16 is no call
abbrev pub mixed : History
mixed =
    record { number = 4; seq = 1; outcome = Refused 48 }
    ∷ record { number = 8; seq = 0; outcome = AcceptedOther }
    ∷ record { number = 12; seq = 1; outcome = AcceptedCall }
    ∷ record { number = 16; seq = 2; outcome = AcceptedOther }
    ∷ []

abbrev pub asked_states : List ℕ
asked_states = 0 ∷ 4 ∷ 8 ∷ 12 ∷ 16 ∷ 20 ∷ 28 ∷ []

abbrev pub states_packet : State ℕ
states_packet =
    takes setting (envelope 24 2 (spelling_of (MsgsStateReq asked_states)))
    (begun (record server { sessions = record standing { history = mixed } ∷ [] }) 0)

-- a container under the number of an accepted call, and then that call again
abbrev pub one_call : State ℕ
one_call = takes setting (envelope 8 1 (add_x 1)) (begun server 0)

abbrev pub number_used : State ℕ
number_used = then_takes one_call (envelope 8 2 (container_of []))

abbrev pub call_again : State ℕ
call_again = then_takes number_used (envelope 8 1 (add_x 1))

-- a request for two salts, and for the end of another session of the key and of its own
abbrev pub salts_packet : State ℕ
salts_packet = takes setting (envelope 8 1 (spelling_of (GetFutureSalts 2))) (begun server 0)

abbrev pub two_salts : List FutureSalt
two_salts =
    record { valid_since = 0; valid_until = 3600; salt = 5 }
    ∷ record { valid_since = 1800; valid_until = 5400; salt = step_word 1 }
    ∷ []

abbrev pub other : Session
other = record standing { number = 10; unique = 8 }

abbrev pub two_sessions : Server
two_sessions = record fresh_server { sessions = standing ∷ other ∷ [] }

abbrev pub destroy : ℕ → State ℕ
destroy session = takes setting (envelope 8 1 (spelling_of (DestroySession session))) (begun two_sessions 0)

-- ---- full servers

-- 256 sessions of other numbers, and a further one
abbrev pub numbered_from : ℕ → ℕ → List Session
numbered_from first zero = []
numbered_from first (suc n) = record standing { number = first } ∷ numbered_from (suc first) n

abbrev pub many_sessions : State ℕ
many_sessions = takes setting first_envelope (begun (record fresh_server { sessions = numbered_from 100 256 }) 0)

-- ---- temporary keys

abbrev pub temporary : Setting ℕ
temporary = record setting { is_temporary = λ key. true }

-- a call under a temporary key that isn't bound
abbrev pub unbound_call : State ℕ
unbound_call = takes temporary (envelope 8 1 (add_x 1)) (begun server 0)

abbrev pub binding : Binding
binding = record { temp = 1; perm = 2; expires = 7200 }

abbrev pub binding_body : List ℕ
binding_body = spelling_of (AuthBindTempAuthKey 2 3 7200 (6 ∷ []))

-- a binding call that is wrong, and one that is right, after which a call becomes a job
abbrev pub wrong_binding : State ℕ
wrong_binding = takes temporary (envelope 8 1 binding_body) (begun server 0)

abbrev pub right_binding : State ℕ
right_binding = takes (record temporary { bound_by = λ now name call. Some binding }) (envelope 8 1 binding_body) (begun server 0)

abbrev pub bound_call : State ℕ
bound_call = takes temporary (envelope 12 3 (add_x 1)) (begun (after right_binding) 0)

-- ---- ticks and attaches

abbrev pub later : ℕ → Setting ℕ
later now = record setting { now = now }

abbrev pub ticked : ℕ → State ℕ
ticked now = ticks (later now) (begun (after container_packet) 0)

-- 8 waits for a call that doesn't come, 12 for 8, and 16, which is accepted 10 seconds later, for 8 too
abbrev pub chain : List Message
chain =
    record { number = 8; seq = 1; body = spelling_of (InvokeAfterMsg 40 (add_x 1)) }
    ∷ record { number = 12; seq = 3; body = spelling_of (InvokeAfterMsg 8 (add_x 2)) }
    ∷ []

abbrev pub chained : State ℕ
chained =
    takes (later 10) (envelope 16 5 (spelling_of (InvokeAfterMsg 8 (add_x 4))))
    (begun (after (takes setting (envelope 20 6 (container_of chain)) (begun server 0))) 0)

abbrev pub chain_ticked : State ℕ
chain_ticked = ticks (later 30) (begun (after chained) 0)

abbrev pub attached : State ℕ
attached = speaks (name_of standing) (attaches setting) (begun (after both_runs) 0)

abbrev pub attached_new : State ℕ
attached_new = speaks (name_of standing) (attaches setting) (begun server 0)
