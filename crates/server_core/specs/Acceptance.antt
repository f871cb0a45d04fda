-- What becomes of a packet's message that nothing refuses, in the server that is kept and in the packets that go out.
use Rattle.std.specs.Prelude.{◌≡◌, ℕ, true, false, if◌then◌else◌, Option, List, [], ◌∷◌, Some, None, Contains}
use Rattle.auth_keys.specs.declared.ring.RingKey.{RingKey}
use Rattle.envelope.specs.Packet.{Lock}
use Rattle.service_tl.specs.declared.item.Item.{Item}
use Rattle.service_tl.specs.declared.item.Item.TheVariants.{MsgsAck, InvokeAfterMsg, InvokeAfterMsgs, AuthBindTempAuthKey, Packed, Call, Broken}
use Rattle.service_tl.specs.declared.lists.Message.{Message}
use Rattle.service_tl.specs.Items.{spelling_of}
use Rattle.msg_ids.specs.Counters.{is_odd}
use Rattle.inbox.specs.Kinds.{item_told}
use Rattle.inbox.specs.Judging.{judgements, session_after}
use Rattle.inbox.specs.Refusals.{InEnvelope}
use Rattle.packing.specs.Packing.{packed}
use Rattle.waits.specs.declared.job.Job.{Job}
use Rattle.waits.specs.Jobs.{Queue}
use Rattle.server_output.specs.Outs.{AreSent}
use Rattle.server_rules.specs.Answer.{begun, hears, is_spent, message_in, name_in, opens, takes}
use Rattle.server_rules.specs.Calls.{bool_true_content, job_of, refusal}
use Rattle.server_rules.specs.Event.{BindingCall, Envelope, Sent, Setting, Speaker, State, speaker_in}
use Rattle.server_rules.specs.Sending.{all_sent}
use Rattle.server_rules.specs.Server.{Binding, Name, Reply, Server, Session, name_of, remembered, session_named}
use Rattle.server_rules.specs.Speaking.{bad_body, encrypted_message_invalid, packed_body_refused}
use Rattle.law_server.specs.Order.{WasAccepted}
use Rattle.server_core.specs.declared.effects.Effects.{Effects}
use Rattle.server_core.specs.Server.{Kept, StandsFor}

-- ---- an acknowledgement

-- The session of this name sends in this packet, alone or in a container, a `msgs_ack` with this number.
abbrev pub Acknowledges : Name → ℕ → Sent → Type 0
Acknowledges name number sent =
    (sent.envelope.key ≡ name.key) × (sent.envelope.session ≡ name.session)
    × ((messages : List Message) × (sent.envelope.body ≡ packed messages)
    × ((message : Message) × Contains messages message
    × ((numbers : List ℕ) × Contains numbers number × (message.body ≡ spelling_of (MsgsAck numbers)))))

-- ---- a call

-- what an accepted call has: its job, or the content of its answer
pub data Due : Type 0 where
  Waits : (job : Job) → Due
  IsAnswered : (content : List ℕ) → Due

-- a job, unless it is refused with this content
abbrev pub due_by : Job → Option (List ℕ) → Due
due_by job None = Waits job
due_by job (Some content) = IsAnswered content

-- a call for the service that waits for these numbers
abbrev pub due_call : {S : Type 0} → Setting S → ℕ → List ℕ → List ℕ → Speaker S → Due
due_call setting number numbers request speaker =
    let job = job_of setting number numbers request speaker in
    due_by job (refusal setting job speaker)

-- the answer to a binding call, by the binding that it makes
abbrev pub bound_content : Option Binding → List ℕ
bound_content None = encrypted_message_invalid
bound_content (Some binding) = bool_true_content

abbrev pub due_binding : {S : Type 0} → Setting S → BindingCall → Speaker S → Due
due_binding setting call speaker = IsAnswered (bound_content (setting.bound_by setting.now (name_of speaker.session) call))

-- What an accepted message has that is this item with this body; none where it is no call.
abbrev pub due_of : {S : Type 0} → Setting S → ℕ → Item → List ℕ → Speaker S → Option Due
due_of setting number Call body speaker = Some (due_call setting number [] body speaker)
due_of setting number (InvokeAfterMsg other query) body speaker = Some (due_call setting number (other ∷ []) query speaker)
due_of setting number (InvokeAfterMsgs others query) body speaker = Some (due_call setting number others query speaker)
due_of setting number Packed body speaker = Some (IsAnswered packed_body_refused)
due_of setting number (Broken constructor) body speaker = Some (IsAnswered bad_body)
due_of setting number (AuthBindTempAuthKey perm nonce expires message) body speaker =
    Some (due_binding setting (record { number = number; perm = perm; nonce = nonce; expires = expires; message = message }) speaker)
due_of setting number _ body speaker = None

-- it has it: among the unfinished jobs, as one that hasn't failed, or among the replies
abbrev pub HasDue : ℕ → Due → List Reply → Queue → Type 0
HasDue number (Waits job) replies jobs = Contains jobs (record { job = job; failed = false })
HasDue number (IsAnswered content) replies jobs =
    (reply : Reply) × Contains replies reply × (reply.call ≡ number) × (reply.content ≡ content)

-- ---- the event

-- the session that hears a packet, where it has judged all and answers what it judged first
abbrev pub opened : {S : Type 0} → Setting S → Envelope → Session → State S → Speaker S
opened setting envelope session state =
    let way = InEnvelope setting.now session.salts envelope.salt in
    let message = message_in envelope in
    opens setting (session_after way (remembered session) message).history (judgements way (remembered session) message)
    (speaker_in state session)

-- a session stays where it has room for a further event, and is lost else
abbrev pub with_room : Session → Option Session
with_room session = if is_spent session then None else Some session

-- The message of this envelope is accepted by this session, in an event of this server after which it is that one.
pub record IsAcceptedBy {S : Type 0} (setting : Setting S) (envelope : Envelope) (server : Server) (draw : S) (session : Session) (after : Server) : Type 0 where
  -- the session when all is sent has accepted its number
  pub last : Session
  pub standing : session_named (name_in envelope) (all_sent setting (takes setting envelope (begun server draw))).sessions ≡ Some last
  pub recorded : WasAccepted envelope.number last.history
  -- and is that of its name afterwards, unless it has no room and is lost
  pub stays : session_named (name_in envelope) after.sessions ≡ with_room last
  -- a call is a job then, or is answered, as the table and the rules on waiting say
  pub called : is_spent last ≡ false → (due : Due)
      → due_of setting envelope.number (item_told envelope.body) envelope.body (opened setting envelope session (hears setting envelope (begun server draw))) ≡ Some due
      → HasDue envelope.number due last.replies after.jobs

-- The message of this envelope was accepted by this session, in the event that left the server that is kept so and gave these
-- effects.
pub record WasTaken {S D : Type 0} (lock : Lock) (keys : List RingKey) (setting : Setting D) (envelope : Envelope) (before : Server) (draw : D) (session : Session) (kept : Kept S) (effects : Effects) : Type 0 where
  -- what is kept stands for this server, in which it was accepted
  pub server : Server
  pub stands : StandsFor kept server
  pub accepted : IsAcceptedBy setting envelope before draw session server
  -- these packets went out, and where its seq is odd, one of them acknowledges it
  pub packets : List Sent
  pub sent : AreSent lock keys packets effects.out.outs
  pub acknowledged : is_odd envelope.seq ≡ true → (one : Sent) × Contains packets one × Acknowledges (name_in envelope) envelope.number one
