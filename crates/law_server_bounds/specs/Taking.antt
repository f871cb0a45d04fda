-- What becomes of a packet's message that nothing refuses.
use Rattle.std.specs.Prelude.{◌≡◌, ℕ, true, List, Option, Some, Contains, ◌==◌, ◌⊎◌}
use Rattle.std.specs.List.{list_any}
use Rattle.inbox.specs.Kinds.{item_told}
use Rattle.waits.specs.Jobs.{Queue, is_call}
use Rattle.service_tl.specs.declared.item.Item.TheVariants.{MsgsAck}
use Rattle.service_tl.specs.Items.{spelling_of}
use Rattle.msg_ids.specs.Counters.{is_odd}
use Rattle.server_rules.specs.Server.{Name, Reply, Server, Session, session_named}
use Rattle.server_rules.specs.Event.{Setting, Envelope, Owed}
use Rattle.server_rules.specs.Sending.{all_sent}
use Rattle.server_rules.specs.Answer.{after_packet, begun, name_in, takes}
use Rattle.law_server.specs.Order.{WasAccepted, is_for_service}

-- the session of this name owes a `msgs_ack` with this number
abbrev pub IsAcknowledged : Name → ℕ → List Owed → Type 0
IsAcknowledged name number owed =
    (one : Owed) × Contains owed one × (one.name ≡ name)
    × ((numbers : List ℕ) × Contains numbers number × (one.message.body ≡ spelling_of (MsgsAck numbers)))

-- a reply is to this number
abbrev pub HasReply : ℕ → List Reply → Type 0
HasReply number replies = list_any (λ reply. reply.call == number) replies ≡ true

-- the call of this number in the session of this name is an unfinished job
abbrev pub HasJob : Name → ℕ → Queue → Type 0
HasJob name number jobs = list_any (is_call name.key name.session number) jobs ≡ true

-- it is a job, or it was answered
abbrev pub Taken : Name → ℕ → List Reply → Queue → Type 0
Taken name number replies jobs = HasReply number replies ⊎ HasJob name number jobs

-- The message of the envelope is accepted in this event.
pub record IsTaken (S : Type 0) (setting : Setting S) (envelope : Envelope) (server : Server) (draw : S) : Type 0 where
  -- its session stands until all is sent, and has accepted its number
  pub recorded : (last : Session) × (session_named (name_in envelope) (all_sent setting (takes setting envelope (begun server draw))).sessions ≡ Some last)
      × WasAccepted envelope.number last.history
  -- so it has in the end, unless it is lost then
  pub stays : (after : Session) → session_named (name_in envelope) (after_packet setting envelope server draw).server.sessions ≡ Some after
      → WasAccepted envelope.number after.history
  -- where its seq is odd, its acknowledgement is owed in the same event
  pub acknowledged : is_odd envelope.seq ≡ true → IsAcknowledged (name_in envelope) envelope.number (takes setting envelope (begun server draw)).owed
  -- where it is a call for the service, it is an unfinished job or was answered then
  pub answered : is_for_service (item_told envelope.body) ≡ true
      → (after : Session) → session_named (name_in envelope) (after_packet setting envelope server draw).server.sessions ≡ Some after
      → Taken (name_in envelope) envelope.number after.replies (after_packet setting envelope server draw).server.jobs
