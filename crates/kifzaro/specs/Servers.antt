-- A server with its draw and what it has to hand out, and the server of the rules that it is.
use Rattle.std.specs.Prelude.{◌≡◌, ℕ, Bool, true, false, Option, None, is_some, List, ◌++◌, length, max, Result, Ok, Err, ⊤}
use Rattle.auth_keys.specs.declared.ring.RingKey.{RingKey}
use Rattle.draws.specs.ChaChaWords.{ChaChaPlace}
use Rattle.envelope.specs.Lock.{mt_lock}
use Rattle.envelope.specs.Packet.{Lock}
use Rattle.regs_service.specs.Served.{IsReply, Step}
use Rattle.server_output.specs.Outs.{AreSent}
use Rattle.server_output.specs.declared.outs.Out.{Out}
use Rattle.server_rules.specs.Answer.{Answer, after_work}
use Rattle.server_rules.specs.Event.{Setting}
use Rattle.server_rules.specs.Server.{Server}
use Rattle.server_core.specs.declared.desk.Heard.TheVariants.{Judged, NotOpened}
use Rattle.server_core.specs.Desks.{request_at}
use Rattle.server_core.specs.Packets.{IsHeardOf}
use Rattle.server_core.specs.Server as core
use Rattle.waits.specs.Jobs.{Queue}
use Rattle.kifzaro.specs.declared.error.Error.{Error}
use Rattle.kifzaro.specs.declared.error.Error.TheVariants as errors
use Rattle.server_core.specs.declared.session_name.SessionName.{SessionName}

-- ---- what contracts see of a server

-- what it keeps of its sessions, jobs and bindings, with the keys of its ring; what it draws from; the packets that aren't
-- handed out yet, in order; and the request that was handed out and waits for its answer
pub record Kept : Type 0 where
  pub server : core.Kept (List RingKey)
  pub draw : ChaChaPlace
  pub waiting : List Out
  pub asked : Option (List ℕ)

-- the request of the first ready job, where it was handed out
abbrev pub handed_out : Bool → Queue → Option (List ℕ)
handed_out true jobs = request_at 0 jobs
handed_out false jobs = None

-- it is this server of the rules, which is in order and within its limits
abbrev pub Is : Kept → Server → Type 0
Is kept server = core.StandsFor kept.server server

-- After an event it is the server that the rules say, its draw is theirs, and behind the packets that waited before stands
-- each packet of the event, sealed, in order. No request waits for its answer.
pub record Did (before after : Kept) (answer : Answer ChaChaPlace) : Type 0 where
  pub is : Is after answer.server
  pub drawn : after.draw ≡ answer.draw
  pub outs : List Out
  pub sent : AreSent mt_lock before.server.seal answer.packets outs
  pub waits : after.waiting ≡ before.waiting ++ outs
  pub asked : after.asked ≡ None

-- ---- what is answered

-- an event happens at a server that no request keeps busy, unless memory runs out
abbrev pub TellsEvent : {X : Type 0} → Option (List ℕ) → Result X Error → Type 0
TellsEvent asked (Ok done) = asked ≡ None
TellsEvent asked (Err errors.Busy) = is_some asked ≡ true
TellsEvent asked (Err errors.Memory) = asked ≡ None
TellsEvent asked (Err other) = ⊥

-- the same of a packet, of which the server tells whose it is or why it doesn't open
abbrev pub TellsHeard : Option (List ℕ) → Lock → List RingKey → ℕ → List ℕ → Result SessionName Error → Type 0
TellsHeard asked lock keys now packet (Ok name) = (asked ≡ None) × IsHeardOf lock keys now packet (Judged name.key name.session)
TellsHeard asked lock keys now packet (Err errors.Busy) = is_some asked ≡ true
TellsHeard asked lock keys now packet (Err (errors.Refused why)) = (asked ≡ None) × IsHeardOf lock keys now packet (NotOpened why)
TellsHeard asked lock keys now packet (Err errors.Memory) = asked ≡ None
TellsHeard asked lock keys now packet (Err other) = ⊥

-- an answer is taken where a request waits for it and it is a reply, unless memory runs out
abbrev pub TellsAnswered : Option (List ℕ) → List ℕ → Result Unit Error → Type 0
TellsAnswered asked reply (Ok done) = (is_some asked ≡ true) × IsReply reply
TellsAnswered asked reply (Err errors.NotAsked) = asked ≡ None
TellsAnswered asked reply (Err (errors.BadReply len)) = (is_some asked ≡ true) × (len ≡ length reply) × (IsReply reply → ⊥)
TellsAnswered asked reply (Err errors.Memory) = (is_some asked ≡ true) × IsReply reply
TellsAnswered asked reply (Err other) = ⊥

-- ---- what is left where an event didn't happen

-- only the moment has changed
abbrev pub at_moment : ℕ → Kept → Kept
at_moment now kept = record kept { server = record kept.server { moment = max kept.server.moment now } }

-- A packet that is refused leaves the moment; all else is as it was.
abbrev pub Leaves : {X : Type 0} → ℕ → Kept → Kept → Result X Error → Type 0
Leaves now before after (Ok done) = ⊤
Leaves now before after (Err (errors.Refused why)) = after ≡ at_moment now before
Leaves now before after (Err other) = after ≡ before

-- it is still the server of the rules that it was, at this moment where it was told the moment alone
abbrev pub StaysAt : {X : Type 0} → ℕ → Server → Kept → Result X Error → Type 0
StaysAt now server after (Ok done) = ⊤
StaysAt now server after (Err (errors.Refused why)) = Is after (record server { now = now })
StaysAt now server after (Err other) = Is after server

-- ---- a request that is answered from outside

-- the service that gives this reply to whatever it is asked
abbrev pub giving : Step (List ℕ)
giving reply request = (reply, reply)

-- The first ready job has run with this reply. It is the run by any service that gives this reply to the job's request
-- (`laws::replies_are_runs`).
abbrev pub after_reply : {S : Type 0} → Setting S → List ℕ → Server → S → Answer S
after_reply setting reply server draw = (after_work setting 0 giving reply server draw).0
