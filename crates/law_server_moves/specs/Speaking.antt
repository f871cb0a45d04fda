-- A session that speaks within an event of a server, as it stands in a world of the law on moves.
use Rattle.std.specs.Prelude.{◌≡◌, ◌⊎◌, ⊤, ℕ, true, List}
use Rattle.std.specs.List.{AllByRecursion, Contains}
use Rattle.salt_line.specs.Line.{Line}
use Rattle.service_tl.specs.declared.item.Item.{Item}
use Rattle.service_tl.specs.declared.item.Item.TheVariants.{MsgContainer}
use Rattle.service_tl.specs.declared.lists.Message.{Message}
use Rattle.service_tl.specs.Items.{spelling_of}
use Rattle.inbox.specs.Verdicts.{Verdict, Accepted, Again, Noticed}
use Rattle.waits.specs.declared.job.Unfinished.{Unfinished}
use Rattle.waits.specs.Jobs.{Queue, is_of}
use Rattle.server_rules.specs.Server.{Reply, Session, name_of, with_session}
use Rattle.server_rules.specs.Event.{Owed, Speaker}
use Rattle.law_server.specs.Lives.{request_of}
use Rattle.law_moves.specs.World.{World, WasGiven}
use Rattle.law_client.specs.Packets.{item_there}
use Rattle.law_server_moves.specs.Servers.{AsksThere, CanSay, HasForgotten, HasNoticed, IsNoCall, Past, ServerStands, WasAnswered, with_entries}

-- ---- what is said

-- The salts that a session draws in an event are drawn there at the event's beginning: within the event it stands there
-- with the line of salts that it has in the end.
abbrev pub with_line : Line → Session → Session
with_line line session = record session { salts = line }

-- each row of the session's is one of that line
abbrev pub IsWithin : Line → Session → Type 0
IsWithin line session = AllByRecursion (λ row. Contains line.rows row) session.salts.rows

-- an item that is no container
abbrev pub IsPlain : Item → Type 0
IsPlain (MsgContainer messages) = ⊥
IsPlain _ = ⊤

-- the message spells an item that is no container, and the session can say that
pub record IsSaid (w : World) (session : Session) (message : Message) : Type 0 where
  pub item : Item
  pub body : message.body ≡ spelling_of item
  pub plain : IsPlain item
  pub can : AllByRecursion (CanSay w session) (item_there item)

abbrev pub IsOwedThere : World → Session → Owed → Type 0
IsOwedThere w session owed = owed.name ≡ name_of session → IsSaid w session owed.message

-- ---- a session that speaks

-- With this session and these jobs the server stands there, and what the session owes it can say.
pub record StandsSpeaking (w : World) (past : Past) (sessions : List Session) (session : Session) (jobs : Queue) (messages : List Owed) : Type 0 where
  pub stands : ServerStands w past (with_session session sessions) jobs
  pub among : Contains (with_session session sessions) session
  pub owed : AllByRecursion (IsOwedThere w session) messages

-- so far, with what the event has entered behind what was entered before
abbrev pub SpeaksThere : {S : Type 0} → World → Past → List Session → Line → Speaker S → Type 0
SpeaksThere w past sessions line speaker =
    StandsSpeaking w (with_entries speaker.entries past) sessions (with_line line speaker.session) speaker.jobs speaker.owed

-- the number is open: it has no reply
abbrev pub IsOpen : ℕ → List Reply → Type 0
IsOpen number replies = WasAnswered number replies → ⊥

-- each job of the session is a call of another number, and has no reply
abbrev pub AreOthersOpen : ℕ → Session → Queue → Type 0
AreOthersOpen number session jobs =
    AllByRecursion (λ (one : Unfinished). is_of session.key session.number one ≡ true → IsOpen one.job.number session.replies × (one.job.number ≡ number → ⊥)) jobs

-- ---- what a judgement stands on

-- Of a number that was judged: where it was noticed, the session noticed or forgot it, or by notice 19 it is no call; where it came again, it was given;
-- where it was accepted, it is the call there that its message asks for, or no call, and it and all jobs are unanswered.
abbrev pub IsDue : World → Session → Queue → ℕ → Verdict → List ℕ → Type 0
IsDue w session jobs number (Noticed code) body =
    HasNoticed session number code
    ⊎ ((code ≡ 20) × WasGiven w.ups session.number number × HasForgotten number session)
    ⊎ ((code ≡ 19) × IsNoCall w.ups session.number number)
IsDue w session jobs number (Again mark) body = WasGiven w.ups session.number number
IsDue w session jobs number (Accepted item) body =
    AsksThere w session number (request_of item body) × IsOpen number session.replies × AreOthersOpen number session jobs
