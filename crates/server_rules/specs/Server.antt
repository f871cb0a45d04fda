-- A server: its sessions with all that came to them and all that they answered, the jobs over all sessions, and the
-- bindings of temporary keys (core.telegram.org/mtproto/description, "Session"; core.telegram.org/mtproto/pfs). Nothing is
-- forgotten here: what is kept, what is forgotten and how far a message is are worked out from whole lists.
use Rattle.std.specs.Prelude.{ℕ, ◌==◌, ◌&&◌, not, Bool, true, false, if◌then◌else◌, Option, Some, None, List, [], map}
use Rattle.std.specs.List.{filter, find}
use Rattle.msg_ids.specs.Counters.{Counters}
use Rattle.salt_line.specs.Line.{Line}
use Rattle.service_tl.specs.declared.item.Item.TheVariants.{RpcResult}
use Rattle.service_tl.specs.Items.{spelling_of}
use Rattle.service_tl.specs.Results.{is_good}
use Rattle.id_window.specs.declared.mark.Mark.{Mark}
use Rattle.id_window.specs.declared.mark.Mark.TheVariants.{Noticed, Service, Container, Waiting, Replied, Acked, Dropped}
use Rattle.id_window.specs.Marks.{Marks}
use Rattle.id_window.specs.History.{History, Outcome, Refused, AcceptedContainer, AcceptedCall, AcceptedOther, found}
use Rattle.inbox.specs.Judging.{Session as Remembered}
use Rattle.inbox.specs.Inbox.{was_heard}
use Rattle.outbox.specs.declared.kept.Kept.{Kept}
use Rattle.outbox.specs.Replies.{Replies}
use Rattle.waits.specs.Jobs.{Queue}

-- ---- replies

-- what became of a reply: it is kept, its receipt was acknowledged, or it was dropped without that
pub data Fate : Type 0 where
  IsKept : Fate
  WasAcked : Fate
  WasDropped : Fate

-- a reply to a call: the call's number, the reply's own number and seq, its content, and what became of it
pub record Reply : Type 0 where
  pub call : ℕ
  pub number : ℕ
  pub seq : ℕ
  pub content : List ℕ
  pub fate : Fate

abbrev pub is_fate_kept : Fate → Bool
is_fate_kept IsKept = true
is_fate_kept WasAcked = false
is_fate_kept WasDropped = false

abbrev pub is_kept : Reply → Bool
is_kept reply = is_fate_kept reply.fate

-- a reply as a message: the `rpc_result` of its content
abbrev pub kept_of : Reply → Kept
kept_of reply =
    record { call = reply.call; number = reply.number; seq = reply.seq; body = spelling_of (RpcResult reply.call reply.content) }

-- the replies that are kept, in order of making
abbrev pub kept_replies : List Reply → Replies
kept_replies replies = map kept_of (filter is_kept replies)

-- ---- sessions

-- a server session: its key and session number, the number of the message that made it, its unique number, its salts,
-- the first judgements of all numbers, all replies that it ever made, and what it numbered so far
pub record Session : Type 0 where
  pub key : ℕ
  pub number : ℕ
  pub first : ℕ
  pub unique : ℕ
  pub salts : Line
  pub history : History
  pub replies : List Reply
  pub counters : Counters

-- the mark of an answered call, by what became of its reply
abbrev pub answered_mark : Bool → Fate → Mark
answered_mark good IsKept = Replied good
answered_mark good WasAcked = Acked good
answered_mark good WasDropped = Dropped good

-- the mark of an accepted message that is no container, by the reply to it where there is one
abbrev pub mark_by : Mark → Option Reply → Mark
mark_by unanswered None = unanswered
mark_by unanswered (Some reply) = answered_mark (is_good reply.content) reply.fate

abbrev pub reply_to : ℕ → List Reply → Option Reply
reply_to call replies = find (λ reply. reply.call == call) replies

-- how far the message of a judgement is
abbrev pub mark_after : List Reply → ℕ → Outcome → Mark
mark_after replies number (Refused code) = Noticed code
mark_after replies number AcceptedContainer = Container
mark_after replies number AcceptedCall = mark_by Waiting (reply_to number replies)
mark_after replies number AcceptedOther = mark_by Service (reply_to number replies)

abbrev pub marks_of : History → List Reply → Marks
marks_of history replies = map (λ judgement. (judgement.number, mark_after replies judgement.number judgement.outcome)) history

-- what judging looks at
abbrev pub remembered : Session → Remembered
remembered session = record { history = session.history; marks = marks_of session.history session.replies }

-- the mark of a number, where it is kept
abbrev pub mark_in : Session → ℕ → Option Mark
mark_in session number = found number session.history (marks_of session.history session.replies)

-- it has accepted a message
abbrev pub has_accepted : Session → Bool
has_accepted session = was_heard session.history

-- ---- names

-- which session it is: there is one at most of each name
pub record Name : Type 0 where
  pub key : ℕ
  pub session : ℕ

abbrev pub name_of : Session → Name
name_of session = record { key = session.key; session = session.number }

abbrev pub is_same : Name → Name → Bool
is_same one other = (one.key == other.key) && (one.session == other.session)

abbrev pub is_named : Name → Session → Bool
is_named name session = is_same name (name_of session)

abbrev pub session_named : Name → List Session → Option Session
session_named name sessions = find (is_named name) sessions

abbrev pub without_session : Name → List Session → List Session
without_session name sessions = filter (λ session. not (is_named name session)) sessions

-- the sessions where that of this name is now this one
abbrev pub with_session : Session → List Session → List Session
with_session session sessions = map (λ other. if is_named (name_of session) other then session else other) sessions

-- ---- the server

-- a binding of a temporary key to a permanent one, there while the moment is below `expires`
pub record Binding : Type 0 where
  pub temp : ℕ
  pub perm : ℕ
  pub expires : ℕ

-- a server: the greatest moment that it was given, its sessions, the one heard least recently first, the unfinished
-- jobs in order of acceptance, and the bindings
pub record Server : Type 0 where
  pub now : ℕ
  pub sessions : List Session
  pub jobs : Queue
  pub bindings : List Binding

-- most sessions
abbrev pub sessions_max : ℕ
sessions_max = 256

abbrev pub fresh_server : Server
fresh_server = record { now = 0; sessions = []; jobs = []; bindings = [] }
