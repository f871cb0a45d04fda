-- How a server of the definitions stands in a world of the law on moves. A server session is told there by its unique
-- number.
use Rattle.std.specs.Prelude.{◌≡◌, ◌≢◌, ◌≤◌, ◌<◌, ◌^◌, ◌⊎◌, ⊤, ℕ, ◌==◌, ◌&&◌, Bool, true, false, Option, Some, None, List, [], ◌∷◌, ◌++◌, map, reverse}
use Rattle.std.specs.List.{AllByRecursion, Contains, list_any}
use Rattle.salt_line.specs.Rows.{Row}
use Rattle.service_tl.specs.Codes.{salt_code}
use Rattle.service_tl.specs.declared.lists.Message.{Message}
use Rattle.inbox.specs.Kinds.{item_told}
use Rattle.law_server.specs.Lives.{Acceptance, request_of}
use Rattle.law_client.specs.Sent.{WasSent}
use Rattle.id_window.specs.History.{History, FirstJudgement, Outcome, Refused, floor}
use Rattle.waits.specs.declared.job.Unfinished.{Unfinished}
use Rattle.waits.specs.Jobs.{Queue, is_of}
use Rattle.inbox.specs.Refusals.{Way}
use Rattle.server_rules.specs.Answer.{message_in, messages_judged}
use Rattle.server_rules.specs.Event.{Entry, Envelope}
use Rattle.server_rules.specs.Server.{Fate, IsKept, Reply, Session, WasDropped}
use Rattle.law_moves.specs.Table as moves
use Rattle.law_moves.specs.Table.Outcome.{AcceptedCall, Noticed}
use Rattle.law_moves.specs.Table.Status.{Unmade, Standing, Lost}
use Rattle.law_moves.specs.World.{World, IsAccepted}
use Rattle.law_moves.specs.Lawful.{HasReply, WasNoCall}

-- ---- what came to a session

-- the number was judged
abbrev pub WasJudged : ℕ → History → Type 0
WasJudged number history = (judgement : FirstJudgement) × Contains history judgement × (judgement.number ≡ number)

-- the session has this outcome there: the notice of that code, or it accepted the message as some call or none
abbrev pub IsOutcomeThere : moves.ServerSession → ℕ → Outcome → Type 0
IsOutcomeThere there number (Refused code) = Contains there.judged (record { number = number; outcome = Noticed code })
IsOutcomeThere there number _ =
    (outcome : moves.Outcome) × Contains there.judged (record { number = number; outcome = outcome }) × IsAccepted outcome

-- ---- what it answered

-- the number has a reply
abbrev pub WasAnswered : ℕ → List Reply → Type 0
WasAnswered number replies = (reply : Reply) × Contains replies reply × (reply.call ≡ number)

-- a reply is that of an entry, or is to a message that is no call
abbrev pub IsReplyThere : World → Session → Reply → Type 0
IsReplyThere w session reply =
    HasReply w.entries session.unique reply.call reply.content ⊎ WasNoCall w.ups session.number reply.call

-- ---- what it forgot

-- it was dropped, and not acknowledged
abbrev pub is_dropped : Fate → Bool
is_dropped WasDropped = true
is_dropped _ = false

abbrev pub has_dropped : ℕ → List Reply → Bool
has_dropped number replies = list_any (λ reply. (reply.call == number) && is_dropped reply.fate) replies

-- the number isn't above the floor, or its reply was dropped
abbrev pub HasForgotten : ℕ → Session → Type 0
HasForgotten number session =
    (number ≤ floor session.history)
    ⊎ (has_dropped number session.replies ≡ true)

-- ---- a session

-- It was made: its session number, its salts, the one drawn last first, and numbers that it has forgotten.
pub record IsMade (w : World) (session : Session) : Type 0 where
  pub number : (w.servers session.unique).session ≡ session.number
  pub salts : (w.servers session.unique).salts ≡ reverse (map (λ row. row.word) session.salts.rows)
  pub forgotten : AllByRecursion (λ number. HasForgotten number session) (w.servers session.unique).forgotten

-- It stands: what it judged was judged there, and nothing else; each entry there has its reply.
pub record IsStanding (w : World) (session : Session) : Type 0 where
  pub made : IsMade w session
  pub stands : (w.servers session.unique).status ≡ Standing
  pub judged : AllByRecursion (λ judgement. IsOutcomeThere (w.servers session.unique) judgement.number judgement.outcome) session.history
  pub known : AllByRecursion (λ judged. WasJudged judged.number session.history) (w.servers session.unique).judged
  pub replies : AllByRecursion (IsReplyThere w session) session.replies
  pub entries : AllByRecursion (λ entry. entry.server ≡ session.unique → WasAnswered entry.number session.replies) w.entries

-- it was lost at some time
pub record IsLost (w : World) (session : Session) : Type 0 where
  pub made : IsMade w session
  pub at : ℕ
  pub lost : (w.servers session.unique).status ≡ Lost at

-- a job of the session's is a call that was accepted there
abbrev pub IsJobThere : World → Session → Unfinished → Type 0
IsJobThere w session one =
    is_of session.key session.number one ≡ true
    → Contains (w.servers session.unique).judged (record { number = one.job.number; outcome = AcceptedCall one.job.request })

-- ---- a server

-- no two sessions have one session number
abbrev pub AreApart : List Session → Type 0
AreApart [] = ⊤
AreApart (session ∷ sessions) = AllByRecursion (λ other. other.number ≢ session.number) sessions × AreApart sessions

-- a session of this unique number is among these
abbrev pub IsOneOf : ℕ → List Session → Type 0
IsOneOf unique sessions = (session : Session) × Contains sessions session × (session.unique ≡ unique)

-- what is behind a server: the sessions that were lost in all its starts, each as it was last, and all that it entered in
-- them, in order
pub record Past : Type 0 where
  pub lost : List Session
  pub entries : List Entry

-- the sessions that were ever made
abbrev pub lives_of : Past → List Session → List Session
lives_of past sessions = past.lost ++ sessions

-- An entry is that one there: its life, which is told there by its unique number, has the entry's key and session number, and
-- they have the same number, request and reply.
pub record IsEntered (lives : List Session) (entry : Entry) (there : moves.Entry) : Type 0 where
  pub life : Session
  pub among : Contains lives life
  pub unique : life.unique ≡ there.server
  pub key : life.key ≡ entry.key
  pub session : life.number ≡ entry.session
  pub number : there.number ≡ entry.number
  pub request : there.request ≡ entry.request
  pub reply : there.reply ≡ entry.reply

-- one for one, the last one first
abbrev pub AreEntered : List Session → List Entry → List moves.Entry → Type 0
AreEntered lives [] [] = ⊤
AreEntered lives [] (there ∷ others) = ⊥
AreEntered lives (entry ∷ entries) [] = ⊥
AreEntered lives (entry ∷ entries) (there ∷ others) = IsEntered lives entry there × AreEntered lives entries others

-- The server stands there with its sessions and jobs and what is behind it: no other sessions were made, and what was entered
-- is what was executed there, one for one.
pub record ServerStands (w : World) (past : Past) (sessions : List Session) (jobs : Queue) : Type 0 where
  pub standing : AllByRecursion (IsStanding w) sessions
  pub working : AllByRecursion (λ session. AllByRecursion (IsJobThere w session) jobs) sessions
  pub gone : AllByRecursion (IsLost w) past.lost
  pub apart : AreApart sessions
  pub only : (unique : ℕ) → (w.servers unique).status ≢ Unmade → IsOneOf unique (lives_of past sessions)
  pub entered : AreEntered (lives_of past sessions) (reverse past.entries) w.entries

-- more sessions were lost, and more was entered
abbrev pub with_lost : List Session → Past → Past
with_lost more past = record past { lost = past.lost ++ more }

abbrev pub with_entries : List Entry → Past → Past
with_entries more past = record past { entries = past.entries ++ more }

-- ---- what changes one session

-- a word that no server session has as a salt
abbrev pub IsNewSalt : World → ℕ → Type 0
IsNewSalt w word = (word ≢ 0) × ((unique : ℕ) → Contains (w.servers unique).salts word → ⊥)

-- the session with one more row of salts, and with this history
abbrev pub with_row : Row → Session → Session
with_row row session = record session { salts = record session.salts { rows = session.salts.rows ++ row ∷ [] } }

-- the words of these rows are such, and differ
abbrev pub AreNewSalts : World → List Row → Type 0
AreNewSalts w [] = ⊤
AreNewSalts w (row ∷ rows) = IsNewSalt w row.word × AllByRecursion (λ other. other.word ≢ row.word) rows × AreNewSalts w rows

abbrev pub with_rows : List Row → Session → Session
with_rows rows session = record session { salts = record session.salts { rows = session.salts.rows ++ rows } }

abbrev pub with_history : History → Session → Session
with_history history session = record session { history = history }

-- an outcome there is as that of a judgement: the notice of its code, or some acceptance
abbrev pub IsSuch : Outcome → moves.Outcome → Type 0
IsSuch (Refused code) there = there ≡ Noticed code
IsSuch _ there = IsAccepted there

-- ---- replies that stay what they are

-- one of these is to the same call, with the same content
abbrev pub HasSame : List Reply → Reply → Type 0
HasSame replies reply = (other : Reply) × Contains replies other × (other.call ≡ reply.call) × (other.content ≡ reply.content)

-- These replies became those, which differ from them in what became of each alone; one that was dropped stays so.
pub record GoOn (old new : List Reply) : Type 0 where
  pub from : AllByRecursion (HasSame old) new
  pub all : AllByRecursion (HasSame new) old
  pub dropped : (number : ℕ) → has_dropped number old ≡ true → has_dropped number new ≡ true

abbrev pub with_replies : List Reply → Session → Session
with_replies replies session = record session { replies = replies }

-- ---- jobs that stay what they are

-- one of these is the same call
abbrev pub IsJobOf : Queue → Unfinished → Type 0
IsJobOf jobs one =
    (other : Unfinished)
    × Contains jobs other
    × (other.job.key ≡ one.job.key)
    × (other.job.session ≡ one.job.session)
    × (other.job.number ≡ one.job.number)
    × (other.job.request ≡ one.job.request)

-- ---- what a session may say

-- a row of the session's has this salt
abbrev pub HasSalt : Session → ℕ → Type 0
HasSalt session salt = (row : Row) × Contains session.salts.rows row × (row.word ≡ salt)

-- it noticed the number with this code
abbrev pub HasNoticed : Session → ℕ → ℕ → Type 0
HasNoticed session number code =
    (judgement : FirstJudgement) × Contains session.history judgement × (judgement.number ≡ number) × (judgement.outcome ≡ Refused code)

-- the number, which fits its place, was given to a message that is no call
pub record IsNoCall (ups : List moves.Message) (session number : ℕ) : Type 0 where
  pub fits : number < 2 ^ 64
  pub given : WasNoCall ups session number

-- By what it has itself: its unique number and salts, its replies, what it noticed, for notice 20 a number that it has
-- forgotten there, and of a message that is no call any notice whose code fits its place.
abbrev pub CanSay : World → Session → moves.Item → Type 0
CanSay w session (moves.Item.NewSession unique salt) = (unique ≡ session.unique) × HasSalt session salt
CanSay w session (moves.Item.Result call content) = HasSame session.replies (record { call = call; number = 0; seq = 0; content = content; fate = IsKept })
CanSay w session (moves.Item.Notice number code) =
    HasNoticed session number code
    ⊎ ((code ≡ 20) × Contains (w.servers session.unique).forgotten number)
    ⊎ ((code < 2 ^ 32) × IsNoCall w.ups session.number number)
CanSay w session (moves.Item.WrongSalt number salt) = HasNoticed session number salt_code × HasSalt session salt

-- ---- what comes up

-- a message that a server may judge was sent: under this session number and salt, as the call that its body asks for, or none;
-- and its number fits its place
abbrev pub IsUp : List moves.Message → ℕ → ℕ → Message → Type 0
IsUp ups session salt message = (message.number < 2 ^ 64) × WasSent ups session salt message.number (request_of (item_told message.body) message.body)

-- whatever a server judges of a packet was sent so
abbrev pub IsPacketUp : List moves.Message → Envelope → Type 0
IsPacketUp ups envelope =
    (way : Way) (session : Session) → AllByRecursion (IsUp ups envelope.session envelope.salt) (messages_judged way session (message_in envelope))

-- what a number that was accepted is there: the call that is asked for, or a message that is no call
abbrev pub AsksThere : World → Session → ℕ → Option (List ℕ) → Type 0
AsksThere w session number (Some request) =
    Contains (w.servers session.unique).judged (record { number = number; outcome = AcceptedCall request })
AsksThere w session number None = WasNoCall w.ups session.number number

abbrev pub IsAcceptedThere : World → Session → Acceptance → Type 0
IsAcceptedThere w session one = AsksThere w session one.number (request_of one.item one.body)
