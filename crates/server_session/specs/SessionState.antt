-- One session of a server, as it is kept: what it stands for.
use Rattle.std.specs.Prelude.{◌≡◌, ◌≤◌, ℕ, Option, Some, None, length}
use Rattle.msg_ids.specs.Counters.{room}
use Rattle.salt_line.specs.Line.{Stands as LineStands}
use Rattle.inbox.specs.Inbox.{Stands as InboxStands}
use Rattle.outbox.specs.declared.kept.Kept.{Kept}
use Rattle.outbox.specs.Replies.{Contents, by_call}
use Rattle.server_rules.specs.Server.{Session, kept_replies, marks_of}
use Rattle.server_session.specs.declared.session.SessionState.{SessionState}

-- It stands for a session of a server whose moment this is.
pub record Stands (now : ℕ) (standing : SessionState) (session : Session) : Type 0 where
  -- its key, its number, the number of the message that made it, and its unique number are the session's
  pub key : standing.key ≡ session.key
  pub number : standing.number ≡ session.number
  pub first : standing.first ≡ session.first
  pub unique : standing.unique ≡ session.unique
  -- its salts are the session's, and were needed at no later moment
  pub salts : LineStands standing.salts session.salts
  pub latest : standing.salts.latest ≤ now
  -- it knows of the session's history what isn't forgotten, with the marks that follow from the replies
  pub inbox : InboxStands standing.inbox session.history (marks_of session.history session.replies)
  -- it keeps the replies that are kept
  pub outbox : standing.outbox.replies ≡ kept_replies session.replies
  -- it has numbered as many messages
  pub counters : standing.numbers ≡ session.counters

-- for how many further messages it has numbers
abbrev pub numbers_left : SessionState → ℕ
numbers_left standing = room standing.numbers

-- the replies that it keeps, and how many further ones it can keep without memory
abbrev pub outbox_of : SessionState → Contents
outbox_of standing = standing.outbox

abbrev pub replies_left : SessionState → ℕ
replies_left standing = standing.outbox.room

-- how many bytes the body of the kept reply to a call has; none where none is kept
abbrev pub body_bytes : Option Kept → ℕ
body_bytes None = 0
body_bytes (Some kept) = length kept.body

abbrev pub reply_bytes : ℕ → SessionState → ℕ
reply_bytes call standing = body_bytes (by_call call standing.outbox.replies)

-- its salts were needed at no later moment than this
abbrev pub IsAt : ℕ → SessionState → Type 0
IsAt now standing = standing.salts.latest ≤ now

-- the key that it is a session of, and its number there
abbrev pub key_of : SessionState → ℕ
key_of standing = standing.key

abbrev pub number_of : SessionState → ℕ
number_of standing = standing.number
