-- What a session says in an event: messages with their numbers, and answers, which are kept.
use Rattle.std.specs.Prelude.{ℕ, ◌==◌, ◌&&◌, Bool, false, if◌then◌else◌, codes, List, [], ◌∷◌, ◌++◌, length}
use Rattle.std.specs.List.{list_any}
use Rattle.service_tl.specs.declared.lists.Message.{Message}
use Rattle.service_tl.specs.declared.item.Item.{Item}
use Rattle.service_tl.specs.declared.item.Item.TheVariants.{RpcResult, RpcError, NewSessionCreated}
use Rattle.service_tl.specs.Items.{spelling_of}
use Rattle.salt_line.specs.Line.{line_after, draw_after_rows, current_salt}
use Rattle.packing.specs.Numbering.{numbered, after_item}
use Rattle.outbox.specs.Replies.{fits}
use Rattle.server_rules.specs.Server.{Reply, IsKept, WasDropped, is_kept, kept_of, kept_replies, name_of, is_same}
use Rattle.server_rules.specs.Event.{Setting, Speaker}

-- ---- messages

-- the message is owed
abbrev pub owes_message : {S : Type 0} → Message → Speaker S → Speaker S
owes_message message speaker =
    record speaker { owed = speaker.owed ++ record { name = name_of speaker.session; message = message } ∷ [] }

-- it says an item, under its next number
abbrev pub says : {S : Type 0} → Setting S → Item → Speaker S → Speaker S
says setting item speaker =
    owes_message (numbered setting.now speaker.session.counters item)
    (record speaker { session = record speaker.session { counters = after_item setting.now speaker.session.counters item } })

-- it has said the message of this number in this event
abbrev pub has_said : {S : Type 0} → ℕ → Speaker S → Bool
has_said number speaker =
    list_any (λ owed. is_same owed.name (name_of speaker.session) && (owed.message.number == number)) speaker.owed

abbrev pub message_of : Reply → Message
message_of reply = record { number = reply.number; seq = reply.seq; body = (kept_of reply).body }

-- it says a kept reply, under the reply's own number, unless it said so in this event
abbrev pub says_again : {S : Type 0} → Reply → Speaker S → Speaker S
says_again reply speaker = if has_said reply.number speaker then speaker else owes_message (message_of reply) speaker

-- ---- salts

-- it needs so many salts from the current one on: words that weren't needed before are drawn
abbrev pub needs_salts : {S : Type 0} → Setting S → ℕ → Speaker S → Speaker S
needs_salts setting count speaker =
    record speaker {
      session = record speaker.session { salts = line_after setting.step setting.now count speaker.session.salts speaker.draw };
      draw = draw_after_rows setting.step setting.now count speaker.session.salts speaker.draw;
    }

-- it says an item that has its current salt
abbrev pub says_with_salt : {S : Type 0} → Setting S → (ℕ → Item) → Speaker S → Speaker S
says_with_salt setting item speaker =
    let ready = needs_salts setting 1 speaker in
    says setting (item (current_salt ready.session.salts setting.now)) ready

-- "the server has begun a new session": said in each event as long as the session has accepted nothing
abbrev pub says_it_is_new : {S : Type 0} → Setting S → Speaker S → Speaker S
says_it_is_new setting speaker =
    says_with_salt setting (λ salt. NewSessionCreated speaker.session.first speaker.session.unique salt) speaker

-- ---- answers

-- a reply that was kept is dropped
abbrev pub dropped : Reply → Reply
dropped reply = if is_kept reply then record reply { fate = WasDropped } else reply

-- Room is made for a reply of so many bytes: a kept reply stays so where it and all that were made after it leave room
-- for this one, so the oldest are dropped.
abbrev pub made_room : ℕ → List Reply → List Reply
made_room bytes [] = []
made_room bytes (reply ∷ replies) =
    (if fits bytes (kept_replies (reply ∷ replies)) then reply else dropped reply) ∷ made_room bytes replies

-- the oldest kept reply is dropped: what making room does once, where a reply doesn't fit
abbrev pub without_oldest : List Reply → List Reply
without_oldest [] = []
without_oldest (reply ∷ replies) = if is_kept reply then dropped reply ∷ replies else reply ∷ without_oldest replies

-- a further reply is kept
abbrev pub with_reply : ℕ → List ℕ → Message → List Reply → List Reply
with_reply call content message replies =
    made_room (length message.body) replies
    ++ record { call = call; number = message.number; seq = message.seq; content = content; fate = IsKept } ∷ []

-- it answers a call with a content, and keeps the reply
abbrev pub answers : {S : Type 0} → Setting S → ℕ → List ℕ → Speaker S → Speaker S
answers setting call content speaker =
    let done = says setting (RpcResult call content) speaker in
    let message = numbered setting.now speaker.session.counters (RpcResult call content) in
    record done { session = record done.session { replies = with_reply call content message done.session.replies } }

-- the answer is recorded as that of the service, or as one in place of it
abbrev pub records : {S : Type 0} → Bool → ℕ → List ℕ → List ℕ → Speaker S → Speaker S
records ran call request content speaker =
    record speaker {
      entries =
          speaker.entries
          ++ record {
            key = speaker.session.key;
            session = speaker.session.number;
            number = call;
            request = request;
            reply = content;
            ran = ran;
          } ∷ [];
    }

abbrev pub answers_in_place : {S : Type 0} → Setting S → ℕ → List ℕ → List ℕ → Speaker S → Speaker S
answers_in_place setting call request content speaker = records false call request content (answers setting call content speaker)

-- ---- errors (core.telegram.org/mtproto/service_messages, "RPC Error"; the texts but AUTH_KEY_PERM_EMPTY and
-- ---- ENCRYPTED_MESSAGE_INVALID, core.telegram.org/method/auth.bindTempAuthKey, are this project's)

abbrev pub error : ℕ → List ℕ → List ℕ
error code text = spelling_of (RpcError code text)

abbrev pub packed_body_refused : List ℕ
packed_body_refused = error 400 (codes "PACKED_BODY_REFUSED")

abbrev pub bad_body : List ℕ
bad_body = error 400 (codes "BAD_BODY")

abbrev pub encrypted_message_invalid : List ℕ
encrypted_message_invalid = error 400 (codes "ENCRYPTED_MESSAGE_INVALID")

abbrev pub auth_key_perm_empty : List ℕ
auth_key_perm_empty = error 401 (codes "AUTH_KEY_PERM_EMPTY")

abbrev pub jobs_full : List ℕ
jobs_full = error 420 (codes "JOBS_FULL")

abbrev pub msg_wait_failed : List ℕ
msg_wait_failed = error 400 (codes "MSG_WAIT_FAILED")

abbrev pub msg_wait_timeout : List ℕ
msg_wait_timeout = error 400 (codes "MSG_WAIT_TIMEOUT")
