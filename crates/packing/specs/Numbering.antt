-- The numbers that a server gives to its messages (core.telegram.org/mtproto/description, "Message Identifier" and
-- "Message Sequence Number").
use Rattle.std.specs.Prelude.{ℕ, ◌+◌, Bool, true, false}
use Rattle.msg_ids.specs.Counters.{Counters, next_number, seq_of, after_next}
use Rattle.service_tl.specs.declared.item.Item.{Item}
use Rattle.service_tl.specs.declared.item.Item.TheVariants.{RpcResult, FutureSalts, Pong, DestroySessionOk, DestroySessionNone, NewSessionCreated, MsgsStateInfo, BadMsgNotification, BadServerSalt}
use Rattle.service_tl.specs.declared.lists.Message.{Message}
use Rattle.service_tl.specs.Items.{spelling_of}

-- "server message identifiers modulo 4 yield 1 if the message is a response to a client message"
abbrev pub response_addition : ℕ
response_addition = 1

-- "and 3 otherwise"
abbrev pub other_addition : ℕ
other_addition = 3

-- the responses, notices about a client's message among them
abbrev pub addition : Item → ℕ
addition (RpcResult req_msg_id result) = response_addition
addition (Pong msg_id ping_id) = response_addition
addition (FutureSalts req_msg_id now salts) = response_addition
addition (MsgsStateInfo req_msg_id info) = response_addition
addition (DestroySessionOk session_id) = response_addition
addition (DestroySessionNone session_id) = response_addition
addition (BadMsgNotification bad_msg_id bad_msg_seqno error_code) = response_addition
addition (BadServerSalt bad_msg_id bad_msg_seqno error_code new_server_salt) = response_addition
addition _ = other_addition

-- a message is content-related where it needs an acknowledgement: of a server's messages, results and
-- `new_session_created`
abbrev pub is_content_related : Item → Bool
is_content_related (RpcResult req_msg_id result) = true
is_content_related (NewSessionCreated first_msg_id unique_id server_salt) = true
is_content_related _ = false

-- the message that a server makes of an item at this moment; the counters keep the number without what is added
abbrev pub numbered : ℕ → Counters → Item → Message
numbered now counters item =
    record {
      number = next_number counters.last now + addition item;
      seq = seq_of counters.content_messages (is_content_related item);
      body = spelling_of item;
    }

abbrev pub after_item : ℕ → Counters → Item → Counters
after_item now counters item = after_next counters now (is_content_related item)
