-- How an item is spelt, and which items are written: all by the rows of the schema.
use Rattle.std.specs.Prelude.{◌≤◌, ℕ, List, [], ◌∷◌, ◌++◌, length, Option, Some, None, ⊤}
use Rattle.tl_codec.specs.Standard.{bytes_max, longs_max}
use Rattle.tl_codec.specs.Spelling.{Int, Bytes, Longs, spelling}
use Rattle.service_tl.specs.declared.item.Item.{Item}
use Rattle.service_tl.specs.declared.item.Item.TheVariants.{RpcResult, RpcError, RpcDropAnswer, RpcAnswerUnknown, RpcAnswerDroppedRunning, RpcAnswerDropped, GetFutureSalts, FutureSalts, Ping, PingDelayDisconnect, Pong, DestroySession, DestroySessionOk, DestroySessionNone, NewSessionCreated, MsgContainer, MsgsAck, MsgsStateReq, MsgsStateInfo, MsgsAllInfo, MsgResendReq, MsgDetailedInfo, MsgNewDetailedInfo, BadMsgNotification, BadServerSalt, InvokeAfterMsg, InvokeAfterMsgs, AuthBindTempAuthKey, Packed, Call, Broken}
use Rattle.service_tl.specs.Fields.{Field, Plain, Holds, FieldFits, field_spelling}
use Rattle.service_tl.specs.Schema.{Makes, Row, rpc_result, rpc_error, rpc_drop_answer, rpc_answer_unknown, rpc_answer_dropped_running, rpc_answer_dropped, get_future_salts, future_salts, ping, ping_delay_disconnect, pong, destroy_session, destroy_session_ok, destroy_session_none, new_session_created, msg_container, msgs_ack, msgs_state_req, msgs_state_info, msgs_all_info, msg_resend_req, msg_detailed_info, msg_new_detailed_info, bad_msg_notification, bad_server_salt, invoke_after_msg, invoke_after_msgs, auth_bind_temp_auth_key}

-- the values of fields, in their order
abbrev pub Values : List Field → Type 0
Values [] = Unit {0}
Values (field ∷ fields) = Holds field × Values fields

-- the item that they make
abbrev pub made : (fields : List Field) → Makes fields → Values fields → Item
made [] item values = item
made (field ∷ fields) item values = made fields (item values.0) values.1

-- a row of the schema with a value for each field
pub record Filled : Type 0 where
  pub row : Row
  pub values : Values row.fields

abbrev pub of : (row : Row) → Values row.fields → Option Filled
of row values = Some (record { row = row; values = values })

-- The row that an item is made by, and its values. What isn't read has none.
abbrev pub filled : Item → Option Filled
filled (RpcResult req_msg_id result) = of rpc_result (req_msg_id, (result, tt))
filled (RpcError error_code error_message) = of rpc_error (error_code, (error_message, tt))
filled (RpcDropAnswer req_msg_id) = of rpc_drop_answer (req_msg_id, tt)
filled RpcAnswerUnknown = of rpc_answer_unknown tt
filled RpcAnswerDroppedRunning = of rpc_answer_dropped_running tt
filled (RpcAnswerDropped msg_id seq_no bytes) = of rpc_answer_dropped (msg_id, (seq_no, (bytes, tt)))
filled (GetFutureSalts num) = of get_future_salts (num, tt)
filled (FutureSalts req_msg_id now salts) = of future_salts (req_msg_id, (now, (salts, tt)))
filled (Ping ping_id) = of ping (ping_id, tt)
filled (PingDelayDisconnect ping_id disconnect_delay) = of ping_delay_disconnect (ping_id, (disconnect_delay, tt))
filled (Pong msg_id ping_id) = of pong (msg_id, (ping_id, tt))
filled (DestroySession session_id) = of destroy_session (session_id, tt)
filled (DestroySessionOk session_id) = of destroy_session_ok (session_id, tt)
filled (DestroySessionNone session_id) = of destroy_session_none (session_id, tt)
filled (NewSessionCreated first_msg_id unique_id server_salt) = of new_session_created (first_msg_id, (unique_id, (server_salt, tt)))
filled (MsgContainer messages) = of msg_container (messages, tt)
filled (MsgsAck msg_ids) = of msgs_ack (msg_ids, tt)
filled (MsgsStateReq msg_ids) = of msgs_state_req (msg_ids, tt)
filled (MsgsStateInfo req_msg_id info) = of msgs_state_info (req_msg_id, (info, tt))
filled (MsgsAllInfo msg_ids info) = of msgs_all_info (msg_ids, (info, tt))
filled (MsgResendReq msg_ids) = of msg_resend_req (msg_ids, tt)
filled (MsgDetailedInfo msg_id answer_msg_id bytes status) = of msg_detailed_info (msg_id, (answer_msg_id, (bytes, (status, tt))))
filled (MsgNewDetailedInfo answer_msg_id bytes status) = of msg_new_detailed_info (answer_msg_id, (bytes, (status, tt)))
filled (BadMsgNotification bad_msg_id bad_msg_seqno error_code) = of bad_msg_notification (bad_msg_id, (bad_msg_seqno, (error_code, tt)))
filled (BadServerSalt bad_msg_id bad_msg_seqno error_code new_server_salt) = of bad_server_salt (bad_msg_id, (bad_msg_seqno, (error_code, (new_server_salt, tt))))
filled (InvokeAfterMsg msg_id query) = of invoke_after_msg (msg_id, (query, tt))
filled (InvokeAfterMsgs msg_ids query) = of invoke_after_msgs (msg_ids, (query, tt))
filled (AuthBindTempAuthKey perm_auth_key_id nonce expires_at encrypted_message) = of auth_bind_temp_auth_key (perm_auth_key_id, (nonce, (expires_at, (encrypted_message, tt))))
filled Packed = None
filled Call = None
filled (Broken number) = None

-- an item of the schema is none of these three
abbrev pub IsOfSchema : Item → Type 0
IsOfSchema Packed = ⊥
IsOfSchema Call = ⊥
IsOfSchema (Broken number) = ⊥
IsOfSchema other = ⊤

-- ---- the spelling

-- fields, one after the other
abbrev pub fields_spelling : (fields : List Field) → Values fields → List ℕ
fields_spelling [] values = []
fields_spelling (field ∷ fields) values = field_spelling field values.0 ++ fields_spelling fields values.1

-- the row's number, and then its fields
abbrev pub filled_spelling : Option Filled → List ℕ
filled_spelling (Some filled) = spelling Int filled.row.number ++ fields_spelling filled.row.fields filled.values
filled_spelling None = []

abbrev pub spelling_of : Item → List ℕ
spelling_of item = filled_spelling (filled item)

-- ---- which items have a spelling that is read again: each value fits its field

abbrev pub FieldsFit : (fields : List Field) → Values fields → Type 0
FieldsFit [] values = ⊤
FieldsFit (field ∷ fields) values = FieldFits field values.0 × FieldsFit fields values.1

abbrev pub FilledFits : Option Filled → Type 0
FilledFits (Some filled) = FieldsFit filled.row.fields filled.values
FilledFits None = ⊥

abbrev pub ItemFits : Item → Type 0
ItemFits item = FilledFits (filled item)

-- ---- which items a writer takes: of those of the schema all whose strings and lists of numbers aren't
-- ---- too long, since a program's numbers fit by their types

abbrev pub IsShort : (field : Field) → Holds field → Type 0
IsShort (Plain Bytes) content = length content ≤ bytes_max
IsShort (Plain Longs) numbers = length numbers ≤ longs_max
IsShort other value = ⊤

abbrev pub AreShort : (fields : List Field) → Values fields → Type 0
AreShort [] values = ⊤
AreShort (field ∷ fields) values = IsShort field values.0 × AreShort fields values.1

abbrev pub FilledIsWritable : Option Filled → Type 0
FilledIsWritable (Some filled) = AreShort filled.row.fields filled.values
FilledIsWritable None = ⊥

abbrev pub IsWritable : Item → Type 0
IsWritable item = FilledIsWritable (filled item)
