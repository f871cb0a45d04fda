-- The schema of the service items: of each constructor its number and its fields in order, under the
-- standard's own line. The numbers are the standard's, as they stand in its lines.
use Rattle.std.specs.Prelude.{ℕ, ◌==◌, if◌then◌else◌, List, [], ◌∷◌, ◌++◌, map, Option, Some, None, Result, Ok}
use Rattle.tl_codec.specs.declared.fault.TlFault.{TlFault}
use Rattle.tl_codec.specs.Spelling.{Int, Long, Bytes, Longs}
use Rattle.tl_codec.specs.Reading.{◌>>=◌}
use Rattle.service_tl.specs.declared.item.Item.{Item}
use Rattle.service_tl.specs.declared.item.Item.TheVariants.{RpcResult, RpcError, RpcDropAnswer, RpcAnswerUnknown, RpcAnswerDroppedRunning, RpcAnswerDropped, GetFutureSalts, FutureSalts, Ping, PingDelayDisconnect, Pong, DestroySession, DestroySessionOk, DestroySessionNone, NewSessionCreated, MsgContainer, MsgsAck, MsgsStateReq, MsgsStateInfo, MsgsAllInfo, MsgResendReq, MsgDetailedInfo, MsgNewDetailedInfo, BadMsgNotification, BadServerSalt, InvokeAfterMsg, InvokeAfterMsgs, AuthBindTempAuthKey}
use Rattle.service_tl.specs.Fields.{Field, Plain, Rest, Salts, Bodies, Holds, field_at}

-- what makes an item of its fields
abbrev pub Makes : List Field → Type 0
Makes [] = Item
Makes (field ∷ fields) = Holds field → Makes fields

-- a constructor's number, its fields in order, and the item that they make
pub record Row : Type 0 where
  pub number : ℕ
  pub fields : List Field
  pub item : Makes fields

abbrev pub row : ℕ → (fields : List Field) → Makes fields → Row
row number fields item = record { number = number; fields = fields; item = item }

-- ---- answers to calls: core.telegram.org/mtproto/service_messages, "Response to an RPC query",
-- ---- "RPC Error", "Cancellation of an RPC Query"

-- rpc_result#f35c6d01 req_msg_id:long result:Object = RpcResult
abbrev pub rpc_result : Row
rpc_result = row 0xf35c6d01 (Plain Long ∷ Rest ∷ []) RpcResult

-- rpc_error#2144ca19 error_code:int error_message:string = RpcError
abbrev pub rpc_error : Row
rpc_error = row 0x2144ca19 (Plain Int ∷ Plain Bytes ∷ []) RpcError

-- rpc_drop_answer#58e4a740 req_msg_id:long = RpcDropAnswer
abbrev pub rpc_drop_answer : Row
rpc_drop_answer = row 0x58e4a740 (Plain Long ∷ []) RpcDropAnswer

-- rpc_answer_unknown#5e2ad36e = RpcDropAnswer
abbrev pub rpc_answer_unknown : Row
rpc_answer_unknown = row 0x5e2ad36e [] RpcAnswerUnknown

-- rpc_answer_dropped_running#cd78e586 = RpcDropAnswer
abbrev pub rpc_answer_dropped_running : Row
rpc_answer_dropped_running = row 0xcd78e586 [] RpcAnswerDroppedRunning

-- rpc_answer_dropped#a43ad8b7 msg_id:long seq_no:int bytes:int = RpcDropAnswer
abbrev pub rpc_answer_dropped : Row
rpc_answer_dropped = row 0xa43ad8b7 (Plain Long ∷ Plain Int ∷ Plain Int ∷ []) RpcAnswerDropped

abbrev pub calls : List Row
calls = rpc_result ∷ rpc_error ∷ rpc_drop_answer ∷ rpc_answer_unknown ∷ rpc_answer_dropped_running ∷ rpc_answer_dropped ∷ []

-- ---- salts, pings and sessions: core.telegram.org/mtproto/service_messages, "Request for several
-- ---- future salts", "Ping Messages", "Request to Destroy Session", "New Session Creation Notification"

-- get_future_salts#b921bd04 num:int = FutureSalts
abbrev pub get_future_salts : Row
get_future_salts = row 0xb921bd04 (Plain Int ∷ []) GetFutureSalts

-- future_salts#ae500895 req_msg_id:long now:int salts:vector<future_salt> = FutureSalts
abbrev pub future_salts : Row
future_salts = row 0xae500895 (Plain Long ∷ Plain Int ∷ Salts ∷ []) FutureSalts

-- ping#7abe77ec ping_id:long = Pong
abbrev pub ping : Row
ping = row 0x7abe77ec (Plain Long ∷ []) Ping

-- ping_delay_disconnect#f3427b8c ping_id:long disconnect_delay:int = Pong
abbrev pub ping_delay_disconnect : Row
ping_delay_disconnect = row 0xf3427b8c (Plain Long ∷ Plain Int ∷ []) PingDelayDisconnect

-- pong#347773c5 msg_id:long ping_id:long = Pong
abbrev pub pong : Row
pong = row 0x347773c5 (Plain Long ∷ Plain Long ∷ []) Pong

-- destroy_session#e7512126 session_id:long = DestroySessionRes
abbrev pub destroy_session : Row
destroy_session = row 0xe7512126 (Plain Long ∷ []) DestroySession

-- destroy_session_ok#e22045fc session_id:long = DestroySessionRes
abbrev pub destroy_session_ok : Row
destroy_session_ok = row 0xe22045fc (Plain Long ∷ []) DestroySessionOk

-- destroy_session_none#62d350c9 session_id:long = DestroySessionRes
abbrev pub destroy_session_none : Row
destroy_session_none = row 0x62d350c9 (Plain Long ∷ []) DestroySessionNone

-- new_session_created#9ec20908 first_msg_id:long unique_id:long server_salt:long = NewSession
abbrev pub new_session_created : Row
new_session_created = row 0x9ec20908 (Plain Long ∷ Plain Long ∷ Plain Long ∷ []) NewSessionCreated

abbrev pub sessions : List Row
sessions = get_future_salts ∷ future_salts ∷ ping ∷ ping_delay_disconnect ∷ pong ∷ destroy_session ∷ destroy_session_ok ∷ destroy_session_none ∷ new_session_created ∷ []

-- ---- containers: core.telegram.org/mtproto/service_messages, "Containers"; acknowledgements and
-- ---- states: core.telegram.org/mtproto/service_messages_about_messages

-- msg_container#73f1f8dc messages:vector<%Message> = MessageContainer
abbrev pub msg_container : Row
msg_container = row 0x73f1f8dc (Bodies ∷ []) MsgContainer

-- msgs_ack#62d6b459 msg_ids:Vector long = MsgsAck
abbrev pub msgs_ack : Row
msgs_ack = row 0x62d6b459 (Plain Longs ∷ []) MsgsAck

-- msgs_state_req#da69fb52 msg_ids:Vector long = MsgsStateReq
abbrev pub msgs_state_req : Row
msgs_state_req = row 0xda69fb52 (Plain Longs ∷ []) MsgsStateReq

-- msgs_state_info#04deb57d req_msg_id:long info:string = MsgsStateInfo
abbrev pub msgs_state_info : Row
msgs_state_info = row 0x04deb57d (Plain Long ∷ Plain Bytes ∷ []) MsgsStateInfo

-- msgs_all_info#8cc0d131 msg_ids:Vector long info:string = MsgsAllInfo
abbrev pub msgs_all_info : Row
msgs_all_info = row 0x8cc0d131 (Plain Longs ∷ Plain Bytes ∷ []) MsgsAllInfo

-- msg_resend_req#7d861a08 msg_ids:Vector long = MsgResendReq
abbrev pub msg_resend_req : Row
msg_resend_req = row 0x7d861a08 (Plain Longs ∷ []) MsgResendReq

abbrev pub lists : List Row
lists = msg_container ∷ msgs_ack ∷ msgs_state_req ∷ msgs_state_info ∷ msgs_all_info ∷ msg_resend_req ∷ []

-- ---- notices about one message: core.telegram.org/mtproto/service_messages_about_messages

-- msg_detailed_info#276d3ec6 msg_id:long answer_msg_id:long bytes:int status:int = MsgDetailedInfo
abbrev pub msg_detailed_info : Row
msg_detailed_info = row 0x276d3ec6 (Plain Long ∷ Plain Long ∷ Plain Int ∷ Plain Int ∷ []) MsgDetailedInfo

-- msg_new_detailed_info#809db6df answer_msg_id:long bytes:int status:int = MsgDetailedInfo
abbrev pub msg_new_detailed_info : Row
msg_new_detailed_info = row 0x809db6df (Plain Long ∷ Plain Int ∷ Plain Int ∷ []) MsgNewDetailedInfo

-- bad_msg_notification#a7eff811 bad_msg_id:long bad_msg_seqno:int error_code:int = BadMsgNotification
abbrev pub bad_msg_notification : Row
bad_msg_notification = row 0xa7eff811 (Plain Long ∷ Plain Int ∷ Plain Int ∷ []) BadMsgNotification

-- bad_server_salt#edab447b bad_msg_id:long bad_msg_seqno:int error_code:int new_server_salt:long = BadMsgNotification
abbrev pub bad_server_salt : Row
bad_server_salt = row 0xedab447b (Plain Long ∷ Plain Int ∷ Plain Int ∷ Plain Long ∷ []) BadServerSalt

abbrev pub notices : List Row
notices = msg_detailed_info ∷ msg_new_detailed_info ∷ bad_msg_notification ∷ bad_server_salt ∷ []

-- ---- queries after other messages: core.telegram.org/api/invoking; the binding of temporary keys:
-- ---- core.telegram.org/method/auth.bindTempAuthKey

-- invokeAfterMsg#cb9f372d {X:Type} msg_id:long query:!X = X
abbrev pub invoke_after_msg : Row
invoke_after_msg = row 0xcb9f372d (Plain Long ∷ Rest ∷ []) InvokeAfterMsg

-- invokeAfterMsgs#3dc4b4f0 {X:Type} msg_ids:Vector<long> query:!X = X
abbrev pub invoke_after_msgs : Row
invoke_after_msgs = row 0x3dc4b4f0 (Plain Longs ∷ Rest ∷ []) InvokeAfterMsgs

-- auth.bindTempAuthKey#cdd42a05 perm_auth_key_id:long nonce:long expires_at:int encrypted_message:bytes = Bool
abbrev pub auth_bind_temp_auth_key : Row
auth_bind_temp_auth_key = row 0xcdd42a05 (Plain Long ∷ Plain Long ∷ Plain Int ∷ Plain Bytes ∷ []) AuthBindTempAuthKey

abbrev pub wrappers : List Row
wrappers = invoke_after_msg ∷ invoke_after_msgs ∷ auth_bind_temp_auth_key ∷ []

-- ---- the whole

unfoldable pub schema : List Row
schema = calls ++ (sessions ++ (lists ++ (notices ++ wrappers)))

-- gzip_packed#3072cfa1 packed_data:string = Object, which isn't read: core.telegram.org/mtproto/service_messages, "Packed Object"
abbrev pub gzip_packed : ℕ
gzip_packed = 0x3072cfa1

-- the constructors of the service items
unfoldable pub service_numbers : List ℕ
unfolding schema
service_numbers = map (λ row. row.number) schema ++ gzip_packed ∷ []

-- ---- reading

-- the fields at the front of a text make an item
abbrev pub fields_at : (fields : List Field) → Makes fields → List ℕ → Result (Item × List ℕ) TlFault
fields_at [] item text = Ok (item, text)
fields_at (field ∷ fields) item text = field_at field text >>= λ value. fields_at fields (item value.0) value.1

-- the item behind its constructor and the text after it; none where no row has that constructor
abbrev pub item_in : List Row → ℕ → List ℕ → Result (Option Item × List ℕ) TlFault
item_in [] number text = Ok (None, text)
item_in (row ∷ rows) number text =
    if number == row.number then (fields_at row.fields row.item text >>= λ item. Ok (Some item.0, item.1)) else item_in rows number text
