-- What each short answer says.
use Rattle.std.specs.Prelude.{ℕ, List}
use Rattle.service_tl.specs.declared.item.Item.TheVariants.{RpcAnswerUnknown}
use Rattle.service_tl.specs.Items.{spelling_of}
use Rattle.server_rules.specs.Speaking as speaking
use Rattle.server_rules.specs.Calls as calls
use Rattle.server_dispatch.specs.declared.short.Short.{Short}
use Rattle.server_dispatch.specs.declared.short.Short.TheVariants.{PackedBodyRefused, BadBody, EncryptedMessageInvalid, AuthKeyPermEmpty, JobsFull, MsgWaitFailed, MsgWaitTimeout, DroppedRunning, AnswerUnknown, BoolTrue}

-- its content
abbrev pub content_of : Short → List ℕ
content_of PackedBodyRefused = speaking.packed_body_refused
content_of BadBody = speaking.bad_body
content_of EncryptedMessageInvalid = speaking.encrypted_message_invalid
content_of AuthKeyPermEmpty = speaking.auth_key_perm_empty
content_of JobsFull = speaking.jobs_full
content_of MsgWaitFailed = speaking.msg_wait_failed
content_of MsgWaitTimeout = speaking.msg_wait_timeout
content_of DroppedRunning = calls.dropped_running
content_of AnswerUnknown = spelling_of RpcAnswerUnknown
content_of BoolTrue = calls.bool_true_content

-- the most bytes of one
abbrev pub short_bytes_max : ℕ
short_bytes_max = 36
