-- What a server says in an event, with the bytes that it takes (core.telegram.org/mtproto/service_messages,
-- core.telegram.org/mtproto/service_messages_about_messages).
use Rattle.std.specs.Prelude.{◌≡◌, ◌<◌, ◌≤◌, ◌^◌, ℕ, ◌+◌, ◌*◌, ◌%◌, Bool, if◌then◌else◌, List, length, map, All, ⊤}
use Rattle.tl_codec.specs.Spelling.{string_size}
use Rattle.service_tl.specs.declared.item.Item.{Item}
use Rattle.service_tl.specs.declared.item.Item.TheVariants.{RpcResult, FutureSalts, Pong, DestroySessionOk, DestroySessionNone, NewSessionCreated, MsgsAck, MsgsStateInfo, BadMsgNotification, BadServerSalt}
use Rattle.service_tl.specs.Codes.{salt_code}
use Rattle.salt_line.specs.declared.salt_line.SaltRow.{SaltRow}
use Rattle.envelope.specs.Packet.{body_max}
use Rattle.server_rules.specs.Rows.{future_salt_of}
use Rattle.server_output.specs.declared.said.Outgoing.{Outgoing}
use Rattle.server_output.specs.declared.said.Outgoing.TheVariants.{NewSession, Acks, Notice, BadSalt, Pinged, Salts, States, Ended, NoSession, Result}

-- ---- how many bytes the body of each has: 4 for its constructor, 4 for each int, 8 for each long

abbrev pub new_session_bytes : ℕ
new_session_bytes = 28

-- a vector has its constructor and its count besides
abbrev pub acks_bytes : ℕ → ℕ
acks_bytes count = 12 + 8 * count

abbrev pub notice_bytes : ℕ
notice_bytes = 20

abbrev pub bad_salt_bytes : ℕ
bad_salt_bytes = 28

abbrev pub pong_bytes : ℕ
pong_bytes = 20

-- 16 for each row, and a count in front of them
abbrev pub salts_bytes : ℕ → ℕ
salts_bytes count = 20 + 16 * count

-- the states are a string, with its length and padding
abbrev pub states_bytes : ℕ → ℕ
states_bytes count = 12 + string_size count

abbrev pub destroyed_bytes : ℕ
destroyed_bytes = 12

-- the content stands behind the constructor and the call's number
abbrev pub result_bytes : ℕ → ℕ
result_bytes content = 12 + content

-- ---- limits

-- as many numbers stand in one list, and a state for each of them
abbrev pub ids_max : ℕ
ids_max = 8192

-- as many rows of salts are told at once
abbrev pub salts_max : ℕ
salts_max = 64

-- a content of whole words of 4 bytes, whose result can go in a packet
pub record IsContent (content : List ℕ) : Type 0 where
  pub words : length content % 4 ≡ 0
  pub short : result_bytes (length content) ≤ body_max

-- the times of a row of salts are numbers of 32 bits
abbrev pub IsTimely : SaltRow → Type 0
IsTimely row = (row.since < row.until) × (row.until < 2 ^ 32)

-- ---- the items

abbrev pub destroyed_item : ℕ → Bool → Item
destroyed_item session ok = if ok then DestroySessionOk session else DestroySessionNone session

abbrev pub salts_item : ℕ → ℕ → List SaltRow → Item
salts_item request now rows = FutureSalts request now (map future_salt_of rows)

-- ---- what a server says: the item, the bytes of its body, and when it can be said

abbrev pub item_of : Outgoing → Item
item_of (NewSession first unique salt) = NewSessionCreated first unique salt
item_of (Acks ids) = MsgsAck ids.now
item_of (Notice number seq code) = BadMsgNotification number seq code
item_of (BadSalt number seq salt) = BadServerSalt number seq salt_code salt
item_of (Pinged message ping) = Pong message ping
item_of (Salts request now rows) = salts_item request now rows.now
item_of (States request info) = MsgsStateInfo request info.now
item_of (Ended session) = DestroySessionOk session
item_of (NoSession session) = DestroySessionNone session
item_of (Result call content) = RpcResult call content.now

abbrev pub said_bytes : Outgoing → ℕ
said_bytes (NewSession first unique salt) = new_session_bytes
said_bytes (Acks ids) = acks_bytes (length ids.now)
said_bytes (Notice number seq code) = notice_bytes
said_bytes (BadSalt number seq salt) = bad_salt_bytes
said_bytes (Pinged message ping) = pong_bytes
said_bytes (Salts request now rows) = salts_bytes (length rows.now)
said_bytes (States request info) = states_bytes (length info.now)
said_bytes (Ended session) = destroyed_bytes
said_bytes (NoSession session) = destroyed_bytes
said_bytes (Result call content) = result_bytes (length content.now)

abbrev pub CanBeSaid : Outgoing → Type 0
CanBeSaid (Acks ids) = length ids.now ≤ ids_max
CanBeSaid (Salts request now rows) = (length rows.now ≤ salts_max) × All IsTimely rows.now
CanBeSaid (States request info) = length info.now ≤ ids_max
CanBeSaid (Result call content) = IsContent content.now
CanBeSaid _ = ⊤
