-- Containers: how their bytes are spelt, and what makes one lawful
-- (core.telegram.org/mtproto/service_messages#containers).
use Rattle.std.specs.Prelude.{◌≡◌, ◌<◌, ◌≤◌, ◌^◌, ℕ, ◌+◌, ◌%◌, ◌==◌, ◌&&◌, nat_le, Bool, false, List, ◌++◌, length, sum_by}
use Rattle.std.specs.List.{flat_map, AllByRecursion}
use Rattle.byteorder.specs.Endian.{little_bytes, little_number}
use Rattle.service_tl.specs.declared.lists.Message.{Message}

-- ---- numbers of the standard, and limits

-- msg_container#73f1f8dc messages:vector<%Message> = MessageContainer
abbrev pub constructor : ℕ
constructor = 0x73f1f8dc

-- at most 1,020 messages stand in a container
abbrev pub messages_max : ℕ
messages_max = 1020

-- constructor and count take 8 bytes, the head of each message 16
abbrev pub container_head : ℕ
container_head = 8

abbrev pub message_head : ℕ
message_head = 16

-- ---- spelling

-- message msg_id:long seqno:int bytes:int body:Object = Message
unfoldable pub row : Message → List ℕ
row message = little_bytes 8 message.number ++ (little_bytes 4 message.seq ++ (little_bytes 4 (length message.body) ++ message.body))

-- the constructor and the count
unfoldable pub head_of : ℕ → List ℕ
head_of count = little_bytes 4 constructor ++ little_bytes 4 count

-- these, and the messages one after the other
unfoldable pub container_of : List Message → List ℕ
container_of messages = head_of (length messages) ++ flat_map row messages

-- a body that begins with the constructor of a container
unfoldable pub begins_container : List ℕ → Bool
begins_container body = nat_le 4 (length body) && little_number 4 body == constructor

-- ---- what is lawful

-- a message that keeps the rules of a container with this number: the body has whole words of 4 bytes, the
-- number is below the container's, and the body is no container
pub record KeepsRules (number : ℕ) (message : Message) : Type 0 where
  pub whole_words : length message.body % 4 ≡ 0
  pub below : message.number < number
  pub unnested : begins_container message.body ≡ false

-- an inner message of a container with this number: each field fits its place, and the rules are kept
pub record IsInner (number : ℕ) (message : Message) : Type 0 where
  pub fits : (message.number < 2 ^ 64) × (message.seq < 2 ^ 32) × (length message.body < 2 ^ 32)
  pub rules : KeepsRules number message

-- The body of the message with this number is a lawful container of these messages: it spells them and
-- nothing more, they are not too many, and each is lawful inside. None at all is lawful.
pub record IsContainer (number : ℕ) (messages : List Message) (body : List ℕ) : Type 0 where
  pub spelt : body ≡ container_of messages
  pub few : length messages ≤ messages_max
  pub inner : AllByRecursion (IsInner number) messages

-- ---- what is packed

-- the body of a container that is put together has at most 1,044,480 bytes; none is asked of one that is read
abbrev pub bytes_max : ℕ
bytes_max = 1044480

-- how many bytes the container of these messages has
abbrev pub size_of : List Message → ℕ
size_of messages = container_head + sum_by (λ message. message_head + length message.body) messages

-- the messages can stand in one container
pub record AreWithin (messages : List Message) : Type 0 where
  pub few : length messages ≤ messages_max
  pub short : size_of messages ≤ bytes_max
