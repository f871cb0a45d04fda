-- What a message is for judging, by how its body begins.
use Rattle.std.specs.Prelude.{ℕ, ◌==◌, Bool, true, false, if◌then◌else◌, List, [], ◌∷◌, Option, Some, None, Result, Ok, Err}
use Rattle.std.specs.List.{list_any}
use Rattle.service_tl.specs.declared.item.Item.{Item}
use Rattle.service_tl.specs.declared.item.Item.TheVariants.{MsgContainer}
use Rattle.service_tl.specs.declared.lists.Message.{Message}
use Rattle.service_tl.specs.ItemOf.{item_of}
use Rattle.service_tl.specs.Results.{constructor_of}
use Rattle.service_tl.specs.Schema.{service_numbers, gzip_packed, msgs_ack, invoke_after_msg, invoke_after_msgs, auth_bind_temp_auth_key}
use Rattle.containers.specs.declared.fault.ContainerFault.{ContainerFault}
use Rattle.containers.specs.Container.{begins_container}
use Rattle.containers.specs.Parts.{parts_of}
use Rattle.inbox.specs.declared.kind.Kind.{Kind}
use Rattle.inbox.specs.declared.kind.Kind.TheVariants.{Container, Unlawful, Acknowledgement, Call, Other}

-- the constructors of bodies that hold a call for the service, or stand for one: gzip_packed, invokeAfterMsg,
-- invokeAfterMsgs and auth.bindTempAuthKey
abbrev pub calling_numbers : List ℕ
calling_numbers = gzip_packed ∷ invoke_after_msg.number ∷ invoke_after_msgs.number ∷ auth_bind_temp_auth_key.number ∷ []

-- a body is a call where no service constructor begins it, or where one of these four does
abbrev pub begins_call : Option ℕ → Bool
begins_call None = true
begins_call (Some number) =
    if list_any (λ service. number == service) service_numbers then list_any (λ calling. number == calling) calling_numbers else true

abbrev pub begins_acknowledgement : Option ℕ → Bool
begins_acknowledgement None = false
begins_acknowledgement (Some number) = number == msgs_ack.number

abbrev pub kind_beginning : Option ℕ → Kind
kind_beginning number = if begins_acknowledgement number then Acknowledgement else if begins_call number then Call else Other

-- the inner messages of the message with this number, or its fault, where its body begins as a container
abbrev pub container_in : ℕ → List ℕ → Option (Result (List Message) ContainerFault)
container_in number body = if begins_container body then Some (parts_of number body) else None

abbrev pub kind_among : Option (Result (List Message) ContainerFault) → List ℕ → Kind
kind_among (Some (Ok parts)) body = Container
kind_among (Some (Err fault)) body = Unlawful
kind_among None body = kind_beginning (constructor_of body)

-- the kind of a message
abbrev pub kind_of : Message → Kind
kind_of message = kind_among (container_in message.number message.body) message.body

-- the messages inside it: none where it is no lawful container
abbrev pub parts_among : Option (Result (List Message) ContainerFault) → List Message
parts_among (Some (Ok parts)) = parts
parts_among _ = []

abbrev pub inner_messages : Message → List Message
inner_messages message = parts_among (container_in message.number message.body)

-- what an accepted message's judgement tells of its body: the item that it is, and of a container only that it
-- is one, since each of its messages has a judgement of its own
abbrev pub item_told : List ℕ → Item
item_told body = if begins_container body then MsgContainer [] else item_of body
