-- The messages of a container, or its fault: the first place with a cause, and the first cause there.
use Rattle.std.specs.Prelude.{ℕ, zero, suc, ◌+◌, ◌%◌, nat_lt, nat_le, if◌then◌else◌, List, [], ◌∷◌, ◌++◌, length, take, drop, map, Option, Some, None, Result, Ok, Err}
use Rattle.byteorder.specs.Endian.{little_number}
use Rattle.service_tl.specs.declared.lists.Message.{Message}
use Rattle.containers.specs.declared.fault.ContainerFault.{ContainerFault}
use Rattle.containers.specs.declared.fault.Why.{Why}
use Rattle.containers.specs.declared.fault.Why.TheVariants.{Nested, NotBelow, Odd, Short, TooMany, Extra}
use Rattle.containers.specs.Container.{container_head, message_head, messages_max, begins_container}

-- ---- the message at the front of a text

-- the length that its head says
abbrev pub said_length : List ℕ → ℕ
said_length text = little_number 4 (drop 12 text)

unfoldable pub message_in : List ℕ → Message
message_in text = record { number = little_number 8 text; seq = little_number 4 (drop 8 text); body = take (said_length text) (drop message_head text) }

-- what stands behind it
unfoldable pub after : List ℕ → List ℕ
after text = drop (message_head + said_length text) text

-- what is wrong with it, inside a container with this number: the first of these causes
unfoldable pub cause_in : ℕ → List ℕ → Option Why
unfolding message_in
cause_in number text =
    if nat_lt (length text) message_head then Some Short
    else if nat_lt 0 (said_length text % 4) then Some Odd
    else if nat_lt (length text) (message_head + said_length text) then Some Short
    else if nat_le number (message_in text).number then Some NotBelow
    else if begins_container (message_in text).body then Some Nested
    else None

-- ---- places

-- the texts at so many places: each begins where the message before it ends
abbrev pub texts : ℕ → List ℕ → List (List ℕ)
texts zero text = []
texts (suc count) text = text ∷ texts count (after text)

-- what stands behind so many messages
abbrev pub rest : ℕ → List ℕ → List ℕ
rest zero text = text
rest (suc count) text = rest count (after text)

abbrev pub messages_in : ℕ → List ℕ → List Message
messages_in count text = map message_in (texts count text)

-- the causes at the places, and at the place of the count the bytes that are left
abbrev pub extra_in : List ℕ → Option Why
extra_in text = if nat_lt 0 (length text) then Some Extra else None

abbrev pub causes : ℕ → ℕ → List ℕ → List (Option Why)
causes number count text = map (cause_in number) (texts count text) ++ extra_in (rest count text) ∷ []

-- the first cause, with its place, where the first of the list has this place
abbrev pub first_from : ℕ → List (Option Why) → Option ContainerFault
first_from place [] = None
first_from place (None ∷ causes) = first_from (suc place) causes
first_from place (Some why ∷ causes) = Some (record { place = place; why = why })

-- ---- the container

abbrev pub unless : Option ContainerFault → List Message → Result (List Message) ContainerFault
unless None messages = Ok messages
unless (Some fault) messages = Err fault

-- The messages of the container that this body of the message with this number is, or its fault. A cut
-- count and a count that is too great are faults of place 0.
unfoldable pub parts_of : ℕ → List ℕ → Result (List Message) ContainerFault
parts_of number body =
    let count = little_number 4 (drop 4 body) in
    let text = drop container_head body in
    if nat_lt (length body) container_head then Err (record { place = 0; why = Short })
    else if nat_lt messages_max count then Err (record { place = 0; why = TooMany })
    else unless (first_from 0 (causes number count text)) (messages_in count text)
