-- What is lent of a container.
use Rattle.service_tl.specs.declared.lists.Message.{Message}
use Rattle.containers.specs.declared.part.Part.{Part}

-- the message that a lent part is
abbrev pub message_of : Part → Message
message_of part = record { number = part.number; seq = part.seq; body = part.body.now }
