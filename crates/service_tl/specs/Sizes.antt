-- What the lists of items keep of their members: what the types of their fields say, and how many members
-- and bytes there are, since both are counted by 4 bytes on the wire.
use Rattle.std.specs.Prelude.{◌<◌, ◌^◌, List, length}
use Rattle.std.specs.List.{AllByRecursion}
use Rattle.octets.specs.Bytes.{IsBytes}
use Rattle.service_tl.specs.declared.lists.FutureSalt.{FutureSalt}
use Rattle.service_tl.specs.declared.lists.Message.{Message}

-- a salt's fields have the widths of their types
abbrev pub SaltFits : FutureSalt → Type 0
SaltFits row = (row.valid_since < 2 ^ 32) × (row.valid_until < 2 ^ 32) × (row.salt < 2 ^ 64)

abbrev pub IsSized : Message → Type 0
IsSized message = length message.body < 2 ^ 32

pub record AreSized (messages : List Message) : Type 0 where
  pub few : length messages < 2 ^ 32
  pub short : AllByRecursion IsSized messages

-- a message's fields have the widths of their types
pub record IsInRange (message : Message) : Type 0 where
  pub number : message.number < 2 ^ 64
  pub seq : message.seq < 2 ^ 32
  pub body : IsBytes message.body
