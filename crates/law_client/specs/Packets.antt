-- What a packet from a server is to the law on moves: the items that matter there, in order.
use Rattle.std.specs.Prelude.{List, [], ◌∷◌}
use Rattle.std.specs.List.{flat_map}
use Rattle.service_tl.specs.declared.lists.Message.{Message}
use Rattle.service_tl.specs.declared.item.Item.{Item}
use Rattle.service_tl.specs.declared.item.Item.TheVariants.{RpcResult, NewSessionCreated, BadMsgNotification, BadServerSalt}
use Rattle.service_tl.specs.ItemOf.{item_of}
use Rattle.envelope.specs.declared.parts.Envelope.{Envelope}
use Rattle.client_rules.specs.Taking.{message_in, messages_of}
use Rattle.law_moves.specs.Table as moves

abbrev pub item_there : Item → List moves.Item
item_there (NewSessionCreated first unique salt) = moves.Item.NewSession unique salt ∷ []
item_there (RpcResult about result) = moves.Item.Result about result ∷ []
item_there (BadMsgNotification about seq code) = moves.Item.Notice about code ∷ []
item_there (BadServerSalt about seq code salt) = moves.Item.WrongSalt about salt ∷ []
item_there _ = []

abbrev pub items_there : List Message → List moves.Item
items_there messages = flat_map (λ message. item_there (item_of message.body)) messages

-- the items of the messages that a packet has, where it is a lawful one
abbrev pub packet_items : Envelope → List moves.Item
packet_items envelope = items_there (messages_of (message_in envelope))
