use Rattle.std.proofs.Common.{refl}
use Rattle.tl_codec.specs.Spelling.{spelling}
use Rattle.tl_codec.specs.Reading.{number_at, tag_at, truth_at, head_at, bytes_at, longs_at}
use Rattle.msg_ids.specs.Counters.{room}
use Rattle.containers.specs.Container.{row, head_of, container_of, begins_container}
use Rattle.containers.specs.Parts.{message_in, after, cause_in, parts_of}
use Rattle.service_tl.specs.Fields.{salt_at, message_at, items_at, vector_at}
use Rattle.service_tl.specs.Schema.{schema, service_numbers}
use Rattle.client_rules.proofs.laws.later_sessions.Goals as goal

pub returns-clause-lost : goal.returns-clause-lost
unfolding begins_container service_numbers schema spelling container_of row head_of message_in after cause_in parts_of number_at tag_at truth_at head_at bytes_at longs_at salt_at message_at items_at vector_at room
returns-clause-lost c = refl

pub returns-clause-salt : goal.returns-clause-salt
unfolding begins_container service_numbers schema spelling container_of row head_of message_in after cause_in parts_of number_at tag_at truth_at head_at bytes_at longs_at salt_at message_at items_at vector_at room
returns-clause-salt c = refl

pub returns-clause-stays : goal.returns-clause-stays
unfolding begins_container service_numbers schema spelling container_of row head_of message_in after cause_in parts_of number_at tag_at truth_at head_at bytes_at longs_at salt_at message_at items_at vector_at room
returns-clause-stays c = refl

pub returns-clause-destroyed : goal.returns-clause-destroyed
unfolding begins_container service_numbers schema spelling container_of row head_of message_in after cause_in parts_of number_at tag_at truth_at head_at bytes_at longs_at salt_at message_at items_at vector_at room
returns-clause-destroyed c = refl
