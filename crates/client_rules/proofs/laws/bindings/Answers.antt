use Rattle.std.proofs.Common.{refl}
use Rattle.tl_codec.specs.Spelling.{spelling}
use Rattle.tl_codec.specs.Reading.{number_at, tag_at, truth_at, head_at, bytes_at, longs_at}
use Rattle.msg_ids.specs.Counters.{room}
use Rattle.containers.specs.Container.{row, head_of, container_of, begins_container}
use Rattle.containers.specs.Parts.{message_in, after, cause_in, parts_of}
use Rattle.service_tl.specs.Fields.{salt_at, message_at, items_at, vector_at}
use Rattle.service_tl.specs.Schema.{schema, service_numbers}
use Rattle.client_rules.proofs.laws.bindings.Goals as goal

pub returns-clause-waits : goal.returns-clause-waits
unfolding begins_container service_numbers schema spelling container_of row head_of message_in after cause_in parts_of number_at tag_at truth_at head_at bytes_at longs_at salt_at message_at items_at vector_at room
returns-clause-waits c = refl

pub returns-clause-bound : goal.returns-clause-bound
unfolding begins_container service_numbers schema spelling container_of row head_of message_in after cause_in parts_of number_at tag_at truth_at head_at bytes_at longs_at salt_at message_at items_at vector_at room
returns-clause-bound c = refl

pub returns-clause-refused : goal.returns-clause-refused
unfolding begins_container service_numbers schema spelling container_of row head_of message_in after cause_in parts_of number_at tag_at truth_at head_at bytes_at longs_at salt_at message_at items_at vector_at room
returns-clause-refused c = refl

pub returns-clause-held : goal.returns-clause-held
unfolding begins_container service_numbers schema spelling container_of row head_of message_in after cause_in parts_of number_at tag_at truth_at head_at bytes_at longs_at salt_at message_at items_at vector_at room
returns-clause-held c = refl

pub returns-clause-forgotten : goal.returns-clause-forgotten
unfolding begins_container service_numbers schema spelling container_of row head_of message_in after cause_in parts_of number_at tag_at truth_at head_at bytes_at longs_at salt_at message_at items_at vector_at room
returns-clause-forgotten c = refl

pub returns-clause-salted : goal.returns-clause-salted
unfolding begins_container service_numbers schema spelling container_of row head_of message_in after cause_in parts_of number_at tag_at truth_at head_at bytes_at longs_at salt_at message_at items_at vector_at room
returns-clause-salted c = refl

pub returns-clause-other : goal.returns-clause-other
unfolding begins_container service_numbers schema spelling container_of row head_of message_in after cause_in parts_of number_at tag_at truth_at head_at bytes_at longs_at salt_at message_at items_at vector_at room
returns-clause-other c = refl

pub returns-clause-goes : goal.returns-clause-goes
unfolding begins_container service_numbers schema spelling container_of row head_of message_in after cause_in parts_of number_at tag_at truth_at head_at bytes_at longs_at salt_at message_at items_at vector_at room
returns-clause-goes c = refl

pub returns-clause-never : goal.returns-clause-never
unfolding begins_container service_numbers schema spelling container_of row head_of message_in after cause_in parts_of number_at tag_at truth_at head_at bytes_at longs_at salt_at message_at items_at vector_at room
returns-clause-never c = refl
