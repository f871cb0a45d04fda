use Rattle.std.proofs.Common.{refl}
use Rattle.tl_codec.specs.Spelling.{spelling}
use Rattle.tl_codec.specs.Reading.{number_at, tag_at, truth_at, head_at, bytes_at, longs_at}
use Rattle.id_window.specs.History.{kept, forgotten}
use Rattle.containers.specs.Container.{row, head_of, container_of, begins_container}
use Rattle.containers.specs.Parts.{message_in, after, cause_in, parts_of}
use Rattle.service_tl.specs.Fields.{salt_at, message_at, items_at, vector_at}
use Rattle.service_tl.specs.Schema.{schema, service_numbers}
use Rattle.server_rules.proofs.laws.temporary_keys.Goals as goal

pub returns-clause-unbound : goal.returns-clause-unbound
unfolding kept forgotten begins_container service_numbers schema spelling container_of row head_of message_in after cause_in parts_of number_at tag_at truth_at head_at bytes_at longs_at salt_at message_at items_at vector_at
returns-clause-unbound c = refl

pub returns-clause-unbound_entries : goal.returns-clause-unbound_entries
unfolding kept forgotten begins_container service_numbers schema spelling container_of row head_of message_in after cause_in parts_of number_at tag_at truth_at head_at bytes_at longs_at salt_at message_at items_at vector_at
returns-clause-unbound_entries c = refl

pub returns-clause-wrong : goal.returns-clause-wrong
unfolding kept forgotten begins_container service_numbers schema spelling container_of row head_of message_in after cause_in parts_of number_at tag_at truth_at head_at bytes_at longs_at salt_at message_at items_at vector_at
returns-clause-wrong c = refl

pub returns-clause-wrong_entries : goal.returns-clause-wrong_entries
unfolding kept forgotten begins_container service_numbers schema spelling container_of row head_of message_in after cause_in parts_of number_at tag_at truth_at head_at bytes_at longs_at salt_at message_at items_at vector_at
returns-clause-wrong_entries c = refl

pub returns-clause-right : goal.returns-clause-right
unfolding kept forgotten begins_container service_numbers schema spelling container_of row head_of message_in after cause_in parts_of number_at tag_at truth_at head_at bytes_at longs_at salt_at message_at items_at vector_at
returns-clause-right c = refl

pub returns-clause-right_entries : goal.returns-clause-right_entries
unfolding kept forgotten begins_container service_numbers schema spelling container_of row head_of message_in after cause_in parts_of number_at tag_at truth_at head_at bytes_at longs_at salt_at message_at items_at vector_at
returns-clause-right_entries c = refl

pub returns-clause-bindings : goal.returns-clause-bindings
unfolding kept forgotten begins_container service_numbers schema spelling container_of row head_of message_in after cause_in parts_of number_at tag_at truth_at head_at bytes_at longs_at salt_at message_at items_at vector_at
returns-clause-bindings c = refl

pub returns-clause-bound : goal.returns-clause-bound
unfolding kept forgotten begins_container service_numbers schema spelling container_of row head_of message_in after cause_in parts_of number_at tag_at truth_at head_at bytes_at longs_at salt_at message_at items_at vector_at
returns-clause-bound c = refl
