use Rattle.std.proofs.Common.{refl}
use Rattle.tl_codec.specs.Spelling.{spelling}
use Rattle.tl_codec.specs.Reading.{number_at, tag_at, truth_at, head_at, bytes_at, longs_at}
use Rattle.msg_ids.specs.Counters.{room}
use Rattle.id_window.specs.History.{kept, forgotten}
use Rattle.containers.specs.Container.{row, head_of, container_of, begins_container}
use Rattle.containers.specs.Parts.{message_in, after, cause_in, parts_of}
use Rattle.service_tl.specs.Fields.{salt_at, message_at, items_at, vector_at}
use Rattle.service_tl.specs.Schema.{schema, service_numbers}
use Rattle.law_server.proofs.laws.courses_that_happen.Goals as goal

pub returns-clause-unheard : goal.returns-clause-unheard
unfolding kept forgotten begins_container service_numbers schema spelling container_of row head_of message_in after cause_in parts_of number_at tag_at truth_at head_at bytes_at longs_at salt_at message_at items_at vector_at room
returns-clause-unheard c = refl

pub returns-clause-packets : goal.returns-clause-packets
unfolding kept forgotten begins_container service_numbers schema spelling container_of row head_of message_in after cause_in parts_of number_at tag_at truth_at head_at bytes_at longs_at salt_at message_at items_at vector_at room
returns-clause-packets c = refl

pub returns-clause-waits : goal.returns-clause-waits
unfolding kept forgotten begins_container service_numbers schema spelling container_of row head_of message_in after cause_in parts_of number_at tag_at truth_at head_at bytes_at longs_at salt_at message_at items_at vector_at room
returns-clause-waits c = refl

pub returns-clause-none_yet : goal.returns-clause-none_yet
unfolding kept forgotten begins_container service_numbers schema spelling container_of row head_of message_in after cause_in parts_of number_at tag_at truth_at head_at bytes_at longs_at salt_at message_at items_at vector_at room
returns-clause-none_yet c = refl

pub returns-clause-ran : goal.returns-clause-ran
unfolding kept forgotten begins_container service_numbers schema spelling container_of row head_of message_in after cause_in parts_of number_at tag_at truth_at head_at bytes_at longs_at salt_at message_at items_at vector_at room
returns-clause-ran c = refl

pub returns-clause-done : goal.returns-clause-done
unfolding kept forgotten begins_container service_numbers schema spelling container_of row head_of message_in after cause_in parts_of number_at tag_at truth_at head_at bytes_at longs_at salt_at message_at items_at vector_at room
returns-clause-done c = refl
