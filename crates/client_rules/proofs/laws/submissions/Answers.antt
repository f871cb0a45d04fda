use Rattle.std.proofs.Common.{refl}
use Rattle.tl_codec.specs.Spelling.{spelling}
use Rattle.tl_codec.specs.Reading.{number_at, tag_at, truth_at, head_at, bytes_at, longs_at}
use Rattle.msg_ids.specs.Counters.{room}
use Rattle.containers.specs.Container.{row, head_of, container_of, begins_container}
use Rattle.containers.specs.Parts.{message_in, after, cause_in, parts_of}
use Rattle.service_tl.specs.Fields.{salt_at, message_at, items_at, vector_at}
use Rattle.service_tl.specs.Schema.{schema, service_numbers}
use Rattle.client_rules.proofs.laws.submissions.Goals as goal

pub returns-clause-long : goal.returns-clause-long
returns-clause-long c body after client long = rw long refl

pub returns-clause-short : goal.returns-clause-short
unfolding begins_container service_numbers schema spelling container_of row head_of message_in after cause_in parts_of number_at tag_at truth_at head_at bytes_at longs_at salt_at message_at items_at vector_at room
returns-clause-short c = refl

pub returns-clause-service : goal.returns-clause-service
unfolding begins_container service_numbers schema spelling container_of row head_of message_in after cause_in parts_of number_at tag_at truth_at head_at bytes_at longs_at salt_at message_at items_at vector_at room
returns-clause-service c = refl

pub returns-clause-after : goal.returns-clause-after
unfolding begins_container service_numbers schema spelling container_of row head_of message_in after cause_in parts_of number_at tag_at truth_at head_at bytes_at longs_at salt_at message_at items_at vector_at room
returns-clause-after c = refl

pub returns-clause-packed : goal.returns-clause-packed
unfolding begins_container service_numbers schema spelling container_of row head_of message_in after cause_in parts_of number_at tag_at truth_at head_at bytes_at longs_at salt_at message_at items_at vector_at room
returns-clause-packed c = refl
