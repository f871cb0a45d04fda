use Rattle.std.proofs.Common.{refl}
use Rattle.std.specs.Fmt.{digits}
use Rattle.tl_codec.specs.Spelling.{spelling}
use Rattle.tl_codec.specs.Reading.{number_at, tag_at, truth_at, head_at, bytes_at, longs_at}
use Rattle.msg_ids.specs.Counters.{room}
use Rattle.id_window.specs.History.{kept, forgotten}
use Rattle.containers.specs.Container.{row, head_of, container_of, begins_container}
use Rattle.containers.specs.Parts.{message_in, after, cause_in, parts_of}
use Rattle.service_tl.specs.Fields.{salt_at, message_at, items_at, vector_at}
use Rattle.service_tl.specs.Schema.{schema, service_numbers}
use Rattle.world_rules.proofs.laws.refused_events.Goals as goal

pub returns-clause-too_long : goal.returns-clause-too_long
unfolding digits kept forgotten begins_container service_numbers schema spelling container_of row head_of message_in after cause_in parts_of number_at tag_at truth_at head_at bytes_at longs_at salt_at message_at items_at vector_at room
returns-clause-too_long c = refl

pub returns-clause-longest : goal.returns-clause-longest
unfolding digits kept forgotten begins_container service_numbers schema spelling container_of row head_of message_in after cause_in parts_of number_at tag_at truth_at head_at bytes_at longs_at salt_at message_at items_at vector_at room
returns-clause-longest c = refl

pub returns-clause-not_words : goal.returns-clause-not_words
unfolding digits kept forgotten begins_container service_numbers schema spelling container_of row head_of message_in after cause_in parts_of number_at tag_at truth_at head_at bytes_at longs_at salt_at message_at items_at vector_at room
returns-clause-not_words c = refl

pub returns-clause-service_body : goal.returns-clause-service_body
unfolding digits kept forgotten begins_container service_numbers schema spelling container_of row head_of message_in after cause_in parts_of number_at tag_at truth_at head_at bytes_at longs_at salt_at message_at items_at vector_at room
returns-clause-service_body c = refl

pub returns-clause-no_such_call : goal.returns-clause-no_such_call
unfolding digits kept forgotten begins_container service_numbers schema spelling container_of row head_of message_in after cause_in parts_of number_at tag_at truth_at head_at bytes_at longs_at salt_at message_at items_at vector_at room
returns-clause-no_such_call c = refl

pub returns-clause-no_client : goal.returns-clause-no_client
unfolding digits kept forgotten begins_container service_numbers schema spelling container_of row head_of message_in after cause_in parts_of number_at tag_at truth_at head_at bytes_at longs_at salt_at message_at items_at vector_at room
returns-clause-no_client c = refl

pub returns-clause-no_packet : goal.returns-clause-no_packet
unfolding digits kept forgotten begins_container service_numbers schema spelling container_of row head_of message_in after cause_in parts_of number_at tag_at truth_at head_at bytes_at longs_at salt_at message_at items_at vector_at room
returns-clause-no_packet c = refl

pub returns-clause-no_job : goal.returns-clause-no_job
unfolding digits kept forgotten begins_container service_numbers schema spelling container_of row head_of message_in after cause_in parts_of number_at tag_at truth_at head_at bytes_at longs_at salt_at message_at items_at vector_at room
returns-clause-no_job c = refl

pub returns-clause-wrong_state : goal.returns-clause-wrong_state
unfolding digits kept forgotten begins_container service_numbers schema spelling container_of row head_of message_in after cause_in parts_of number_at tag_at truth_at head_at bytes_at longs_at salt_at message_at items_at vector_at room
returns-clause-wrong_state c = refl

pub returns-clause-not_sent : goal.returns-clause-not_sent
unfolding digits kept forgotten begins_container service_numbers schema spelling container_of row head_of message_in after cause_in parts_of number_at tag_at truth_at head_at bytes_at longs_at salt_at message_at items_at vector_at room
returns-clause-not_sent c = refl

pub returns-clause-no_call_to_drop : goal.returns-clause-no_call_to_drop
unfolding digits kept forgotten begins_container service_numbers schema spelling container_of row head_of message_in after cause_in parts_of number_at tag_at truth_at head_at bytes_at longs_at salt_at message_at items_at vector_at room
returns-clause-no_call_to_drop c = refl
