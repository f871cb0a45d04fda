use Rattle.std.proofs.Common.{refl}
use Rattle.tl_codec.specs.Spelling.{spelling}
use Rattle.tl_codec.specs.Reading.{number_at, tag_at, truth_at, head_at, bytes_at, longs_at}
use Rattle.id_window.specs.History.{kept, forgotten}
use Rattle.containers.specs.Container.{row, head_of, container_of, begins_container}
use Rattle.containers.specs.Parts.{message_in, after, cause_in, parts_of}
use Rattle.service_tl.specs.Fields.{salt_at, message_at, items_at, vector_at}
use Rattle.service_tl.specs.Schema.{schema, service_numbers}
use Rattle.server_rules.proofs.laws.dropped_answers.Goals as goal

pub returns-clause-running : goal.returns-clause-running
unfolding kept forgotten begins_container service_numbers schema spelling container_of row head_of message_in after cause_in parts_of number_at tag_at truth_at head_at bytes_at longs_at salt_at message_at items_at vector_at
returns-clause-running c = refl

pub returns-clause-running_entries : goal.returns-clause-running_entries
unfolding kept forgotten begins_container service_numbers schema spelling container_of row head_of message_in after cause_in parts_of number_at tag_at truth_at head_at bytes_at longs_at salt_at message_at items_at vector_at
returns-clause-running_entries c = refl

pub returns-clause-running_jobs : goal.returns-clause-running_jobs
unfolding kept forgotten begins_container service_numbers schema spelling container_of row head_of message_in after cause_in parts_of number_at tag_at truth_at head_at bytes_at longs_at salt_at message_at items_at vector_at
returns-clause-running_jobs c = refl

pub returns-clause-kept : goal.returns-clause-kept
unfolding kept forgotten begins_container service_numbers schema spelling container_of row head_of message_in after cause_in parts_of number_at tag_at truth_at head_at bytes_at longs_at salt_at message_at items_at vector_at
returns-clause-kept c = refl

pub returns-clause-kept_entries : goal.returns-clause-kept_entries
unfolding kept forgotten begins_container service_numbers schema spelling container_of row head_of message_in after cause_in parts_of number_at tag_at truth_at head_at bytes_at longs_at salt_at message_at items_at vector_at
returns-clause-kept_entries c = refl
