use Rattle.std.proofs.Common.{◌≡◌, true, refl}
use Rattle.std.specs.List.{list_all}
use Rattle.std.specs.Fmt.{digits}
use Rattle.tl_codec.specs.Spelling.{spelling}
use Rattle.tl_codec.specs.Reading.{number_at, tag_at, truth_at, head_at, bytes_at, longs_at}
use Rattle.msg_ids.specs.Counters.{room}
use Rattle.id_window.specs.History.{kept, forgotten}
use Rattle.containers.specs.Container.{row, head_of, container_of, begins_container}
use Rattle.containers.specs.Parts.{message_in, after, cause_in, parts_of}
use Rattle.service_tl.specs.Fields.{salt_at, message_at, items_at, vector_at}
use Rattle.service_tl.specs.Schema.{schema, service_numbers}
use Rattle.envelope.specs.Lock.{clear_lock}
use Rattle.envelope.specs.Packet.{plain_text}
use Rattle.envelope.specs.Reading.{envelope_in}
use Rattle.world_rules.specs.Premises.{Fresh, names_drawn}
use Rattle.law_connections.specs.Joint.{joint_of, nobody_yet}
use Rattle.law_connections.specs.Premises.{AreOf, NoChance}
use Rattle.law_connections.specs.Witness.{lossy, lossy_turns, ring, setting}
use Rattle.law_connections.specs.Computed.{are_new}
use Rattle.law_connections.proofs.Shown.{new-words, no-chance, turns_made}
use Rattle.law_connections.proofs.Toy.{is-sealed, is-sound, is_turn_of, turns-of}
use Rattle.law_connections.proofs.laws.a_joint_run.Goals as goal

new : are_new (names_drawn (joint_of setting 0 lossy).world) ≡ true
unfolding lossy digits kept forgotten begins_container service_numbers schema spelling container_of row head_of message_in after cause_in parts_of number_at tag_at truth_at head_at bytes_at longs_at salt_at message_at items_at vector_at room plain_text envelope_in
new = refl

made : turns_made setting (nobody_yet setting 0) lossy_turns ≡ true
unfolding lossy digits kept forgotten begins_container service_numbers schema spelling container_of row head_of message_in after cause_in parts_of number_at tag_at truth_at head_at bytes_at longs_at salt_at message_at items_at vector_at room plain_text envelope_in
made = refl

is_of : list_all is_turn_of lossy_turns ≡ true
unfolding spelling
is_of = refl

chance : NoChance setting (nobody_yet setting 0) lossy
unfolding lossy
chance = no-chance setting lossy_turns (nobody_yet setting 0) made

of : AreOf ring setting (nobody_yet setting 0) lossy
unfolding lossy
of = turns-of setting lossy_turns (nobody_yet setting 0) is_of

fresh : Fresh (joint_of setting 0 lossy).world
fresh = let words = new-words (names_drawn (joint_of setting 0 lossy).world) new in record { some = words.0; apart = words.1 }

pub returns-clause-told : goal.returns-clause-told
unfolding lossy digits kept forgotten begins_container service_numbers schema spelling container_of row head_of message_in after cause_in parts_of number_at tag_at truth_at head_at bytes_at longs_at salt_at message_at items_at vector_at room plain_text envelope_in
returns-clause-told c = refl

pub returns-clause-opens : goal.returns-clause-opens
returns-clause-opens c = c.opens_what_it_sealed.ensures

pub returns-clause-sizes : goal.returns-clause-sizes
returns-clause-sizes c = c.locks_keep_sizes.ensures.clear

pub returns-clause-sealed : goal.returns-clause-sealed
returns-clause-sealed c = is-sealed c.packets_open_as_worked_out.ensures.clear

pub returns-clause-sound : goal.returns-clause-sound
returns-clause-sound c = is-sound c.registers_give_replies.ensures c.bytes_stay_bytes.ensures.nil

pub returns-clause-of : goal.returns-clause-of
returns-clause-of c = of

pub returns-clause-chance : goal.returns-clause-chance
returns-clause-chance c = chance

pub returns-clause-fresh : goal.returns-clause-fresh
returns-clause-fresh c = fresh

pub returns-clause-once : goal.returns-clause-once
returns-clause-once c =
    c.connections_execute_once.ensures.once clear_lock ring setting 0 lossy c.opens_what_it_sealed.ensures c.locks_keep_sizes.ensures.clear
    (is-sealed c.packets_open_as_worked_out.ensures.clear) (is-sound c.registers_give_replies.ensures c.bytes_stay_bytes.ensures.nil) of chance fresh

pub returns-clause-in_order : goal.returns-clause-in_order
returns-clause-in_order c =
    c.connections_execute_once.ensures.in_order clear_lock ring setting 0 lossy c.opens_what_it_sealed.ensures c.locks_keep_sizes.ensures.clear
    (is-sealed c.packets_open_as_worked_out.ensures.clear) (is-sound c.registers_give_replies.ensures c.bytes_stay_bytes.ensures.nil) of chance fresh
