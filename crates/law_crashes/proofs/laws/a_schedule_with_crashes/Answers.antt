use Rattle.std.proofs.Common.{◌≡◌, true, refl}
use Rattle.std.specs.List.{AllByRecursion, list_all}
use Rattle.std.specs.Fmt.{digits}
use Rattle.std.specs.Prelude.{nat_lt}
use Rattle.tl_codec.specs.Spelling.{spelling}
use Rattle.tl_codec.specs.Reading.{number_at, tag_at, truth_at, head_at, bytes_at, longs_at}
use Rattle.msg_ids.specs.Counters.{room}
use Rattle.id_window.specs.History.{kept, forgotten}
use Rattle.containers.specs.Container.{row, head_of, container_of, begins_container}
use Rattle.containers.specs.Parts.{message_in, after, cause_in, parts_of}
use Rattle.service_tl.specs.Fields.{salt_at, message_at, items_at, vector_at}
use Rattle.service_tl.specs.Schema.{schema, service_numbers}
use Rattle.envelope.specs.Lock.{clear_lock}
use Rattle.envelope.specs.Packet.{plain_text}
use Rattle.envelope.specs.Reading.{envelope_in}
use Rattle.world_rules.specs.Premises.{Fresh, names_drawn}
use Rattle.world_rules.specs.Witness.{add_x}
use Rattle.law_connections.specs.Computed.{are_new}
use Rattle.law_connections.specs.Joint.{nobody_yet}
use Rattle.law_connections.specs.Premises.{AreHeld, AreOf as AreJoint}
use Rattle.law_connections.specs.Witness.{keys, lossy, ring, setting}
use Rattle.law_crashes.specs.Crashes.{created, living_of}
use Rattle.law_crashes.specs.Premises.{AreOf, NoChance}
use Rattle.law_crashes.specs.Witness.{cut, cut_turns, place_of}
use Rattle.law_crashes.proofs.Interruption.{byte_at}
use Rattle.law_crashes.proofs.Shown.{IsOwn, PacketsOpen, all_of, no_chance, turns_made}
use Rattle.law_crashes.proofs.laws.a_schedule_with_crashes.Goals as goal

new : are_new (names_drawn (living_of setting place_of 0 cut).joint.world) ≡ true
unfolding cut digits kept forgotten begins_container service_numbers schema spelling container_of row head_of message_in after cause_in parts_of number_at tag_at truth_at head_at bytes_at longs_at salt_at message_at items_at vector_at room plain_text envelope_in
new = refl

made : turns_made (created setting 0) cut_turns ≡ true
unfolding cut digits kept forgotten begins_container service_numbers schema spelling container_of row head_of message_in after cause_in parts_of number_at tag_at truth_at head_at bytes_at longs_at salt_at message_at items_at vector_at room plain_text envelope_in
made = refl

held : AreJoint ring setting (nobody_yet setting 0) lossy → AreHeld ring keys
unfolding lossy
held of = of.0

bytes : list_all (λ byte. nat_lt byte 256) (add_x 5) ≡ true
bytes = refl

more_bytes : list_all (λ byte. nat_lt byte 256) (add_x 7) ≡ true
more_bytes = refl

own : AreHeld ring keys → AllByRecursion IsOwn cut_turns
own its = (its, ((λ i. byte_at (add_x 5) i bytes), (tt, (tt, (tt, (tt, (tt, (tt, (tt, (tt, (tt, (tt, (tt, (tt, (tt, (tt, (tt, ((λ i. byte_at (add_x 7) i more_bytes), (tt, (tt, (tt, (tt, (tt, (tt, (tt, (tt, (tt, (tt, (tt, tt)))))))))))))))))))))))))))))

of_ring : AreJoint ring setting (nobody_yet setting 0) lossy → AreOf ring setting place_of (created setting 0) cut
unfolding cut
of_ring of = all_of cut_turns (created setting 0) (own (held of))

chance : PacketsOpen → NoChance setting place_of (created setting 0) cut
unfolding cut
chance packets = no_chance packets cut_turns (created setting 0) made

module _ (c : goal.After-crashes_execute_once) where
  fresh : Fresh (living_of setting place_of 0 cut).joint.world
  fresh =
      let words = c.what_is_computed_holds.ensures.words (names_drawn (living_of setting place_of 0 cut).joint.world) new in
      record { some = words.0; apart = words.1 }

  packets : PacketsOpen
  packets = λ world now number dir is. c.what_is_computed_holds.ensures.packets setting world now number dir is

pub returns-clause-told : goal.returns-clause-told
unfolding cut digits kept forgotten begins_container service_numbers schema spelling container_of row head_of message_in after cause_in parts_of number_at tag_at truth_at head_at bytes_at longs_at salt_at message_at items_at vector_at room plain_text envelope_in
returns-clause-told c = refl

pub returns-clause-of : goal.returns-clause-of
returns-clause-of c = of_ring c.a_joint_run.ensures.of

pub returns-clause-chance : goal.returns-clause-chance
returns-clause-chance c = chance (packets c)

pub returns-clause-fresh : goal.returns-clause-fresh
returns-clause-fresh c = fresh c

pub returns-clause-once : goal.returns-clause-once
returns-clause-once c =
    let its = c.a_joint_run.ensures in
    c.crashes_execute_once.ensures.once clear_lock ring setting place_of 0 cut its.opens its.sizes its.sealed its.sound (of_ring its.of) (chance (packets c)) (fresh c)

pub returns-clause-in_order : goal.returns-clause-in_order
returns-clause-in_order c =
    let its = c.a_joint_run.ensures in
    c.crashes_execute_once.ensures.in_order clear_lock ring setting place_of 0 cut its.opens its.sizes its.sealed its.sound (of_ring its.of) (chance (packets c)) (fresh c)
