use Rattle.std.proofs.Common.{◌≡◌, ◌≤◌, ◌+◌, ◌-◌, ◌++◌, length, map, drop}
use Rattle.msg_ids.specs.Counters.{room}
use Rattle.containers.specs.Lent.{message_of}
use Rattle.packing.specs.Packing.{groups, outers_of, after_outers, packets_of, after_packets}
use Rattle.packing.proofs.packing.packets.Given as goal

abbrev pub invariant-loop-start : goal.invariant-loop-start
invariant-loop-start l = record {
  within : l.start ≤ length l.messages;
  room : length l.messages ≤ room l.next + l.start;
  few : length l.packets ≤ l.start;
  so_far : l.packets ++ outers_of l.now l.next (groups (drop l.start (map message_of l.messages))) ≡ packets_of l.now l.fn.numbers (map message_of l.messages);
  counted : after_outers l.now l.next (groups (drop l.start (map message_of l.messages))) ≡ after_packets l.now l.fn.numbers (map message_of l.messages);
}

abbrev pub decreases-loop-start : goal.decreases-loop-start
decreases-loop-start l = length l.messages - l.start
