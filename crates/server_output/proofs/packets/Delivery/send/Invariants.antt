use Rattle.std.proofs.Common.{◌≡◌, ◌≤◌, ◌+◌, ◌-◌, length, map, drop, vec_len}
use Rattle.std.specs.List.{AllByRecursion}
use Rattle.msg_ids.specs.Counters.{room}
use Rattle.containers.specs.Lent.{message_of}
use Rattle.packing.specs.Packing.{groups, outers_of, after_outers, packets_of, after_packets}
use Rattle.server_output.specs.Batch.{IsPlace, packed_most}
use Rattle.server_output.specs.Outs.{sent_of, draw_after_sent}
use Rattle.server_output.specs.Course.{Course}
use Rattle.server_output.proofs.Left.{IsLeft}
use Rattle.server_output.proofs.packets.Delivery.send.Given as goal

abbrev pub invariant-loop-start : goal.invariant-loop-start
invariant-loop-start g l =
    let messages = map message_of l.parts.items in
    let rest = drop l.start messages in
    record {
      within : l.start ≤ length l.parts.items;
      left : IsLeft l.fn.self.packets.messages l.fn.self.packets.bytes rest;
      numbers_are : length (groups rest) ≤ room l.numbers;
      outs_are : length (groups rest) ≤ l.outs.room;
      places_are : length (groups rest) ≤ vec_len l.places;
      places : AllByRecursion (IsPlace (packed_most l.fn.self.packets.messages l.fn.self.packets.bytes)) l.places.items;
      course : Course g.S.Seal.lock (g.S.Seal.keys l.seal) l.fn.outs.outs l.outs.outs
          (sent_of g.D.Draw.step l.header (outers_of l.now l.numbers (groups rest)) l.draw)
          (sent_of g.D.Draw.step l.header (packets_of l.now l.fn.numbers messages) l.fn.draw);
      drawn : draw_after_sent g.D.Draw.step (outers_of l.now l.numbers (groups rest)) l.draw ≡ draw_after_sent g.D.Draw.step (packets_of l.now l.fn.numbers messages) l.fn.draw;
      counted : after_outers l.now l.numbers (groups rest) ≡ after_packets l.now l.fn.numbers messages;
      room_lasts : l.fn.outs.room + length (groups rest) ≡ l.outs.room + length (groups messages);
      numbers_last : room l.fn.numbers + length (groups rest) ≤ room l.numbers + length (groups messages);
    }

abbrev pub decreases-loop-start : goal.decreases-loop-start
decreases-loop-start g l = length l.parts.items - l.start
