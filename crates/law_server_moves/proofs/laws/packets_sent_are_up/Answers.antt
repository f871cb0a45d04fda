use Rattle.law_server_moves.proofs.Up.{packet_up}
use Rattle.law_server_moves.proofs.laws.packets_sent_are_up.Goals as goal

pub returns : goal.returns
returns c = packet_up
    (record {
      nil = c.bytes_stay_bytes.ensures.nil;
      cons = c.bytes_stay_bytes.ensures.cons;
      taken = c.exact_reading.ensures.taken;
      reads = c.written_again.ensures.reads;
      rows = c.items_exact.ensures.read;
      packed = c.items_exact.ensures.packed;
      call = c.items_exact.ensures.call;
      short = c.items_exact.ensures.short;
    })
    (record {
      front = c.parts_are_bytes.ensures.front;
      back = c.parts_are_bytes.ensures.back;
      drop = c.parts_are_bytes.ensures.drop;
      begins = c.packed_is_unfolded.ensures.begins;
      lawful = c.parts_are_exact.ensures.only_lawful;
    })
