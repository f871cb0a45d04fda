use Rattle.law_server_moves.proofs.Down.{packet_down}
use Rattle.law_server_moves.proofs.laws.packets_are_read_as_they_went_out.Goals as goal

pub returns : goal.returns
returns c = packet_down
    (record {
      nil = c.bytes_stay_bytes.ensures.nil;
      cons = c.bytes_stay_bytes.ensures.cons;
      taken = c.exact_reading.ensures.taken;
      reads = c.written_again.ensures.reads;
      rows = c.items_exact.ensures.read;
      packed = c.items_exact.ensures.packed;
      call = c.items_exact.ensures.call;
      short = c.items_exact.ensures.short;
    })
    c.exact_reading.ensures.read
    (record {
      front = c.parts_are_bytes.ensures.front;
      back = c.parts_are_bytes.ensures.back;
      drop = c.parts_are_bytes.ensures.drop;
      begins = c.packed_is_unfolded.ensures.begins;
      lawful = c.parts_are_exact.ensures.only_lawful;
    })
    c.containers_are_items.ensures.spelt
    c.parts_are_exact.ensures.lawful
