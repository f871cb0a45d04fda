use Rattle.std.proofs.Common.{◌+◌, ◌++◌, List, ℕ, length, map, drop, sym, ap, append_assoc, length-append, arith}
use Rattle.std.specs.List.{flat_map}
use Rattle.containers.specs.Container.{row}
use Rattle.containers.specs.Lent.{message_of}
use Rattle.containers.proofs.Rows.{length-row, rows_left, flat_map-map, container_of-map, size_of-rows}
use Rattle.containers.proofs.packing.container_into.Goals as goal

pub loop-part-init : goal.loop-part-init
loop-part-init c =
    let parts = c.args.parts.now in
    record {
      so_far = rw (c.put_head.ensures.written, append_assoc) (ap (λ (text : List ℕ). c.args.buffer.now.bytes ++ text) (sym (container_of-map message_of parts)));
      room = omega (arith, size_of-rows (map message_of parts), ap length (flat_map-map message_of parts));
    }

pub put-requires-clause-room : goal.put-requires-clause-room
put-requires-clause-room c =
    let parts = c.args.parts.now in
    let i = c.loop-part.part-index in
    let part = c.part-item.result in
    let left = rows_left message_of parts i part c.loop-part-test.true c.part-item.is in
    omega (arith, ap length left, length-append (row (message_of part)) (flat_map (λ p. row (message_of p)) (drop (i + 1) parts)), length-row (message_of part))

pub loop-part-preserved : goal.loop-part-preserved
loop-part-preserved c =
    let parts = c.args.parts.now in
    let i = c.loop-part.part-index in
    let part = c.part-item.result in
    let left = rows_left message_of parts i part c.loop-part-test.true c.part-item.is in
    record {
      so_far = rw (c.put.ensures.written, append_assoc, ← left) c.loop-part.invariant.so_far;
      room = omega (arith, ap length left, length-append (row (message_of part)) (flat_map (λ p. row (message_of p)) (drop (i + 1) parts)), length-row (message_of part));
    }
