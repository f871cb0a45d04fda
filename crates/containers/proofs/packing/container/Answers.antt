use Rattle.std.proofs.Common.{◌+◌, length, drop, ap, append_assoc, length-append, arith}
use Rattle.std.specs.List.{flat_map}
use Rattle.octets.specs.Draft.{Draft}
use Rattle.service_tl.specs.declared.lists.Message.{Message}
use Rattle.containers.specs.Container.{row, container_of}
use Rattle.containers.proofs.Rows.{length-row, rows_left, size_of-rows}
use Rattle.containers.proofs.packing.container.Goals as goal

pub loop-message-init : goal.loop-message-init
unfolding container_of
loop-message-init c =
    let room = ap (λ (draft : Draft). draft.room) c.in_ok-buffer.ensures.taken in
    let bytes = ap (λ (draft : Draft). draft.bytes) c.in_ok-buffer.ensures.taken in
    record {
      so_far = rw (c.put_head.ensures.written, bytes) (simp append_assoc);
      room = omega (arith, size_of-rows c.args.messages.now);
    }

pub put-requires-clause-room : goal.put-requires-clause-room
put-requires-clause-room c =
    let messages = c.args.messages.now in
    let i = c.loop-message.message-index in
    let message = c.message-item.result in
    let left = rows_left (λ (m : Message). m) messages i message c.loop-message-test.true c.message-item.is in
    omega (arith, ap length c.as_slice.ensures.value, ap length left, length-append (row message) (flat_map row (drop (i + 1) messages)), length-row message)

pub loop-message-preserved : goal.loop-message-preserved
loop-message-preserved c =
    let messages = c.args.messages.now in
    let i = c.loop-message.message-index in
    let message = c.message-item.result in
    let left = rows_left (λ (m : Message). m) messages i message c.loop-message-test.true c.message-item.is in
    record {
      so_far = rw (c.put.ensures.written, c.as_slice.ensures.value, append_assoc, ← left) c.loop-message.invariant.so_far;
      room = omega (arith, ap length c.as_slice.ensures.value, ap length left, length-append (row message) (flat_map row (drop (i + 1) messages)), length-row message);
    }
