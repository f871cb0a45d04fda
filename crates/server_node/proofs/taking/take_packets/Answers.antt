use Rattle.std.proofs.Common.{None, arith, refl, sym, ◌∙◌}
use Rattle.server_node.proofs.AllPackets.{all_failed, all_idle, all_most, all_stopped, some_more, some_none}
use Rattle.server_node.proofs.Goings.{goes_both, goes_none, goes_on_left, one_fewer, same_fewer, stops_left}
use Rattle.server_node.proofs.taking.take_packets.Goals as goal

pub packets-init : goal.packets-init
packets-init g c = record {
  took = some_none g.K.D.Draw.step g.V.Service.step g.K.S.Seal.lock (g.K.Desk.keys c.args.desk.now) _ c.args.now c.args.wire.now c.args.left.now;
  goes = goes_none (g.L.Link.standing c.args.link.now) (g.L.Link.faults c.args.link.now) (g.L.Link.told c.args.link.now);
  fewer = same_fewer c.args.left.now;
  some = c.requires.some;
  same_keys = refl;
  same_binding = refl;
  desk_counted = refl;
}

pub returns-in-Ok-false-clause-took : goal.returns-in-Ok-false-clause-took
returns-in-Ok-false-clause-took g c =
    all_idle g.K.D.Draw.step g.V.Service.step g.K.S.Seal.lock (g.K.Desk.keys c.args.desk.now) (g.K.Desk.keys c.packets.desk) _ _ _ c.args.now c.packets._count
    c.args.wire.now c.packets.wire c.take_packet.new.wire c.args.left.now c.packets.left
    c.packets.invariant.same_keys c.packets.invariant.took (rw (c.in-Ok-false.field-0-test) at c.in-Ok-false.ensures.took)

pub returns-clause-took : goal.returns-clause-took
returns-clause-took g c =
    all_most g.K.D.Draw.step g.V.Service.step g.K.S.Seal.lock (g.K.Desk.keys c.args.desk.now) _ _ c.args.now c.packets._count c.args.wire.now c.packets.wire c.args.left.now c.packets.left
    (omega (arith, c.packets-test.false, c.packets.auto._count-end)) c.packets.invariant.took

pub returns-in-Err-clause-took : goal.returns-in-Err-clause-took
returns-in-Err-clause-took g c =
    all_failed g.K.D.Draw.step g.V.Service.step g.K.S.Seal.lock (g.K.Desk.keys c.args.desk.now) (g.K.Desk.keys c.packets.desk) _ _ _ c.args.now c.packets._count
    c.args.wire.now c.packets.wire c.take_packet.new.wire c.args.left.now c.packets.left g.K.Desk.MayAnswer c.in-Err.end
    c.packets.invariant.same_keys c.in-Err.ensures.ends c.packets.invariant.took c.in-Err.ensures.took

pub returns-in-Err-count_down-clause-took : goal.returns-in-Err-count_down-clause-took
returns-in-Err-count_down-clause-took g c =
    all_stopped g.K.D.Draw.step g.V.Service.step g.K.S.Seal.lock (g.K.Desk.keys c.args.desk.now) (g.K.Desk.keys c.packets.desk) _ _ _ c.args.now c.packets._count
    c.args.wire.now c.packets.wire c.take_packet.new.wire c.args.left.now c.packets.left c.count_down.new.left c.in-Err-count_down.end
    c.packets.invariant.same_keys c.packets.invariant.took (rw (c.in-Ok-true.field-0-test) at c.in-Ok-true.ensures.took) c.take_packet.ensures.same_form c.count_down.ensures.counted
    c.packets.invariant.some (stops_left c.count_down.new.left c.in-Err-count_down.end (sym c.in-Err-count_down.ensures.stops)).0

pub packets-preserved : goal.packets-preserved
packets-preserved g c =
    let so_far = c.packets.invariant in
    record {
      took = some_more g.K.D.Draw.step g.V.Service.step g.K.S.Seal.lock (g.K.Desk.keys c.args.desk.now) (g.K.Desk.keys c.packets.desk) _ _ _ c.args.now c.packets._count
          c.args.wire.now c.packets.wire c.take_packet.new.wire c.args.left.now c.packets.left c.count_down.new.left
          so_far.same_keys so_far.took (rw (c.in-Ok-true.field-0-test) at c.in-Ok-true.ensures.took) c.take_packet.ensures.same_form c.count_down.ensures.counted so_far.some;
      goes = goes_both None _ _ _ _ _ _ _ _ _ so_far.goes c.in-Ok-true.ensures.goes;
      fewer = one_fewer c.args.left.now c.packets.left c.count_down.new.left c.count_down.ensures.counted so_far.fewer;
      some = goes_on_left c.count_down.new.left (sym c.in_default.ensures.stops);
      same_keys = c.take_packet.ensures.same_keys ∙ so_far.same_keys;
      same_binding = c.take_packet.ensures.same_binding ∙ so_far.same_binding;
      desk_counted = c.in-Ok-true.ensures.desk_counted ∙ so_far.desk_counted;
    }

pub returns-in-Ok-false-clause-same_form : goal.returns-in-Ok-false-clause-same_form
returns-in-Ok-false-clause-same_form g c = c.take_packet.ensures.same_form ∙ c.packets.invariant.took.form

pub returns-in-Err-clause-same_form : goal.returns-in-Err-clause-same_form
returns-in-Err-clause-same_form g c = c.take_packet.ensures.same_form ∙ c.packets.invariant.took.form

pub returns-in-Err-count_down-clause-same_form : goal.returns-in-Err-count_down-clause-same_form
returns-in-Err-count_down-clause-same_form g c = c.take_packet.ensures.same_form ∙ c.packets.invariant.took.form

pub returns-clause-same_form : goal.returns-clause-same_form
returns-clause-same_form g c = c.packets.invariant.took.form
