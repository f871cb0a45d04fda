use Rattle.std.proofs.Common.{arith, ◌∙◌}
use Rattle.client_core.specs.Flushed.{setting_of}
use Rattle.client_node.proofs.AllFlowing.{all_done, all_failed, so_far_more, too_many}
use Rattle.client_node.specs.Writes.{seen}
use Rattle.client_node.proofs.flushing.flush_all.Goals as goal

pub returns-in-Ok-false-clause-flow : goal.returns-in-Ok-false-clause-flow
returns-in-Ok-false-clause-flow g c =
    all_done (setting_of g.D.Draw.step (g.S.Seal.keys c.args.seal.now)) g.S.Seal.lock (g.S.Seal.keys c.args.seal.now) c.args.now c.args.client.now c.args.draw.now c.args.wire.now (seen (g.L.Link.told c.args.link.now) (g.L.Link.faults c.args.link.now))
    c.flushes._count c.flushes.client c.flushes.draw c.flushes.wire (seen (g.L.Link.told c.flushes.link) (g.L.Link.faults c.flushes.link)) c.flush_once.new.client c.flush_once.new.draw c.flush_once.new.wire (seen (g.L.Link.told c.flush_once.new.link) (g.L.Link.faults c.flush_once.new.link))
    c.flushes.invariant.so_far (rw (c.in-Ok-false.field-0-test) at c.in-Ok-false.ensures.flow)

pub returns-in-Err-clause-flow : goal.returns-in-Err-clause-flow
returns-in-Err-clause-flow g c =
    all_failed (setting_of g.D.Draw.step (g.S.Seal.keys c.args.seal.now)) g.S.Seal.lock (g.S.Seal.keys c.args.seal.now) c.args.now c.args.client.now c.args.draw.now c.args.wire.now (seen (g.L.Link.told c.args.link.now) (g.L.Link.faults c.args.link.now))
    c.flushes._count c.flushes.client c.flushes.draw c.flushes.wire (seen (g.L.Link.told c.flushes.link) (g.L.Link.faults c.flushes.link)) c.flush_once.new.client c.flush_once.new.draw c.flush_once.new.wire (seen (g.L.Link.told c.flush_once.new.link) (g.L.Link.faults c.flush_once.new.link))
    c.in-Err.end c.flushes.invariant.so_far c.in-Err.ensures.flow

pub flushes-preserved : goal.flushes-preserved
flushes-preserved g c =
    let so_far = c.flushes.invariant in
    let one = c.in-Ok-true.ensures in
    record {
      so_far = so_far_more (setting_of g.D.Draw.step (g.S.Seal.keys c.args.seal.now)) g.S.Seal.lock (g.S.Seal.keys c.args.seal.now) c.args.now c.args.client.now c.args.draw.now c.args.wire.now (seen (g.L.Link.told c.args.link.now) (g.L.Link.faults c.args.link.now))
          c.flushes._count c.flushes.client c.flushes.draw c.flushes.wire (seen (g.L.Link.told c.flushes.link) (g.L.Link.faults c.flushes.link)) c.flush_once.new.client c.flush_once.new.draw c.flush_once.new.wire (seen (g.L.Link.told c.flush_once.new.link) (g.L.Link.faults c.flush_once.new.link))
          so_far.so_far (rw (c.in-Ok-true.field-0-test) at one.flow);
      keys = one.keys;
      calls = one.count ∙ so_far.calls;
      goes_on = λ is. one.goes_on (so_far.goes_on is);
      faults = one.counted ∙ so_far.faults;
      place = one.same_standing ∙ so_far.place;
      same_in = (one.same_in.0 ∙ so_far.same_in.0, one.same_in.1 ∙ so_far.same_in.1, one.same_in.2 ∙ so_far.same_in.2);
    }

pub returns-clause-flow : goal.returns-clause-flow
returns-clause-flow g c =
    too_many (setting_of g.D.Draw.step (g.S.Seal.keys c.args.seal.now)) g.S.Seal.lock (g.S.Seal.keys c.args.seal.now) c.args.now c.args.client.now c.args.draw.now c.args.wire.now (seen (g.L.Link.told c.args.link.now) (g.L.Link.faults c.args.link.now))
    c.flushes._count c.calls.result c.flushes.client c.flushes.draw c.flushes.wire (seen (g.L.Link.told c.flushes.link) (g.L.Link.faults c.flushes.link))
    c.flushes_leave_less.ensures.less c.flushes_leave_less.ensures.few c.calls.ensures.count
    (omega (arith, c.flushes-test.false, c.flushes.auto._count-end, c.most_flushes-most.ensures)) c.flushes.invariant.so_far
