use Rattle.std.proofs.Common.{[], ◌∷◌, ◌++◌, inl, refl, ◌∙◌}
use Rattle.client_node.proofs.HearingSteps.{count_more, hears_more, none_heard, none_wrong, piece_done, piece_failed, sizes_more, took_more}
use Rattle.client_node.proofs.hearing.take_piece.Goals as goal

pub returns-in-Err-clause-took : goal.returns-in-Err-clause-took
returns-in-Err-clause-took g c =
    record { heard = []; sizes = none_wrong; took = λ reading course reads stands. (tt, stands); came = λ from packets bytes hears. inl refl }

pub packets-init : goal.packets-init
packets-init g c =
    record {
      heard = ([], refl, none_wrong, (λ reading course reads stands. (tt, stands)), (λ from packets bytes hears. none_heard _ from packets bytes hears));
      keys = λ ring has. has;
      calls = refl;
      same_out = c.feed.ensures.same_out;
    }

pub returns-in-Ok-false-clause-took : goal.returns-in-Ok-false-clause-took
returns-in-Ok-false-clause-took g c =
    let so_far = c.packets.invariant.heard in
    piece_done g.D.Draw.step g.S.Seal.lock (g.S.Seal.keys c.args.seal.now) c.args.now c.args.client c.args.draw.now c.args.wire.now c.feed.new.self c.args.piece.now
    so_far.0 c.packets.client c.packets.draw c.packets.wire c.take_next-next.result.0 c.take_next-next.new.draw c.take_next-next.new.wire
    c.in_default.ensures.hears so_far.2 so_far.3 so_far.4 c.packets.invariant.same_out.0
    (rw (c.in-Ok-false.field-0-test) at (rw c.in-Ok-false.is at c.take_next-next.ensures.next))

pub returns-in-Err-taken-clause-took : goal.returns-in-Err-taken-clause-took
returns-in-Err-taken-clause-took g c =
    let so_far = c.packets.invariant.heard in
    piece_failed g.D.Draw.step g.S.Seal.lock (g.S.Seal.keys c.args.seal.now) c.args.now c.args.client c.args.draw.now c.args.wire.now c.feed.new.self c.args.piece.now
    so_far.0 c.packets.client c.packets.draw c.packets.wire c.in-Err-taken.end c.take_next-next.result.0 c.take_next-next.new.draw c.take_next-next.new.wire
    c.in_default.ensures.hears so_far.2 so_far.3 so_far.4 c.packets.invariant.same_out.0
    (rw c.in-Err-taken.is at c.take_next-next.ensures.ends) (rw c.in-Err-taken.is at c.take_next-next.ensures.next)

pub packets-preserved : goal.packets-preserved
packets-preserved g c =
    let so_far = c.packets.invariant.heard in
    let next = rw (c.in-Ok-true.field-0-test) at (rw c.in-Ok-true.is at c.take_next-next.ensures.next) in
    let same = c.packets.invariant.same_out in
    let now_same = c.take_next-next.ensures.same_out in
    record {
      heard = (
        so_far.0 ++ next.0 ∷ [],
        count_more so_far.0 next.0 c.packets._count so_far.1,
        sizes_more so_far.0 next.0 so_far.2 next.1.size,
        took_more g.D.Draw.step g.S.Seal.lock (g.S.Seal.keys c.args.seal.now) c.args.now c.args.client c.args.draw.now so_far.0 c.packets.client c.packets.draw c.packets.wire c.take_next-next.new.wire next.0 c.take_next-next.result.0 c.take_next-next.new.draw so_far.3 next.1,
        hears_more c.feed.new.self c.packets.wire c.take_next-next.new.wire so_far.0 next.0 so_far.4 (λ from packets bytes hears. (next.1.came from packets bytes hears).hears),
      );
      keys = λ ring has. c.take_next-next.ensures.keys ring (c.packets.invariant.keys ring has);
      calls = c.take_next-next.ensures.count ∙ c.packets.invariant.calls;
      same_out = (now_same.0 ∙ same.0, now_same.1 ∙ same.1, now_same.2 ∙ same.2);
    }

pub returns-in-Ok-false-clause-keys : goal.returns-in-Ok-false-clause-keys
returns-in-Ok-false-clause-keys g c ring has = c.take_next-next.ensures.keys ring (c.packets.invariant.keys ring has)

pub returns-in-Err-taken-clause-keys : goal.returns-in-Err-taken-clause-keys
returns-in-Err-taken-clause-keys g c ring has = c.take_next-next.ensures.keys ring (c.packets.invariant.keys ring has)
