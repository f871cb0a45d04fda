use Rattle.std.proofs.Common.{◌∙◌, sym, arith, length-drop}
use Rattle.tl_codec.proofs.Longs.{longs_more}
use Rattle.tl_codec.proofs.reader.numbers_of.Goals as goal

pub loop-preserved : goal.loop-preserved
loop-preserved c =
    let left = c.loop.left.now in
    let more = longs_more c.loop.numbers.items left c.args.count c.loop.counter c.loop-test.true in
    record {
      enough = rw c.split_at.ensures.back (omega (arith, length-drop 8 left, c.loop.invariant.enough));
      so_far = rw (c.in_ok-push.ensures.items, c.read_u64.ensures, c.split_at.ensures.front, c.split_at.ensures.back) (sym more ∙ c.loop.invariant.so_far);
    }
