use Rattle.std.proofs.Common.{rules, ◌++◌, take, ◌∙◌}
use Rattle.server_node.proofs.Writing.{front_more, told_more}
use Rattle.server_node.proofs.sending.send.Goals as goal

pub loop-rest-preserved : goal.loop-rest-preserved
loop-rest-preserved g c =
    let so_far = c.loop-rest.invariant in
    let count = c.in-Took.count in
    let rest = c.loop-rest.rest.now in
    record {
      written = (so_far.written.0 ++ take count rest, front_more c.args.piece.now so_far.written.0 rest count so_far.written.1, told_more so_far.written.0 rest count _ _ _ so_far.written.2 c.in-Took.ensures.told);
      goes_on = λ is. c.in-Took.ensures.still_tells (so_far.goes_on is);
      place = c.in-Took.ensures.same_standing ∙ so_far.place;
      faults = c.in-Took.ensures.counted ∙ so_far.faults;
    }
