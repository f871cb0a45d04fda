use Rattle.std.proofs.Common.{length, refl, arith}
use Rattle.std.proofs.lemmas.Option.{slice_get_read}
use Rattle.trace_check.specs.Facts.{At}
use Rattle.trace_check.proofs.Judging.{iff_by}
use Rattle.trace_check.proofs.Stepping.{each_more, longer_by_one, right_keeps, states_more}
use Rattle.trace_check.proofs.starts.served.Goals as goal

pub loop-place-preserved : goal.loop-place-preserved
loop-place-preserved c =
    let facts = c.args.facts.now in
    let place = c.loop-place.place in
    let fact = c.index-facts-place.result in
    let at : At facts place fact = slice_get_read facts (length facts) place fact refl (omega arith) c.index-facts-place.is in
    let own = iff_by c.in_ok-right.ensures.right (right_keeps facts place fact c.loop-place.services at c.loop-place.invariant.states) in
    record {
      states = states_more facts place fact c.loop-place.services c.is_served.new.services at c.loop-place.invariant.states c.in_ok-right.ensures.after;
      count = longer_by_one c.loop-place.served.items c.append.new.served.items c.in_ok-right.right place c.loop-place.invariant.count c.in_ok-append.ensures;
      each = each_more facts c.loop-place.served.items c.append.new.served.items c.in_ok-right.right place c.loop-place.invariant.count c.in_ok-append.ensures own c.loop-place.invariant.each;
    }

pub returns : goal.returns
returns c = record {
  count = let n = c.loop-place.invariant.count in omega (arith, n);
  each = c.loop-place.invariant.each;
}
