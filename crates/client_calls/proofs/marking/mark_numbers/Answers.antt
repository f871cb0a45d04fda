use Rattle.std.proofs.Common.{sym, arith}
use Rattle.client_calls.specs.Marks.{table_alone}
use Rattle.client_calls.proofs.FoldLemmas.{fold_all, fold_next}
use Rattle.client_calls.proofs.marking.mark_numbers.Goals as goal

pub loop-place-init : goal.loop-place-init
loop-place-init c = (λ table stands. stands, λ last sound. sound)

pub loop-place-preserved : goal.loop-place-preserved
loop-place-preserved c = (
  λ table stands. rw (fold_next table_alone table c.loop-place.place c.args.numbers.now (omega (arith, c.loop-place-test.true))) (c.mark_number.ensures.stands _ (c.loop-place.invariant.0 table stands)),
  λ last sound. c.mark_number.ensures.sound last (c.loop-place.invariant.1 last sound),
)

pub returns-clause-stands : goal.returns-clause-stands
returns-clause-stands c table stands =
    rw (sym (fold_all table_alone table c.loop-place.place c.args.numbers.now (omega (arith, c.loop-place-test.false, c.loop-place.auto.place-end)))) (c.loop-place.invariant.0 table stands)

pub returns-clause-sound : goal.returns-clause-sound
returns-clause-sound c last sound = c.loop-place.invariant.1 last sound
