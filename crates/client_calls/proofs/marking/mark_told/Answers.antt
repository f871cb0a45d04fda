use Rattle.std.proofs.Common.{sym, arith}
use Rattle.client_calls.specs.Marks.{table_told}
use Rattle.client_calls.proofs.FoldLemmas.{fold_next_both, fold_whole_both}
use Rattle.client_calls.proofs.marking.mark_told.Goals as goal

pub loop-place-init : goal.loop-place-init
loop-place-init c = (λ table stands. stands, λ last sound. sound)

pub loop-place-preserved : goal.loop-place-preserved
loop-place-preserved c = (
  λ table stands. rw (fold_next_both table_told table c.loop-place.place c.args.numbers.now c.args.states.now (omega (arith, c.loop-place-test.true)) c.requires) (c.mark_state.ensures.stands _ (c.loop-place.invariant.0 table stands)),
  λ last sound. c.mark_state.ensures.sound last (c.loop-place.invariant.1 last sound),
)

pub returns-clause-stands : goal.returns-clause-stands
returns-clause-stands c table stands =
    rw (sym (fold_whole_both table_told table c.loop-place.place c.args.numbers.now c.args.states.now (omega (arith, c.loop-place-test.false, c.loop-place.auto.place-end)) c.requires)) (c.loop-place.invariant.0 table stands)

pub returns-clause-sound : goal.returns-clause-sound
returns-clause-sound c last sound = c.loop-place.invariant.1 last sound
