use Rattle.std.proofs.Common.{◌∙◌, take, ap, sym, arith}
use Rattle.call_table.specs.Table.{inner_of}
use Rattle.client_calls.specs.Marks.{table_alone}
use Rattle.client_calls.proofs.FoldLemmas.{fold_all, fold_next_got, got_there, packets_stay}
use Rattle.client_calls.proofs.marking.mark_first.Goals.{in-Some, in_default}
use Rattle.client_calls.proofs.marking.mark_first.Goals as goal

pub loop-place-init : goal.loop-place-init
loop-place-init c = (λ table stands numbers told count. stands, λ last sound. sound)

pub loop-place-preserved : goal.loop-place-preserved
loop-place-preserved c = (
  λ table stands numbers told count.
      let so_far = c.loop-place.invariant.0 table stands numbers told count in
      let there = ap (inner_of c.args.about) (packets_stay (take c.loop-place.place numbers) table) ∙ told in
      elim c.match-inner_at.branch [
        | in-Some w ↦ rw (w.calls-is, fold_next_got table_alone table c.loop-place.place _ numbers (sym (c.inner_at.ensures.told _ so_far numbers there) ∙ w.in-Some.is)) (w.mark_number.ensures.stands _ so_far)
        | in_default w ↦ absurd (got_there c.loop-place.place numbers (omega (arith, c.loop-place-test.true, count)) (sym (c.inner_at.ensures.told _ so_far numbers there) ∙ w.in_default.is))
      ],
  λ last sound.
      elim c.match-inner_at.branch [
        | in-Some w ↦ rw (w.calls-is) (w.mark_number.ensures.sound last (c.loop-place.invariant.1 last sound))
        | in_default w ↦ rw (w.calls-is) (c.loop-place.invariant.1 last sound)
      ],
)

pub returns-clause-stands : goal.returns-clause-stands
returns-clause-stands c table stands numbers told count =
    rw (sym (fold_all table_alone table c.loop-place.place numbers (omega (arith, c.loop-place-test.false, c.loop-place.auto.place-end, count)))) (c.loop-place.invariant.0 table stands numbers told count)

pub returns-clause-sound : goal.returns-clause-sound
returns-clause-sound c last sound = c.loop-place.invariant.1 last sound
