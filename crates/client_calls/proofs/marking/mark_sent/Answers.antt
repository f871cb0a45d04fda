use Rattle.std.proofs.Common.{◌∙◌, sym, arith}
use Rattle.call_table.specs.declared.call.Group.TheVariants.{Outstanding}
use Rattle.call_table.specs.Table.{is_in}
use Rattle.client_rules.specs.Asking.{alone}
use Rattle.client_calls.proofs.MarkLemmas.{marked_all, marked_more, marked_next, marks_none}
use Rattle.client_calls.proofs.marking.mark_sent.Goals.{in-Some, in_default}
use Rattle.client_calls.proofs.marking.mark_sent.Goals as goal

pub loop-k-init : goal.loop-k-init
loop-k-init c = (
  λ table stands. rw (marks_none (is_in Outstanding) alone table.calls) stands,
  λ last sound. sound,
)

pub loop-k-preserved : goal.loop-k-preserved
loop-k-preserved c = (
  λ table stands.
      let so_far = c.loop-k.invariant.0 table stands in
      elim c.match-member.branch [
        | in-Some w ↦ rw (w.calls-is, sym (marked_more table.calls c.loop-k.k _ (sym (c.member.ensures.member _ so_far) ∙ w.in-Some.is))) (w.mark.ensures.stands _ so_far)
        | in_default w ↦ absurd (marked_next table.calls c.loop-k.k c.members-count.result c.loop-k-test.true (c.members-count.ensures.members table stands) (sym (c.member.ensures.member _ so_far) ∙ w.in_default.is))
      ],
  λ last sound.
      elim c.match-member.branch [
        | in-Some w ↦ rw (w.calls-is) (w.mark.ensures.sound last (c.loop-k.invariant.1 last sound))
        | in_default w ↦ rw (w.calls-is) (c.loop-k.invariant.1 last sound)
      ],
)

pub returns-clause-stands : goal.returns-clause-stands
returns-clause-stands c table stands =
    rw (sym (marked_all table.calls c.loop-k.k (omega (arith, c.loop-k-test.false, c.loop-k.auto.k-end, c.members-count.ensures.members table stands)))) (c.loop-k.invariant.0 table stands)

pub returns-clause-sound : goal.returns-clause-sound
returns-clause-sound c last sound = c.loop-k.invariant.1 last sound
