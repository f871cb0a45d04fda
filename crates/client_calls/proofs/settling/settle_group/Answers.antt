use Rattle.std.proofs.Common.{◌≡◌, ◌∙◌, ◌-◌, List, ap, refl, sym, arith}
use Rattle.std.specs.Prelude.{option_map, slice_get}
use Rattle.call_table.specs.declared.row.Row.{Row}
use Rattle.call_table.specs.Kept.{Contents as Calls, is_row_in, with_row}
use Rattle.call_table.specs.Table.{call_no, is_in, places_from}
use Rattle.client_calls.specs.Rules.{call_by, row_by}
use Rattle.client_calls.proofs.WalkLemmas.{group_count, group_got, later_all, later_none, walks, walks_no_further}
use Rattle.client_calls.proofs.settling.settle_group.Goals.{in-Some, in_default}
use Rattle.client_calls.proofs.settling.settle_group.Goals as goal

pub loop-k-init : goal.loop-k-init
loop-k-init c = (
  rw (later_none (is_row_in c.args.group) (row_by c.args.rule) 0 (c.members-count.result - 0) c.args.calls.now.rows (omega (arith, c.members-count.ensures.kept))) refl,
  λ table stands. rw (later_none (is_in c.args.group) (call_by c.args.rule) 0 (c.members-count.result - 0) table.calls (omega (arith, c.members-count.ensures.members table stands, group_count c.args.group table.calls))) stands,
)

pub loop-k-preserved : goal.loop-k-preserved
loop-k-preserved c =
    let test = is_row_in c.args.group in
    let change = row_by c.args.rule in
    let count = c.members-count.result in
    let so_far = c.loop-k.invariant.0 in
    let found = ap (λ (one : Calls). option_map call_no (slice_get (places_from test 0 one.rows) (count - 1 - c.loop-k.k))) (sym so_far) ∙ sym c.member.ensures.kept in (
      elim c.match-member.branch [
        | in-Some w ↦
            w.calls-is
            ∙ (w.settle_one.ensures.kept
            ∙ (ap (with_row w.in-Some.call change) so_far
            ∙ ap (λ (rows : List Row). record c.args.calls.now { rows = rows }) (walks test change count c.loop-k.k c.args.calls.now.rows w.in-Some.call c.loop-k-test.true (found ∙ w.in-Some.is))))
        | in_default w ↦ absurd (walks_no_further test change count c.loop-k.k c.args.calls.now.rows c.loop-k-test.true c.members-count.ensures.kept (found ∙ w.in_default.is))
      ],
      λ table stands.
          let stood = c.loop-k.invariant.1 table stands in
          let told = sym (group_got c.args.group _ _) ∙ sym (c.member.ensures.member _ stood) in
          elim c.match-member.branch [
            | in-Some w ↦
                rw (w.calls-is, sym (walks (is_in c.args.group) (call_by c.args.rule) count c.loop-k.k table.calls w.in-Some.call c.loop-k-test.true (told ∙ w.in-Some.is)))
                (w.settle_one.ensures.stands _ stood)
            | in_default w ↦
                absurd (walks_no_further (is_in c.args.group) (call_by c.args.rule) count c.loop-k.k table.calls c.loop-k-test.true (c.members-count.ensures.members table stands ∙ group_count c.args.group table.calls) (told ∙ w.in_default.is))
          ],
    )

pub returns-clause-kept : goal.returns-clause-kept
returns-clause-kept c =
    let none : c.members-count.result - c.loop-k.k ≡ 0 = omega (arith, c.loop-k-test.false) in
    rw (sym (later_all (is_row_in c.args.group) (row_by c.args.rule) c.args.calls.now.rows), sym none) c.loop-k.invariant.0

pub returns-clause-stands : goal.returns-clause-stands
returns-clause-stands c table stands =
    let none : c.members-count.result - c.loop-k.k ≡ 0 = omega (arith, c.loop-k-test.false) in
    rw (sym (later_all (is_in c.args.group) (call_by c.args.rule) table.calls), sym none) (c.loop-k.invariant.1 table stands)
