use Rattle.std.proofs.Common.{◌≡◌, ◌∙◌, suc, not, List, [], ◌++◌, length, take, drop, ap, sym, subst, arith, length-append}
use Rattle.std.specs.List.{filter}
use Rattle.waits.specs.declared.stamped.Stamped.{Stamped}
use Rattle.waits.specs.Jobs.{is_of}
use Rattle.waits.specs.Stamps.{tally}
use Rattle.waits.specs.Totals.{AreTotals}
use Rattle.waits.specs.Parts.{all_of}
use Rattle.waits.specs.Kept.{Kept, AreParts}
use Rattle.waits.proofs.Counted.{part_held, part_changed}
use Rattle.waits.proofs.Parts.{all_append, filter_rest, none_there}
use Rattle.waits.proofs.Lent.{lent_part, forgotten, around_at}
use Rattle.waits.proofs.owners.Owners.forget.Goals as goal

pub returns-in_default-clause-jobs : goal.returns-in_default-clause-jobs
returns-in_default-clause-jobs c =
    let none = none_there c.args.key c.args.session c.self.inside.list.items c.in_default.ensures c.self.invariant.apart in
    let absent = subst (λ (kept : Kept). tally (λ x. is_of c.args.key c.args.session x.one) kept.jobs ≡ 0) c.self.view_is none in
    sym (filter_rest (λ (x : Stamped). is_of c.args.key c.args.session x.one) c.args.self.now.jobs absent)

pub changed-self-inside-requires : goal.changed-self-inside-requires
changed-self-inside-requires c =
    let ps = c.self.inside.list.items in
    let i = c.in-Some.place in
    let part = c.remove-owner.result in
    let lent = lent_part c.args.key c.args.session ps i part c.in-Some.ensures c.self.invariant.apart c.remove-owner.ensures.value in
    let front = all_of (take i ps) in
    let back = all_of (drop (suc i) ps) in
    let parts = around_at ps i part lent.at in
    part_held front part.jobs [] back c.self.inside.totals c.totals.result c.none.result
    (subst (λ (xs : List Stamped). AreTotals xs c.self.inside.totals) parts c.self.invariant.counted)
    c.totals.ensures.totals c.none.ensures
    (omega (arith, c.self.invariant.few, ap (λ (xs : List Stamped). length xs) parts, length-append front (part.jobs ++ back), length-append part.jobs back))

pub invariant_of-self : goal.invariant_of-self
invariant_of-self c =
    let ps = c.self.inside.list.items in
    let i = c.in-Some.place in
    let part = c.remove-owner.result in
    let lent = lent_part c.args.key c.args.session ps i part c.in-Some.ensures c.self.invariant.apart c.remove-owner.ensures.value in
    let front = all_of (take i ps) in
    let back = all_of (drop (suc i) ps) in
    let parts = around_at ps i part lent.at in
    let left : all_of c.remove-owner.new.self.items ≡ front ++ back = ap all_of c.remove-owner.ensures.items ∙ all_append (take i ps) (drop (suc i) ps) in
    record {
      apart = subst AreParts (sym c.remove-owner.ensures.items) (forgotten c.args.key c.args.session ps i part lent c.self.invariant.apart).1;
      counted = subst (λ (xs : List Stamped). AreTotals xs c.changed-self-inside.result) (sym left)
          (part_changed front part.jobs [] back c.self.inside.totals c.totals.result c.none.result c.changed-self-inside.result
          (subst (λ (xs : List Stamped). AreTotals xs c.self.inside.totals) parts c.self.invariant.counted) c.totals.ensures.totals c.none.ensures c.changed-self-inside.ensures);
      few = omega (arith, c.self.invariant.few, ap (λ (xs : List Stamped). length xs) parts, ap (λ (xs : List Stamped). length xs) left, length-append front (part.jobs ++ back), length-append part.jobs back, length-append front back);
    }

pub returns-clause-jobs : goal.returns-clause-jobs
returns-clause-jobs c =
    let ps = c.self.inside.list.items in
    let i = c.in-Some.place in
    let lent = lent_part c.args.key c.args.session ps i c.remove-owner.result c.in-Some.ensures c.self.invariant.apart c.remove-owner.ensures.value in
    ap all_of c.remove-owner.ensures.items
    ∙ ((forgotten c.args.key c.args.session ps i c.remove-owner.result lent c.self.invariant.apart).0
    ∙ ap (λ (kept : Kept). filter (λ x. not (is_of c.args.key c.args.session x.one)) kept.jobs) c.self.view_is)
