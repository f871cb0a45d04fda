use Rattle.std.proofs.Common.{◌∙◌, ◌+◌, ◌<◌, length, ap, sym, subst, arith}
use Rattle.waits.specs.Stamps.{count_before}
use Rattle.waits.specs.Totals.{AreTotals}
use Rattle.waits.specs.Wanted.{is_wanted}
use Rattle.waits.specs.Kept.{Kept}
use Rattle.waits.proofs.Searching.{few_before}
use Rattle.waits.proofs.Lent.{lent_at, count_none, count_on, count_all, count_fits}
use Rattle.waits.proofs.owners.Owners.count.Goals as goal

pub returns-then-not-may_have : goal.returns-then-not-may_have
returns-then-not-may_have c =
    let right = subst (λ (kept : Kept). AreTotals kept.jobs c.self.inside.totals) c.self.view_is c.self.invariant.counted in
    sym (few_before (is_wanted c.args.wanted.now) c.args.limit c.args.self.now.jobs (c.may_have.ensures c.args.self.now.jobs right c.if-not-may_have.true))

pub loop-place-init : goal.loop-place-init
loop-place-init c = count_none (is_wanted c.args.wanted.now) c.args.limit c.self.inside.list.items

pub overflow_add-count : goal.overflow_add-count
overflow_add-count c =
    let ps = c.self.inside.list.items in
    let test = is_wanted c.args.wanted.now in
    let within : c.loop-place.place < length ps = omega (arith, c.loop-place-test.true, c.len-place-end.ensures) in
    let next = count_on test c.args.limit ps c.loop-place.place c.index.result.now c.loop-place.count c.count-count.result (lent_at ps c.loop-place.place c.index.result.now within c.index.ensures) within c.loop-place.invariant c.count-count.ensures in
    omega (arith, count_fits test c.args.limit ps (c.loop-place.place + 1) (c.loop-place.count + c.count-count.result) next, c.self.invariant.few)

pub loop-place-preserved : goal.loop-place-preserved
loop-place-preserved c =
    let ps = c.self.inside.list.items in
    let within : c.loop-place.place < length ps = omega (arith, c.loop-place-test.true, c.len-place-end.ensures) in
    count_on (is_wanted c.args.wanted.now) c.args.limit ps c.loop-place.place c.index.result.now c.loop-place.count c.count-count.result (lent_at ps c.loop-place.place c.index.result.now within c.index.ensures) within c.loop-place.invariant c.count-count.ensures

pub returns : goal.returns
returns c =
    let test = is_wanted c.args.wanted.now in
    count_all test c.args.limit c.self.inside.list.items c.loop-place.place c.loop-place.count (omega (arith, c.loop-place-test.false, c.len-place-end.ensures)) c.loop-place.invariant
    ∙ ap (λ (kept : Kept). count_before test c.args.limit kept.jobs) c.self.view_is
