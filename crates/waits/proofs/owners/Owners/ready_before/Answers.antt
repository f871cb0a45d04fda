use Rattle.std.proofs.Common.{◌∙◌, ◌+◌, ◌<◌, Bool, length, ap, arith}
use Rattle.waits.specs.Stamps.{count_before}
use Rattle.waits.specs.declared.stamped.Stamped.{Stamped}
use Rattle.waits.specs.Jobs.{is_ready}
use Rattle.waits.specs.Kept.{Kept}
use Rattle.waits.proofs.Lent.{lent_at, count_none, count_on, count_all, count_fits}
use Rattle.waits.proofs.owners.Owners.ready_before.Goals as goal

abbrev ready : Stamped → Bool
ready x = is_ready x.one

pub loop-place-init : goal.loop-place-init
loop-place-init c = count_none ready c.args.limit c.self.inside.list.items

pub overflow_add-count : goal.overflow_add-count
overflow_add-count c =
    let ps = c.self.inside.list.items in
    let within : c.loop-place.place < length ps = omega (arith, c.loop-place-test.true, c.len-place-end.ensures) in
    let next = count_on ready c.args.limit ps c.loop-place.place c.index.result.now c.loop-place.count c.ready_before-count.result (lent_at ps c.loop-place.place c.index.result.now within c.index.ensures) within c.loop-place.invariant c.ready_before-count.ensures in
    omega (arith, count_fits ready c.args.limit ps (c.loop-place.place + 1) (c.loop-place.count + c.ready_before-count.result) next, c.self.invariant.few)

pub loop-place-preserved : goal.loop-place-preserved
loop-place-preserved c =
    let ps = c.self.inside.list.items in
    let within : c.loop-place.place < length ps = omega (arith, c.loop-place-test.true, c.len-place-end.ensures) in
    count_on ready c.args.limit ps c.loop-place.place c.index.result.now c.loop-place.count c.ready_before-count.result (lent_at ps c.loop-place.place c.index.result.now within c.index.ensures) within c.loop-place.invariant c.ready_before-count.ensures

pub returns : goal.returns
returns c =
    count_all ready c.args.limit c.self.inside.list.items c.loop-place.place c.loop-place.count (omega (arith, c.loop-place-test.false, c.len-place-end.ensures)) c.loop-place.invariant
    ∙ ap (λ (kept : Kept). count_before ready c.args.limit kept.jobs) c.self.view_is
