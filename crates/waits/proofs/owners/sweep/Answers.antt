use Rattle.std.proofs.Common.{◌∙◌, ap, sym, subst}
use Rattle.waits.specs.Parts.{all_of}
use Rattle.waits.specs.Kept.{AreParts}
use Rattle.waits.proofs.Lent.{lent_at, swept}
use Rattle.waits.proofs.owners.sweep.Goals as goal

pub returns-then-totals-eq0-clause-jobs : goal.returns-then-totals-eq0-clause-jobs
returns-then-totals-eq0-clause-jobs c =
    let ps = c.args.list.now.items in
    let part = c.index.result.now in
    let left = swept ps c.args.place part (lent_at ps c.args.place part c.requires.within c.index.ensures) (sym c.totals.ensures.totals.count ∙ c.if-totals-eq0.true) c.requires.parts in
    ap all_of c.remove.ensures.items ∙ left.0

pub returns-then-totals-eq0-clause-parts : goal.returns-then-totals-eq0-clause-parts
returns-then-totals-eq0-clause-parts c =
    let ps = c.args.list.now.items in
    let part = c.index.result.now in
    let left = swept ps c.args.place part (lent_at ps c.args.place part c.requires.within c.index.ensures) (sym c.totals.ensures.totals.count ∙ c.if-totals-eq0.true) c.requires.parts in
    subst AreParts (sym c.remove.ensures.items) left.1
