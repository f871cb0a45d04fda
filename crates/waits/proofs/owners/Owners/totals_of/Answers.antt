use Rattle.std.proofs.Common.{◌∙◌, List, ap, sym, subst}
use Rattle.waits.specs.declared.stamped.Stamped.{Stamped}
use Rattle.waits.specs.Jobs.{is_of}
use Rattle.waits.specs.Stamps.{own}
use Rattle.waits.specs.Totals.{AreTotals}
use Rattle.waits.specs.Parts.{all_of}
use Rattle.waits.specs.Kept.{Kept}
use Rattle.waits.proofs.Parts.{found_own, none_there, filter_none}
use Rattle.waits.proofs.owners.Owners.totals_of.Goals as goal

pub returns-in-Some-clause-totals : goal.returns-in-Some-clause-totals
returns-in-Some-clause-totals c =
    let its = found_own c.args.key c.args.session c.self.inside.list.items c.in-Some.place c.index.result.now c.in-Some.ensures c.self.invariant.apart c.index.ensures in
    subst (λ (xs : List Stamped). AreTotals xs c.totals.result) (sym its ∙ ap (λ (kept : Kept). own c.args.key c.args.session kept.jobs) c.self.view_is) c.totals.ensures.totals

pub returns-in-None-clause-totals : goal.returns-in-None-clause-totals
returns-in-None-clause-totals c =
    let none = none_there c.args.key c.args.session c.self.inside.list.items c.in-None.ensures c.self.invariant.apart in
    let its = filter_none (λ (x : Stamped). is_of c.args.key c.args.session x.one) (all_of c.self.inside.list.items) none in
    subst (λ (xs : List Stamped). AreTotals xs c.none.result) (sym its ∙ ap (λ (kept : Kept). own c.args.key c.args.session kept.jobs) c.self.view_is) c.none.ensures
