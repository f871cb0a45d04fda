use Rattle.std.proofs.Common.{subst}
use Rattle.waits.specs.Totals.{AreTotals}
use Rattle.waits.specs.Wanted.{is_wanted}
use Rattle.waits.specs.Parts.{all_of}
use Rattle.waits.specs.Kept.{Kept, IsFirstOf}
use Rattle.waits.proofs.Searching.{few_before}
use Rattle.waits.proofs.Lent.{first_out}
use Rattle.waits.proofs.owners.Owners.take_first.Goals as goal

pub returns-then-not-may_have-clause-none : goal.returns-then-not-may_have-clause-none
returns-then-not-may_have-clause-none c =
    let right = subst (λ (kept : Kept). AreTotals kept.jobs c.self.inside.totals) c.self.view_is c.self.invariant.counted in
    few_before (is_wanted c.args.wanted.now) c.args.limit c.args.self.now.jobs (c.may_have.ensures c.args.self.now.jobs right c.if-not-may_have.true)

pub returns-clause-found : goal.returns-clause-found
returns-clause-found c =
    let test = is_wanted c.args.wanted.now in
    let out = first_out test c.self.inside.list.items c.take_out.new.list.items c.in_ok-place.place c.take_out.result c.in_ok-place.ensures.found c.take_out.ensures.out in
    (out.0, out.1, subst (λ (kept : Kept). IsFirstOf test out.0 (all_of c.take_out.new.list.items) kept.jobs) c.self.view_is out.2)
