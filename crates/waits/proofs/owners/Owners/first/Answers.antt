use Rattle.std.proofs.Common.{◌∙◌, get_or, ap, subst}
use Rattle.waits.specs.declared.stamped.Stamped.{Stamped}
use Rattle.waits.specs.Wanted.{is_wanted}
use Rattle.waits.specs.Parts.{Part}
use Rattle.waits.specs.Kept.{Kept, IsFirstOf}
use Rattle.waits.proofs.Lent.{first_among}
use Rattle.waits.proofs.owners.Owners.first.Goals as goal

pub returns-clause-found : goal.returns-clause-found
returns-clause-found c =
    let place = c.in_ok-place.place in
    let part = c.index.result.now in
    let test = is_wanted c.args.wanted.now in
    let first = first_among test c.self.inside.list.items place c.in_ok-place.ensures.found in
    let x = first.0 in (
      x,
      first.1,
      ap (λ (y : Stamped). y.one.job) (c.job.ensures x ∙ (ap (λ (p : Part). get_or p.jobs place.at x) c.index.ensures ∙ first.2 part x)),
      subst (λ (kept : Kept). IsFirstOf test x first.1 kept.jobs) c.self.view_is first.3,
    )
