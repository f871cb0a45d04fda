use Rattle.std.proofs.Common.{◌≡◌, ◌∙◌, get_or, ap, sym, subst}
use Rattle.waits.specs.declared.stamped.Stamped.{Stamped}
use Rattle.waits.specs.Stamps.{count_before}
use Rattle.waits.specs.Wanted.{is_wanted}
use Rattle.waits.specs.Parts.{Part, all_of}
use Rattle.waits.specs.Kept.{Kept}
use Rattle.waits.proofs.owners.Owners.first_stamp.Goals as goal

pub returns-in-Some : goal.returns-in-Some
returns-in-Some c =
    let place = c.in-Some.place in
    let part = c.index.result.now in
    let test = is_wanted c.args.wanted.now in
    let x = c.job.result.now in
    let here = c.job.ensures x ∙ ap (λ (p : Part). get_or p.jobs place.at x) c.index.ensures in
    let none = subst (λ (y : Stamped). count_before test y.stamp (all_of c.self.inside.list.items) ≡ 0) (sym here) (c.in-Some.ensures.found.none part x) in
    subst (λ (kept : Kept). count_before test x.stamp kept.jobs ≡ 0) c.self.view_is none

pub returns-in-None : goal.returns-in-None
returns-in-None c = subst (λ (kept : Kept). count_before (is_wanted c.args.wanted.now) c.args.limit kept.jobs ≡ 0) c.self.view_is c.in-None.ensures.none
