use Rattle.std.proofs.Common.{◌∙◌, List, ap, sym}
use Rattle.waits.specs.declared.stamped.Stamped.{Stamped}
use Rattle.waits.specs.Jobs.{is_of}
use Rattle.waits.specs.Stamps.{own, count_before}
use Rattle.waits.specs.Wanted.{is_wanted}
use Rattle.waits.specs.Parts.{all_of}
use Rattle.waits.specs.Kept.{Kept}
use Rattle.waits.proofs.Parts.{found_own, none_there, filter_none}
use Rattle.waits.proofs.owners.Owners.count_of.Goals as goal

pub returns-in-Some : goal.returns-in-Some
returns-in-Some c =
    let its = found_own c.args.key c.args.session c.self.inside.list.items c.in-Some.place c.index.result.now c.in-Some.ensures c.self.invariant.apart c.index.ensures in
    c.count.ensures ∙ ap (λ (xs : List Stamped). count_before (is_wanted c.args.wanted.now) c.args.limit xs) (sym its ∙ ap (λ (kept : Kept). own c.args.key c.args.session kept.jobs) c.self.view_is)

pub returns-in-None : goal.returns-in-None
returns-in-None c =
    let none = none_there c.args.key c.args.session c.self.inside.list.items c.in-None.ensures c.self.invariant.apart in
    let its = filter_none (λ (x : Stamped). is_of c.args.key c.args.session x.one) (all_of c.self.inside.list.items) none in
    ap (λ (xs : List Stamped). count_before (is_wanted c.args.wanted.now) c.args.limit xs) (sym its ∙ ap (λ (kept : Kept). own c.args.key c.args.session kept.jobs) c.self.view_is)
