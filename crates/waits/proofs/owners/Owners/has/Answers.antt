use Rattle.std.proofs.Common.{◌∙◌, suc, List, take, drop, ap, sym}
use Rattle.std.specs.List.{list_any}
use Rattle.waits.specs.declared.stamped.Stamped.{Stamped}
use Rattle.waits.specs.Jobs.{is_call}
use Rattle.waits.specs.Parts.{Part, all_of}
use Rattle.waits.specs.Kept.{Kept}
use Rattle.waits.proofs.Parts.{none_there}
use Rattle.waits.proofs.Keeping.{no_call_at_all, own_call}
use Rattle.waits.proofs.Lent.{lent_part}
use Rattle.waits.proofs.owners.Owners.has.Goals as goal

pub returns-in-Some : goal.returns-in-Some
returns-in-Some c =
    let ps = c.self.inside.list.items in
    let i = c.in-Some.place in
    let part = c.index.result.now in
    let lent = lent_part c.args.key c.args.session ps i part c.in-Some.ensures c.self.invariant.apart c.index.ensures in
    let test = λ (x : Stamped). is_call c.args.key c.args.session c.args.number x.one in
    c.has.ensures
    ∙ (sym (own_call c.args.key c.args.session c.args.number (take i ps) part (drop (suc i) ps) lent.among)
    ∙ (ap (λ (rs : List Part). list_any test (all_of rs)) (sym lent.at.parts) ∙ ap (λ (kept : Kept). list_any test kept.jobs) c.self.view_is))

pub returns-in-None : goal.returns-in-None
returns-in-None c =
    let ps = c.self.inside.list.items in
    let none = none_there c.args.key c.args.session ps c.in-None.ensures c.self.invariant.apart in
    sym (no_call_at_all c.args.key c.args.session c.args.number (all_of ps) none)
    ∙ ap (λ (kept : Kept). list_any (λ x. is_call c.args.key c.args.session c.args.number x.one) kept.jobs) c.self.view_is
