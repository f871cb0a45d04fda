use Rattle.std.proofs.Common.{◌∙◌, List, length, ap, sym}
use Rattle.waits.specs.declared.stamped.Stamped.{Stamped}
use Rattle.waits.specs.Jobs.{is_of}
use Rattle.waits.specs.Stamps.{bytes_of, own}
use Rattle.waits.specs.Parts.{all_of}
use Rattle.waits.specs.Kept.{Kept}
use Rattle.waits.proofs.Parts.{found_own, none_there, filter_none}
use Rattle.waits.proofs.owners.Owners.load.Goals as goal

pub returns-in-Some-clause-count : goal.returns-in-Some-clause-count
returns-in-Some-clause-count c =
    let its = found_own c.args.key c.args.session c.self.inside.list.items c.in-Some.place c.index.result.now c.in-Some.ensures c.self.invariant.apart c.index.ensures in
    c.totals.ensures.totals.count ∙ ap (λ (xs : List Stamped). length xs) (sym its ∙ ap (λ (kept : Kept). own c.args.key c.args.session kept.jobs) c.self.view_is)

pub returns-in-Some-clause-bytes : goal.returns-in-Some-clause-bytes
returns-in-Some-clause-bytes c =
    let its = found_own c.args.key c.args.session c.self.inside.list.items c.in-Some.place c.index-in-Some.result.now c.in-Some.ensures c.self.invariant.apart c.index-in-Some.ensures in
    c.bytes.ensures.bytes ∙ ap bytes_of (sym its ∙ ap (λ (kept : Kept). own c.args.key c.args.session kept.jobs) c.self.view_is)

pub returns-in-None-clause-count : goal.returns-in-None-clause-count
returns-in-None-clause-count c =
    let none = none_there c.args.key c.args.session c.self.inside.list.items c.in-None.ensures c.self.invariant.apart in
    let its = filter_none (λ (x : Stamped). is_of c.args.key c.args.session x.one) (all_of c.self.inside.list.items) none in
    ap (λ (xs : List Stamped). length xs) (sym its ∙ ap (λ (kept : Kept). own c.args.key c.args.session kept.jobs) c.self.view_is)

pub returns-in-None-clause-bytes : goal.returns-in-None-clause-bytes
returns-in-None-clause-bytes c =
    let none = none_there c.args.key c.args.session c.self.inside.list.items c.in-None.ensures c.self.invariant.apart in
    let its = filter_none (λ (x : Stamped). is_of c.args.key c.args.session x.one) (all_of c.self.inside.list.items) none in
    ap bytes_of (sym its ∙ ap (λ (kept : Kept). own c.args.key c.args.session kept.jobs) c.self.view_is)
