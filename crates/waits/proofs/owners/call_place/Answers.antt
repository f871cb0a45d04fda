use Rattle.std.proofs.Common.{◌∙◌, suc, List, take, drop, ap}
use Rattle.waits.specs.declared.stamped.Stamped.{Stamped}
use Rattle.waits.specs.Jobs.{is_call}
use Rattle.waits.specs.Stamps.{count_before}
use Rattle.waits.specs.Parts.{Part, all_of}
use Rattle.waits.proofs.Parts.{none_there}
use Rattle.waits.proofs.Keeping.{own_calls, none_called}
use Rattle.waits.proofs.Lent.{lent_part, first_at}
use Rattle.waits.proofs.owners.call_place.Goals as goal

pub returns-in_err-owner-clause-none : goal.returns-in_err-owner-clause-none
returns-in_err-owner-clause-none c =
    rw c.from_residual.ensures (none_called c.args.key c.args.session c.args.number c.args.limit (all_of c.args.list.now.items) (none_there c.args.key c.args.session c.args.list.now.items c.in_err-owner.ensures c.requires))

pub returns-in_err-first-clause-none : goal.returns-in_err-first-clause-none
returns-in_err-first-clause-none c =
    let ps = c.args.list.now.items in
    let i = c.in_ok-owner.owner in
    let part = c.index.result.now in
    let lent = lent_part c.args.key c.args.session ps i part c.in_ok-owner.ensures c.requires c.index.ensures in
    rw c.from_residual-in_err-first.ensures (ap (λ (rs : List Part). count_before (λ x. is_call c.args.key c.args.session c.args.number x.one) c.args.limit (all_of rs)) lent.at.parts
    ∙ (own_calls c.args.key c.args.session c.args.number c.args.limit (take i ps) part (drop (suc i) ps) lent.among ∙ c.in_err-first.ensures.none))

pub returns-clause-found : goal.returns-clause-found
returns-clause-found c =
    let ps = c.args.list.now.items in
    let i = c.in_ok-owner.owner in
    let part = c.index.result.now in
    let lent = lent_part c.args.key c.args.session ps i part c.in_ok-owner.ensures c.requires c.index.ensures in
    let test = λ (x : Stamped). is_call c.args.key c.args.session c.args.number x.one in
    first_at test c.args.limit ps i part c.in_ok-first.first lent.at lent.within c.in_ok-first.ensures.found
    (λ n none. ap (λ (rs : List Part). count_before test n (all_of rs)) lent.at.parts ∙ (own_calls c.args.key c.args.session c.args.number n (take i ps) part (drop (suc i) ps) lent.among ∙ none))
