use Rattle.std.proofs.Common.{◌∙◌, ◌<◌, List, length, get_or, slice_set, ap, sym, subst, arith}
use Rattle.waits.specs.declared.stamped.Stamped.{Stamped}
use Rattle.waits.specs.Stamps.{IsWith}
use Rattle.waits.specs.Totals.{AreTotals}
use Rattle.waits.specs.Parts.{Part, all_of}
use Rattle.waits.specs.Kept.{strangers}
use Rattle.waits.proofs.Counted.{holds_one, among_length}
use Rattle.waits.proofs.Keeping.{strangers_less}
use Rattle.waits.proofs.Lent.{lent_at, own_at, parts_set, taken_set}
use Rattle.waits.proofs.Rising.{picked}
use Rattle.waits.proofs.owners.take_out.Goals as goal

pub without-requires : goal.without-requires
without-requires c =
    let ps = c.args.list.now.items in
    let part = c.index_mut.result.now in
    let x = c.only.result.now in
    let one = lent_at ps c.args.place.owner part c.requires.there.within c.index_mut.ensures.value in
    let within : c.args.place.at < length part.jobs = subst (λ (p : Part). c.args.place.at < length p.jobs) (one.there part) (c.requires.there.at part) in
    let there = picked part.jobs c.args.place.at x within (sym c.take_at-node.ensures.taken ∙ c.only.ensures) in
    let jobs = ap (λ (p : Part). p.jobs) c.take_at-node.ensures.left in
    let among = taken_set ps c.args.place.owner part c.take_at-node.new.self c.args.place.at x one c.requires.there.within there jobs in
    holds_one x (all_of (slice_set ps c.args.place.owner c.take_at-node.new.self)) (all_of ps) c.args.totals.now among c.requires.kept.counted

pub sweep-requires-clause-parts : goal.sweep-requires-clause-parts
sweep-requires-clause-parts c =
    let ps = c.args.list.now.items in
    let part = c.index_mut.result.now in
    let x = c.only.result.now in
    let one = lent_at ps c.args.place.owner part c.requires.there.within c.index_mut.ensures.value in
    let within : c.args.place.at < length part.jobs = subst (λ (p : Part). c.args.place.at < length p.jobs) (one.there part) (c.requires.there.at part) in
    let there = picked part.jobs c.args.place.at x within (sym c.take_at-node.ensures.taken ∙ c.only.ensures) in
    parts_set ps c.args.place.owner part c.take_at-node.new.self one c.requires.there.within c.requires.kept.apart
    (ap (λ (p : Part). p.key) c.take_at-node.ensures.left)
    (ap (λ (p : Part). p.session) c.take_at-node.ensures.left)
    (ap strangers c.take_at-node.ensures.left ∙ strangers_less part c.args.place.at x there (own_at ps c.args.place.owner part one c.requires.kept.apart))

pub returns-clause-out : goal.returns-clause-out
returns-clause-out c =
    let ps = c.args.list.now.items in
    let part = c.index_mut.result.now in
    let taken = c.empty.ensures.taken in
    let x = taken.0 in
    let one = lent_at ps c.args.place.owner part c.requires.there.within c.index_mut.ensures.value in
    let within : c.args.place.at < length part.jobs = subst (λ (p : Part). c.args.place.at < length p.jobs) (one.there part) (c.requires.there.at part) in
    let there = picked part.jobs c.args.place.at x within (sym c.take_at-node.ensures.taken ∙ taken.1) in
    let jobs = ap (λ (p : Part). p.jobs) c.take_at-node.ensures.left in
    let among = taken_set ps c.args.place.owner part c.take_at-node.new.self c.args.place.at x one c.requires.there.within there jobs in
    record {
      stamped = x;
      job = taken.2;
      here = λ d y. ap (λ (p : Part). get_or p.jobs c.args.place.at y) (one.there d) ∙ there.there y;
      others = subst (λ (xs : List Stamped). IsWith x xs (all_of ps)) (sym c.sweep.ensures.jobs) among;
    }

pub returns-clause-kept : goal.returns-clause-kept
returns-clause-kept c =
    let ps = c.args.list.now.items in
    let part = c.index_mut.result.now in
    let x = c.only.result.now in
    let one = lent_at ps c.args.place.owner part c.requires.there.within c.index_mut.ensures.value in
    let within : c.args.place.at < length part.jobs = subst (λ (p : Part). c.args.place.at < length p.jobs) (one.there part) (c.requires.there.at part) in
    let there = picked part.jobs c.args.place.at x within (sym c.take_at-node.ensures.taken ∙ c.only.ensures) in
    let jobs = ap (λ (p : Part). p.jobs) c.take_at-node.ensures.left in
    let others = slice_set ps c.args.place.owner c.take_at-node.new.self in
    let among = taken_set ps c.args.place.owner part c.take_at-node.new.self c.args.place.at x one c.requires.there.within there jobs in
    record {
      apart = c.sweep.ensures.parts;
      counted = subst (λ (xs : List Stamped). AreTotals xs c.without.result) (sym c.sweep.ensures.jobs) (c.without.ensures (all_of others) (all_of ps) among c.requires.kept.counted);
      few = omega (arith, c.requires.kept.few, ap (λ (xs : List Stamped). length xs) c.sweep.ensures.jobs, among_length x (all_of others) (all_of ps) among);
    }
