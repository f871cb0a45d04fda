use Rattle.std.proofs.Common.{◌∙◌, ◌<◌, List, length, take, drop, ap, arith, sym}
use Rattle.std.specs.List.{remove}
use Rattle.waits.specs.declared.stamped.Stamped.{Stamped}
use Rattle.waits.specs.Jobs.{load_of}
use Rattle.waits.specs.Parts.{Part}
use Rattle.waits.proofs.Counted.{holds_one, among_sum}
use Rattle.waits.proofs.Owned.{among_at}
use Rattle.waits.proofs.Owning.{owned_less}
use Rattle.waits.proofs.Rising.{element, picked}
use Rattle.waits.proofs.View.{part_changed}
use Rattle.waits.proofs.owner.Owner.take_at.Goals as goal

pub pick-node-requires : goal.pick-node-requires
pick-node-requires c =
    record {
      within = omega (arith, c.requires, ap (λ (part : Part). length part.jobs) c.self.view_is);
      few = omega (arith, c.self.invariant.fits);
    }

pub only-job-requires : goal.only-job-requires
only-job-requires c =
    let within : c.args.at < length c.self.inside.jobs = omega (arith, c.requires, ap (λ (part : Part). length part.jobs) c.self.view_is) in
    omega (arith, ap (λ (xs : List Stamped). length xs) c.pick-node.ensures.node, ap (λ (xs : List Stamped). length xs) (element c.self.inside.jobs c.args.at within).1.alone)

pub without-self-inside-requires : goal.without-self-inside-requires
without-self-inside-requires c =
    let xs = c.self.inside.jobs in
    let within : c.args.at < length xs = omega (arith, c.requires, ap (λ (part : Part). length part.jobs) c.self.view_is) in
    let one = picked xs c.args.at c.only-job.result.now within (sym c.pick-node.ensures.node ∙ c.only-job.ensures) in
    holds_one c.only-job.result.now (remove xs c.args.at) xs c.self.inside.totals (among_at xs c.args.at c.only-job.result.now one) c.self.invariant.totals

pub overflow_sub-self : goal.overflow_sub-self
overflow_sub-self c =
    let xs = c.self.inside.jobs in
    let x = c.only-job.result.now in
    let within : c.args.at < length xs = omega (arith, c.requires, ap (λ (part : Part). length part.jobs) c.self.view_is) in
    let one = picked xs c.args.at x within (sym c.pick-node.ensures.node ∙ c.only-job.ensures) in
    omega (arith, c.load.ensures, c.self.invariant.bytes, among_sum (λ y. load_of y.one.job) x (remove xs c.args.at) xs (among_at xs c.args.at x one))

pub invariant_of-self : goal.invariant_of-self
invariant_of-self c =
    let xs = c.self.inside.jobs in
    let x = c.only-job.result.now in
    let within : c.args.at < length xs = omega (arith, c.requires, ap (λ (part : Part). length part.jobs) c.self.view_is) in
    let one = picked xs c.args.at x within (sym c.pick-node.ensures.node ∙ c.only-job.ensures) in
    let among = among_at xs c.args.at x one in
    owned_less c.self.inside c.args.at x c.pick-node.new.nodes c.without-self-inside.result _ c.self.invariant one c.pick-node.ensures.left
    (c.without-self-inside.ensures (remove xs c.args.at) xs among c.self.invariant.totals)
    (omega (arith, c.load.ensures, c.self.invariant.bytes, among_sum (λ y. load_of y.one.job) x (remove xs c.args.at) xs among))

pub returns : goal.returns
returns c =
    record {
      taken = c.pick-node.ensures.node ∙ ap (λ (part : Part). take 1 (drop c.args.at part.jobs)) c.self.view_is;
      left = part_changed (λ ys. remove ys c.args.at) c.self.inside.key c.self.inside.session c.self.inside.jobs c.pick-node.new.nodes c.args.self.now c.self.view_is c.pick-node.ensures.left;
    }
