use Rattle.std.proofs.Common.{refl}
use Rattle.client_rules.specs.Client.{at_moment}
use Rattle.client_rules.specs.Taking.{take}
use Rattle.client_core.proofs.HolderLemmas.{now_ended, still_open}
use Rattle.client_core.proofs.events.open_takes.Goals as goal

pub returns-in-Still-clause-opened : goal.returns-in-Still-clause-opened
returns-in-Still-clause-opened g c = λ whole envelope stands opens.
    let took = rw c.in-Still.is at (c.receive-step.ensures.opened whole envelope stands opens) in
    (still_open (take c.args.now envelope whole) took.0, took.1)

pub returns-in-Still-clause-other : goal.returns-in-Still-clause-other
returns-in-Still-clause-other g c = λ whole stands none.
    let took = rw c.in-Still.is at (c.receive-step.ensures.other whole stands none) in
    (still_open (at_moment c.args.now whole) took.0, took.1)

pub returns-in-Ended-clause-opened : goal.returns-in-Ended-clause-opened
returns-in-Ended-clause-opened g c = λ whole envelope stands opens.
    let took = rw c.in-Ended.is at (c.receive-step.ensures.opened whole envelope stands opens) in
    (now_ended (take c.args.now envelope whole) took.0, took.1)

pub returns-in-Memory-clause-opened : goal.returns-in-Memory-clause-opened
returns-in-Memory-clause-opened g c = λ whole envelope stands opens. (refl, rw c.in-Memory.is at (c.receive-step.ensures.opened whole envelope stands opens))

pub returns-in-Memory-clause-other : goal.returns-in-Memory-clause-other
returns-in-Memory-clause-other g c = λ whole stands none. (refl, rw c.in-Memory.is at (c.receive-step.ensures.other whole stands none))

pub returns-in-Still-clause-why : goal.returns-in-Still-clause-why
returns-in-Still-clause-why g c = λ whole stands. rw c.in-Still.is at (c.receive-step.ensures.why whole stands)

pub returns-in-Ended-clause-why : goal.returns-in-Ended-clause-why
returns-in-Ended-clause-why g c = λ whole stands. rw c.in-Ended.is at (c.receive-step.ensures.why whole stands)

pub returns-in-Memory-clause-stays : goal.returns-in-Memory-clause-stays
returns-in-Memory-clause-stays g c = λ whole stands. rw c.in-Memory.is at (c.receive-step.ensures.unchanged_on_memory whole stands)

pub returns-in-Ended-clause-other : goal.returns-in-Ended-clause-other
returns-in-Ended-clause-other g c = λ whole stands none.
    let took = rw c.in-Ended.is at (c.receive-step.ensures.other whole stands none) in
    (now_ended (at_moment c.args.now whole) took.0, took.1)

pub returns-in-Still-clause-keys : goal.returns-in-Still-clause-keys
returns-in-Still-clause-keys g c = rw c.in-Still.is at c.receive-step.ensures.keys

pub returns-in-Still-clause-count : goal.returns-in-Still-clause-count
returns-in-Still-clause-count g c = rw c.in-Still.is at c.receive-step.ensures.count

pub returns-in-Ended-clause-keys : goal.returns-in-Ended-clause-keys
returns-in-Ended-clause-keys g c = rw c.in-Ended.is at c.receive-step.ensures.keys

pub returns-in-Ended-clause-count : goal.returns-in-Ended-clause-count
returns-in-Ended-clause-count g c = rw c.in-Ended.is at c.receive-step.ensures.count

pub returns-in-Memory-clause-keys : goal.returns-in-Memory-clause-keys
returns-in-Memory-clause-keys g c = rw c.in-Memory.is at c.receive-step.ensures.keys

pub returns-in-Memory-clause-count : goal.returns-in-Memory-clause-count
returns-in-Memory-clause-count g c = rw c.in-Memory.is at c.receive-step.ensures.count
