use Rattle.std.proofs.Common.{subst}
use Rattle.server_rules.specs.Event.{speaks}
use Rattle.server_rules.specs.Answer.{attaches, begun, runs, takes, ticks}
use Rattle.law_server_bounds.proofs.Courses.{ready-small}
use Rattle.law_server_bounds.proofs.SizeRows.{IsSmallCall}
use Rattle.law_server_bounds.proofs.States.{attach-good, packet-good, run-good, small-state, tick-good}
use Rattle.law_server_bounds.proofs.sizes.what_is_owed_is_small.Goals as goal

pub returns-clause-packet : goal.returns-clause-packet
returns-clause-packet g c = λ setting envelope server draw draws small kept.
    small-state (takes setting envelope (begun server draw)) (packet-good setting draws c.parts_are_exact.ensures.only_lawful c.items_fit.ensures.fits envelope server draw small kept)

pub returns-clause-work : goal.returns-clause-work
returns-clause-work g c = λ setting place job reply server draw draws words is kept.
    let fits = subst IsSmallCall is (ready-small place server.jobs kept.jobs) in
    small-state (runs setting place job reply (begun server draw)) (run-good setting draws place job reply server draw fits words kept)

pub returns-clause-tick : goal.returns-clause-tick
returns-clause-tick g c = λ setting server draw draws kept. small-state (ticks setting (begun server draw)) (tick-good setting draws server draw kept)

pub returns-clause-attach : goal.returns-clause-attach
returns-clause-attach g c = λ setting name server draw draws kept.
    small-state (speaks name (attaches setting) (begun server draw)) (attach-good setting draws name server draw kept)
