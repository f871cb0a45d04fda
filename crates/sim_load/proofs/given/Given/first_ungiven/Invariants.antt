use Rattle.std.proofs.Common.{◌≡◌, ◌-◌, length}
use Rattle.sim_load.specs.Given.{AreGivenBelow}
use Rattle.sim_load.proofs.given.Given.first_ungiven.Given as goal

abbrev pub invariant-loop-self : goal.invariant-loop-self
invariant-loop-self l = (l.self-inside.flags ≡ l.initial.self-inside.flags) × AreGivenBelow l.self-inside.flags.items l.self-inside.first

abbrev pub decreases-loop-self : goal.decreases-loop-self
decreases-loop-self l = length l.self-inside.flags.items - l.self-inside.first
