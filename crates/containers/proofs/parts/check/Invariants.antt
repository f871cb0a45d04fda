use Rattle.std.proofs.Common.{◌≡◌, ◌-◌}
use Rattle.containers.specs.Parts.{first_from, causes}
use Rattle.containers.proofs.parts.check.Given as goal

-- what was looked at has no cause
abbrev pub invariant-loop-place : goal.invariant-loop-place
invariant-loop-place l = first_from 0 (causes l.number l.count l.text) ≡ first_from l.place (causes l.number (l.count - l.place) l.left)
