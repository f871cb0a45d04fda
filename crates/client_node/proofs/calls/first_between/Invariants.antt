use Rattle.client_node.specs.Kinds.{NoneBetween}
use Rattle.client_node.specs.Standing.{kept_of}
use Rattle.client_node.proofs.calls.first_between.Given as goal

-- no call so far is of the kind
abbrev pub invariant-loop-place : goal.invariant-loop-place
invariant-loop-place l = NoneBetween l.kind (kept_of l.client).calls.rows l.first l.place
