use Rattle.std.proofs.Common.{◌≡◌, true, take}
use Rattle.client_node.specs.Standing.{StandsFor}
use Rattle.client_rules.specs.Client.{Client, calls_of}
use Rattle.cmd_call.specs.Table.{are_done}
use Rattle.cmd_call.proofs.telling.are_done.Given as goal

-- the calls so far are done
abbrev pub invariant-loop-place : goal.invariant-loop-place
invariant-loop-place l = (whole : Client) → StandsFor l.holder whole → are_done (take l.place (calls_of whole)) ≡ true
