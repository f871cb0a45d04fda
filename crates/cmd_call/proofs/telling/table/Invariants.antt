use Rattle.std.proofs.Common.{◌≡◌, take}
use Rattle.client_node.specs.Standing.{StandsFor}
use Rattle.client_rules.specs.Client.{Client, calls_of}
use Rattle.cmd_call.specs.Table.{lines_from}
use Rattle.cmd_call.proofs.telling.table.Given as goal

-- the lines of the calls so far
abbrev pub invariant-loop-place : goal.invariant-loop-place
invariant-loop-place l = (whole : Client) → StandsFor l.holder whole → l.text ≡ lines_from 1 (take l.place (calls_of whole))
