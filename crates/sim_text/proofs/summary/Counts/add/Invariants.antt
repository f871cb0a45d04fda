use Rattle.std.proofs.Common.{◌≡◌, ◌+◌, ◌++◌, List, take}
use Rattle.call_table.specs.Table.{Call}
use Rattle.client_rules.specs.Client.{Client, calls_of}
use Rattle.sim_text.specs.Clients.{StandsFor}
use Rattle.sim_text.specs.Counts.{tally_of}
use Rattle.sim_text.proofs.summary.Counts.add.Given as goal

-- the calls so far are counted
abbrev pub invariant-loop-place : goal.invariant-loop-place
invariant-loop-place l =
    ((whole : Client) (before : List Call) → StandsFor l.holder whole → l.fn.self ≡ tally_of before
    → l.self ≡ tally_of (before ++ take l.place (calls_of whole)))
    × (l.self.calls ≡ l.fn.self.calls + l.place)
