-- How much a client keeps of what it learnt and sent.
use Rattle.std.specs.Prelude.{◌≤◌, length}
use Rattle.client_rules.specs.Client.{Client}

-- unique numbers of its session, and packets that are remembered
pub record IsBounded (client : Client) : Type 0 where
  pub learnt : length client.learnt ≤ 1024
  pub packets : length client.table.packets ≤ 64
