use Rattle.std.proofs.Common.{◌≡◌, drop}
use Rattle.std.specs.List.{list_any}
use Rattle.call_table.specs.declared.call.Group.TheVariants.{Queued}
use Rattle.call_table.specs.Table.{group_of}
use Rattle.client_rules.specs.Client.{Client, calls_of}
use Rattle.client_core.specs.Due.{goes_at}
use Rattle.client_core.specs.Kept.{Stands}
use Rattle.client_core.proofs.core_client.Core.goes_any.Given as goal

abbrev pub invariant-loop-k : goal.invariant-loop-k
invariant-loop-k l = (client : Client) → Stands l.fn.self client
    → list_any (goes_at client) (drop l.k (group_of Queued (calls_of client))) ≡ list_any (goes_at client) (group_of Queued (calls_of client))
