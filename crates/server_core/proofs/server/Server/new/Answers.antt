use Rattle.std.proofs.Common.{rules}
use Rattle.server_rules.specs.Server.{fresh_server}
use Rattle.server_core.proofs.Steady.{steady-by}
use Rattle.server_core.proofs.server.Server.new.Goals as goal

pub invariant_of-result : goal.invariant_of-result
invariant_of-result g c =
    steady-by {S = g.row.S.Denot} (g.S.Seal.keys c.args.seal) _ fresh_server (search rules) (search rules) c.events_keep_order.ensures.fresh
