use Rattle.std.proofs.Common.{rules}
use Rattle.server_rules.specs.Answer.{after_restart}
use Rattle.server_core.proofs.Steady.{steady-by}
use Rattle.server_core.proofs.server.Server.restart.Goals as goal

pub invariant_of-self : goal.invariant_of-self
invariant_of-self g c =
    let old = c.self.invariant in
    steady-by {S = g.row.S.Denot} (g.S.Seal.keys c.self.inside.seal) _ (after_restart old.server) (search rules) (search rules) (c.losses_keep_order.ensures.restart old.server old.stands_for.between)
