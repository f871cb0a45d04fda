use Rattle.std.proofs.Common.{◌≡◌}
use Rattle.sim_load.proofs.LoadSteps.{SoFar}
use Rattle.sim_load.proofs.loading.Loading.settle.Given as goal

abbrev pub invariant-loop-left : goal.invariant-loop-left
invariant-loop-left g l =
    SoFar g.S.Seal.lock g.D.Draw.step g.V.Service.step g.V.Service.fresh_state (g.S.Seal.keys l.fn.self.world.host.server.seal) l.fn.self l.left l.self
    × (l.self.world.host.server.seal ≡ l.fn.self.world.host.server.seal)

abbrev pub decreases-loop-left : goal.decreases-loop-left
decreases-loop-left g l = l.left
