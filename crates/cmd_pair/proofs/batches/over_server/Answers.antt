use Rattle.std.proofs.Common.{◌≡◌}
use Rattle.client_core.specs.declared.holder.Holder.{Holder}
use Rattle.client_node.specs.Standing.{AllDecided, HasKeys}
use Rattle.client_node.specs.declared.plan.Batch.{Batch}
use Rattle.client_node.specs.declared.plan.Batch.TheVariants as batch
use Rattle.cmd_call.specs.Owed.{around_of}
use Rattle.cmd_pair.specs.Batches.{IsBatch}
use Rattle.cmd_pair.specs.Servers.{server_words}
use Rattle.cmd_pair.proofs.Spawning.{if-same, served-by}
use Rattle.cmd_pair.proofs.batches.over_server.Goals as goal

pub returns-clause-spawns : goal.returns-clause-spawns
returns-clause-spawns g c =
    served-by g.P.Spawner.calls g.P.Spawner.faults (server_words c.args.server.now.keys.now c.args.server.now.port c.args.server.now.stop_after) c.args.kids.now c.begin.new.kids c.ended.new.kids c.in_ok-begin.ensures c.ended.result c.ended.ensures.waits

pub returns-clause-ran : goal.returns-clause-ran
returns-clause-ran g c course drawn stands =
    let around = around_of g.N.Net.calls g.N.Net.room g.N.Net.faults g.C.Clock.given g.D.Draw.step c.args.net.now c.run_on-batch.new.net c.args.clock.now c.run_on-batch.new.clock drawn c.run_on-batch.new.draw in
    if-same (λ (done : Holder × Batch). IsBatch c.args.seal.now c.args.server.now.port course around done.1 done.0) c.run_on-batch.result c.ended.result c.ended.ensures.same (c.run_on-batch.ensures.ran course drawn stands)

pub returns-clause-decided : goal.returns-clause-decided
returns-clause-decided g c = if-same (λ (done : Holder × Batch). done.1 ≡ batch.Decided → AllDecided done.0) c.run_on-batch.result c.ended.result c.ended.ensures.same c.run_on-batch.ensures.decided

pub returns-clause-keys : goal.returns-clause-keys
returns-clause-keys g c = if-same (λ (done : Holder × Batch). HasKeys c.args.seal.now done.0) c.run_on-batch.result c.ended.result c.ended.ensures.same c.run_on-batch.ensures.keys
