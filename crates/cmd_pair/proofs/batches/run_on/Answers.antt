use Rattle.cmd_pair.specs.Batches.{plan_at}
use Rattle.cmd_pair.proofs.batches.run_on.Goals as goal

pub returns-clause-ran : goal.returns-clause-ran
returns-clause-ran g c course drawn stands =
    c.batches_are_worked_out.ensures c.args.seal.now (plan_at c.args.port) course c.run_batch.result.1 (g.N.Net.calls c.args.net.now) (g.N.Net.calls c.run_batch.new.net) (g.C.Clock.given c.args.clock.now) (g.C.Clock.given c.run_batch.new.clock) c.run_batch.result.0
    c.run_batch.new.draw (λ reading reads. c.run_batch.ensures.trace course reading reads stands)
