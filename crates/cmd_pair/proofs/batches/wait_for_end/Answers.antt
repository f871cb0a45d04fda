use Rattle.cmd_pair.proofs.Spawning.{unwaited, waited}
use Rattle.cmd_pair.proofs.batches.wait_for_end.Goals as goal

pub returns-in-Ready : goal.returns-in-Ready
returns-in-Ready g c = waited g.P.Spawner.calls g.P.Spawner.faults c.args.kids.now c.wait.new.self c.in-Ready.ensures.told c.in-Ready.ensures.counted

pub returns-in-Failed : goal.returns-in-Failed
returns-in-Failed g c = unwaited g.P.Spawner.calls g.P.Spawner.faults c.args.kids.now c.wait.new.self c.in-Failed.ensures.told c.in-Failed.ensures.counted
