use Rattle.cmd_call.specs.Owed.{files_of}
use Rattle.cmd_pair.proofs.Checking.{gave-by}
use Rattle.cmd_pair.proofs.checks.ring_of.Goals as goal

pub returns-in-Ok-clause-ring : goal.returns-in-Ok-clause-ring
returns-in-Ok-clause-ring g c =
    let files = files_of g.F.KeyFiles.told g.F.KeyFiles.faults c.args.files.now c.read_ring.new.files in
    let given = c.in-Ok.ensures.gives in
    record { text = given.0; gave = gave-by c.as_str.result.now c.args.options.now.keys files given.0 c.as_str.ensures c.read_ring.ensures.asked given.1 c.in-Ok.ensures.counted; its = given.2 }
