use Rattle.std.proofs.Common.{◌<◌, subst}
use Rattle.cmd_sim.specs.Words.{words_max}
use Rattle.cmd_sim.proofs.laws.load_executes_once.Goals as goal

pub returns : goal.returns
returns c = λ calls few.
    let played = c.loads_are_schedules.ensures calls in
    (played.0, played.1, c.sim_executes_once.ensures played.0 played.1.bytes (subst (λ world. world.draw < words_max) played.1.world few))
