use Rattle.cmd_sim.specs.Worlds.{sim_setting}
use Rattle.cmd_sim.proofs.Loaded.{call-is-bytes, load-played}
use Rattle.cmd_sim.proofs.laws.loads_are_schedules.Goals as goal

pub returns : goal.returns
returns c = λ calls.
    let played = load-played sim_setting 0 calls (call-is-bytes c.bytes_stay_bytes.ensures.nil c.bytes_stay_bytes.ensures.cons) in
    (played.0, record { world = played.1; bytes = played.2 })
