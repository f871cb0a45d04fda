use Rattle.std.proofs.Common.{◌≡◌, take, drop}
use Rattle.std.specs.Prelude.{All}
use Rattle.world_rules.specs.Premises.{IsOfBytes}
use Rattle.world_rules.specs.Run.{events_of}
use Rattle.cmd_sim.specs.Worlds.{StandsFor, sim_refused, sim_world}
use Rattle.cmd_sim.proofs.Playing.{refused_from}
use Rattle.cmd_sim.proofs.sim.play.Given as goal

-- the world is that of the events so far, whose calls are bytes, and what is refused of those that are left is refused
-- of the whole
abbrev pub invariant-loop-place : goal.invariant-loop-place
invariant-loop-place l = record {
  stands : StandsFor l.world (sim_world (take l.place l.events));
  bytes : All IsOfBytes (events_of (take l.place l.events));
  refusal : refused_from (sim_world (take l.place l.events)) (drop l.place l.events) ≡ sim_refused l.events;
}
