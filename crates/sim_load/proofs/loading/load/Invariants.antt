use Rattle.std.proofs.Common.{◌≡◌, []}
use Rattle.sim_server.specs.Settings.{IsOf, Sealing}
use Rattle.sched_text.specs.declared.event.Event.TheVariants as line
use Rattle.world_rules.specs.Load.{does, rounds}
use Rattle.world_rules.specs.World.{begins}
use Rattle.sim_world.specs.Worlds.{Stands as WorldStands, world_setting}
use Rattle.sim_load.specs.Loading.{Stands}
use Rattle.sim_load.proofs.loading.load.Given as goal

abbrev pub invariant-loop-before : goal.invariant-loop-before
invariant-loop-before g l =
    ((sealing : Sealing) (draw : g.row.D.Denot) → let ring = g.S.Seal.keys l.fn.world.host.server.seal in
    let setting = world_setting g.D.Draw.step g.V.Service.step g.V.Service.fresh_state ring sealing in
    IsOf g.S.Seal.lock ring setting → WorldStands setting l.fn.world (begins setting draw)
    → Stands setting l.loading (rounds setting l.before (does setting line.Client (record { world = begins setting draw; given = [] }))))
    × (l.loading.world.host.server.seal ≡ l.fn.world.host.server.seal)
