use Rattle.std.proofs.Common.{[], subst, sym}
use Rattle.auth_keys.specs.Rings.{entry_of, key_in}
use Rattle.client_core.specs.Flushed.{binding_under}
use Rattle.sim_server.specs.Settings.{Sealing}
use Rattle.sim_clients.specs.Standing.{Stand}
use Rattle.sim_world.specs.Keys.{world_keys}
use Rattle.sim_world.specs.Worlds.{world_setting}
use Rattle.sim_world.proofs.world.World.with_draw.Goals as goal

pub returns-clause-stands : goal.returns-clause-stands
returns-clause-stands g c = λ sealing.
    let ring = g.S.Seal.keys c.args.seal in
    let own : Sealing = record sealing { binding_message = λ perm. binding_under (key_in (entry_of perm ring)); keys = world_keys } in
    let setting = world_setting g.D.Draw.step g.V.Service.step g.V.Service.fresh_state ring sealing in
    record {
      host = c.new.ensures.stands own c.args.draw;
      seats = subst (λ kept. Stand kept []) (sym c.new-2.ensures) tt;
    }
