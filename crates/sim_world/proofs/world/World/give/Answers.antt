use Rattle.std.proofs.Common.{◌∙◌, Err, List, Ok, Some, ap, sym, subst}
use Rattle.auth_keys.specs.Rings.{entry_of, key_in}
use Rattle.client_core.specs.Flushed.{binding_under}
use Rattle.sched_text.specs.declared.event.Event.TheVariants as line
use Rattle.sim_clients.specs.Standing.{IsReading}
use Rattle.world_rules.specs.World.{counted}
use Rattle.sim_server.specs.Made.{Made, packet_told}
use Rattle.sim_server.specs.declared.bag.Packet.{Packet}
use Rattle.sim_server.specs.Settings.{IsOf, Sealing}
use Rattle.sim_world.specs.Told.{Steps}
use Rattle.sim_world.specs.Keys.{world_keys}
use Rattle.sim_world.specs.Worlds.{Stands, World, world_setting}
use Rattle.sim_world.specs.declared.fault.StepFault.TheVariants as told
use Rattle.sim_world.proofs.Give.{no-packet}
use Rattle.sim_world.proofs.GiveEnds.{faulty, gives-down, gives-memory, gives-nobody, gives-up}
use Rattle.sim_world.proofs.Steps.{redrawn, refuses}
use Rattle.sim_world.proofs.world.World.give.Goals as goal

pub returns-in-None-clause-steps : goal.returns-in-None-clause-steps
returns-in-None-clause-steps g c = λ sealing world is stands.
    let ring = g.S.Seal.keys c.args.self.now.host.server.seal in
    let own : Sealing = record sealing { binding_message = λ perm. binding_under (key_in (entry_of perm ring)); keys = world_keys } in
    let setting = world_setting g.D.Draw.step g.V.Service.step g.V.Service.fresh_state ring sealing in
    let inside = c.self.inside in
    let lock = g.S.Seal.lock in
    let packet = c.args.packet in
    let stood = subst (λ kept. Stands setting kept world) (sym c.self.view_is) stands in
    let of = subst (λ kept. IsOf lock (g.S.Seal.keys kept.host.server.seal) setting) (sym c.self.view_is) is in
    let there = c.in-None.ensures ∙ ap (λ (made : List Made). counted packet made) c.bag.ensures in
    let kept : World g.row.S.Denot g.row.V.Denot g.row.D.Denot = record { host = inside.host; seats = inside.seats; draw = inside.draw } in
    subst (λ kept. Steps {X = Unit {0}} setting world (line.Give packet) (Err (told.NoPacket packet)) kept) c.self.view_is
    (refuses setting world (line.Give packet) (told.NoPacket packet) kept
    (no-packet setting inside.host inside.draw world packet stood.host there) stood.host.drawn
    (record { host = redrawn setting inside.host inside.draw inside.draw world stood.host; seats = stood.seats }))

pub returns-in_ok-_goes_up-in-Some-Up-clause-steps : goal.returns-in_ok-_goes_up-in-Some-Up-clause-steps
returns-in_ok-_goes_up-in-Some-Up-clause-steps g c = λ sealing world is stands.
    let ring = g.S.Seal.keys c.args.self.now.host.server.seal in
    let own : Sealing = record sealing { binding_message = λ perm. binding_under (key_in (entry_of perm ring)); keys = world_keys } in
    let setting = world_setting g.D.Draw.step g.V.Service.step g.V.Service.fresh_state ring sealing in
    let inside = c.self.inside in
    let lock = g.S.Seal.lock in
    let packet = c.args.packet in
    let stood = subst (λ kept. Stands setting kept world) (sym c.self.view_is) stands in
    let of = subst (λ kept. IsOf lock (g.S.Seal.keys kept.host.server.seal) setting) (sym c.self.view_is) is in
    let bytes = c.in-Some-Up._bytes.now in
    let there = ap (λ (one : Packet). Some (packet_told one)) (sym c.in-Some-Up.field-0-is) ∙ c.in-Some-Up.ensures ∙ ap (λ (made : List Made). counted packet made) c.bag.ensures in
    gives-up setting inside.host c.takes_again.new.self inside.draw c.takes_again.new.draw inside.seats packet bytes world stood there
    (c.in_ok-_goes_up-in-Some-Up.ensures.stands own world bytes of stood.host (sym there))

pub returns-in-None-owner-clause-steps : goal.returns-in-None-owner-clause-steps
returns-in-None-owner-clause-steps g c = λ sealing world is stands.
    let ring = g.S.Seal.keys c.args.self.now.host.server.seal in
    let own : Sealing = record sealing { binding_message = λ perm. binding_under (key_in (entry_of perm ring)); keys = world_keys } in
    let setting = world_setting g.D.Draw.step g.V.Service.step g.V.Service.fresh_state ring sealing in
    let inside = c.self.inside in
    let lock = g.S.Seal.lock in
    let packet = c.args.packet in
    let stood = subst (λ kept. Stands setting kept world) (sym c.self.view_is) stands in
    let of = subst (λ kept. IsOf lock (g.S.Seal.keys kept.host.server.seal) setting) (sym c.self.view_is) is in
    let there = ap (λ (one : Packet). Some (packet_told one)) (sym c.in-Some-Down.field-0-is) ∙ c.in-Some-Down.ensures ∙ ap (λ (made : List Made). counted packet made) c.bag.ensures in
    subst (λ kept. Steps {X = Unit {0}} setting world (line.Give packet) (Ok (tt {0})) kept) c.self.view_is
    (gives-nobody setting (record { host = inside.host; seats = inside.seats; draw = inside.draw }) packet c.in-Some-Down.session c.in-Some-Down.bytes.now world stood there (c.in-None-owner.ensures world.seats stood.seats))

pub returns-in_ok-take-in-Some-clause-steps : goal.returns-in_ok-take-in-Some-clause-steps
returns-in_ok-take-in-Some-clause-steps g c = λ sealing world is stands.
    let ring = g.S.Seal.keys c.args.self.now.host.server.seal in
    let own : Sealing = record sealing { binding_message = λ perm. binding_under (key_in (entry_of perm ring)); keys = world_keys } in
    let setting = world_setting g.D.Draw.step g.V.Service.step g.V.Service.fresh_state ring sealing in
    let inside = c.self.inside in
    let lock = g.S.Seal.lock in
    let packet = c.args.packet in
    let stood = subst (λ kept. Stands setting kept world) (sym c.self.view_is) stands in
    let of = subst (λ kept. IsOf lock (g.S.Seal.keys kept.host.server.seal) setting) (sym c.self.view_is) is in
    let there = ap (λ (one : Packet). Some (packet_told one)) (sym c.in-Some-Down.field-0-is) ∙ c.in-Some-Down.ensures ∙ ap (λ (made : List Made). counted packet made) c.bag.ensures in
    let reads = subst (λ server. IsReading lock (g.S.Seal.keys server.seal) setting.opens) (sym c.server.ensures) of.seal.opens in
    let reading = subst (λ seal. IsReading lock (g.S.Seal.keys seal) setting.opens) (sym c.seal-seal.ensures) reads in
    gives-down setting inside.host inside.draw inside.seats c.take.new.self packet c.in-Some-Down.session c.in-Some.client c.in-Some-Down.bytes.now world stood there (c.in-Some.ensures world.seats stood.seats)
    (λ one is_there. c.in_ok-take-in-Some.ensures.taken setting.opens world.seats one reading stood.seats is_there)

pub returns-in_err-take-in-Some-clause-steps : goal.returns-in_err-take-in-Some-clause-steps
returns-in_err-take-in-Some-clause-steps g c = λ sealing world is stands.
    let ring = g.S.Seal.keys c.args.self.now.host.server.seal in
    let own : Sealing = record sealing { binding_message = λ perm. binding_under (key_in (entry_of perm ring)); keys = world_keys } in
    let setting = world_setting g.D.Draw.step g.V.Service.step g.V.Service.fresh_state ring sealing in
    let inside = c.self.inside in
    let lock = g.S.Seal.lock in
    let packet = c.args.packet in
    let stood = subst (λ kept. Stands setting kept world) (sym c.self.view_is) stands in
    let of = subst (λ kept. IsOf lock (g.S.Seal.keys kept.host.server.seal) setting) (sym c.self.view_is) is in
    let there = ap (λ (one : Packet). Some (packet_told one)) (sym c.in-Some-Down.field-0-is) ∙ c.in-Some-Down.ensures ∙ ap (λ (made : List Made). counted packet made) c.bag.ensures in
    let reads = subst (λ server. IsReading lock (g.S.Seal.keys server.seal) setting.opens) (sym c.server.ensures) of.seal.opens in
    let reading = subst (λ seal. IsReading lock (g.S.Seal.keys seal) setting.opens) (sym c.seal-seal.ensures) reads in
    let after : World g.row.S.Denot g.row.V.Denot g.row.D.Denot = record { host = inside.host; seats = c.take.new.self; draw = inside.draw } in
    faulty setting world (line.Give packet) c.from_residual-in_err-take-in-Some.result c.in_err-take-in-Some.field-0.0 after c.from_residual-in_err-take-in-Some.ensures
    (gives-memory (Unit {0}) (Unit {0}) setting inside.host inside.draw inside.seats c.take.new.self packet c.in-Some-Down.session c.in-Some.client c.in-Some-Down.bytes.now c.in_err-take-in-Some.field-0.0 world stood there
    (c.in-Some.ensures world.seats stood.seats) (c.in_err-take-in-Some.ensures.refused world.seats stood.seats) (c.in_err-take-in-Some.ensures.unchanged setting.opens world.seats reading stood.seats))
