use Rattle.std.proofs.Common.{◌∙◌, sym, subst}
use Rattle.sched_text.specs.declared.event.Event.TheVariants as line
use Rattle.sim_clients.specs.Standing.{IsReading}
use Rattle.world_rules.specs.World.{counted}
use Rattle.sim_server.specs.Settings.{IsOf}
use Rattle.sim_world.specs.Worlds.{Stands, World, world_setting}
use Rattle.sim_world.specs.declared.fault.StepFault.TheVariants as told
use Rattle.sim_world.proofs.Give.{is-there, opens-down, opens-not, taken}
use Rattle.sim_world.proofs.GiveEnds.{faulty, foreign-memory}
use Rattle.sim_world.proofs.Steps.{does, redrawn, refuses}
use Rattle.sim_world.proofs.world.World.foreign_client.Goals as goal

pub returns-then-branch-clause-steps : goal.returns-then-branch-clause-steps
returns-then-branch-clause-steps g c = λ sealing world is stands.
    let ring = g.S.Seal.keys c.args.self.now.host.server.seal in
    let setting = world_setting g.D.Draw.step g.V.Service.step g.V.Service.fresh_state ring sealing in
    let kept = c.args.self.now in
    let lock = g.S.Seal.lock in
    let stood = subst (λ kept. Stands setting kept world) (sym c.self.view_is) stands in
    let of = subst (λ kept. IsOf lock (g.S.Seal.keys kept.host.server.seal) setting) (sym c.self.view_is) is in
    let reads = subst (λ server. IsReading lock (g.S.Seal.keys server.seal) setting.opens) (sym c.server.ensures) of.seal.opens in
    let reading = subst (λ seal. IsReading lock (g.S.Seal.keys seal) setting.opens) (sym c.seal-seal.ensures) reads in
    let found = is-there (counted c.args.client world.seats) (c.in_ok-opens.ensures.refused world.seats stood.seats) in
    let opens = c.in_ok-opens.ensures.told setting.opens world.seats found.0 reading stood.seats found.1 in
    refuses setting world (line.ForeignClient c.args.client c.args.bytes.now) told.ForeignOpens kept
    (opens-down setting world c.args.client c.args.bytes.now found.0 found.1 (sym c.if-branch.true ∙ opens)) stands.host.drawn
    (record { host = redrawn setting kept.host kept.draw kept.draw world stands.host; seats = stands.seats })

pub returns-clause-steps : goal.returns-clause-steps
returns-clause-steps g c = λ sealing world is stands.
    let ring = g.S.Seal.keys c.args.self.now.host.server.seal in
    let setting = world_setting g.D.Draw.step g.V.Service.step g.V.Service.fresh_state ring sealing in
    let inside = c.self.inside in
    let lock = g.S.Seal.lock in
    let stood = subst (λ kept. Stands setting kept world) (sym c.self.view_is) stands in
    let of = subst (λ kept. IsOf lock (g.S.Seal.keys kept.host.server.seal) setting) (sym c.self.view_is) is in
    let reads = subst (λ server. IsReading lock (g.S.Seal.keys server.seal) setting.opens) (sym c.server.ensures) of.seal.opens in
    let reading = subst (λ seal. IsReading lock (g.S.Seal.keys seal) setting.opens) (sym c.seal-seal.ensures) reads in
    let found = is-there (counted c.args.client world.seats) (c.in_ok-opens.ensures.refused world.seats stood.seats) in
    let opens = c.in_ok-opens.ensures.told setting.opens world.seats found.0 reading stood.seats found.1 in
    let after : World g.row.S.Denot g.row.V.Denot g.row.D.Denot = record { host = inside.host; seats = c.take.new.self; draw = inside.draw } in
    does setting world (line.ForeignClient c.args.client c.args.bytes.now) tt after
    (opens-not setting world c.args.client c.args.bytes.now found.0 found.1 (sym c.if-branch.false ∙ opens))
    (taken setting inside.host inside.draw c.args.client c.args.bytes.now found.0 c.take.new.self world found.1 stood.host
    (c.in_ok-take.ensures.taken setting.opens world.seats found.0 reading stood.seats found.1))

pub returns-in_err-take-clause-steps : goal.returns-in_err-take-clause-steps
returns-in_err-take-clause-steps g c = λ sealing world is stands.
    let ring = g.S.Seal.keys c.args.self.now.host.server.seal in
    let setting = world_setting g.D.Draw.step g.V.Service.step g.V.Service.fresh_state ring sealing in
    let inside = c.self.inside in
    let lock = g.S.Seal.lock in
    let stood = subst (λ kept. Stands setting kept world) (sym c.self.view_is) stands in
    let of = subst (λ kept. IsOf lock (g.S.Seal.keys kept.host.server.seal) setting) (sym c.self.view_is) is in
    let reads = subst (λ server. IsReading lock (g.S.Seal.keys server.seal) setting.opens) (sym c.server.ensures) of.seal.opens in
    let reading = subst (λ seal. IsReading lock (g.S.Seal.keys seal) setting.opens) (sym c.seal-seal.ensures) reads in
    let after : World g.row.S.Denot g.row.V.Denot g.row.D.Denot = record { host = inside.host; seats = c.take.new.self; draw = inside.draw } in
    faulty setting world (line.ForeignClient c.args.client c.args.bytes.now) c.from_residual-in_err-take.result c.in_err-take.field-0.0 after
    c.from_residual-in_err-take.ensures
    (foreign-memory (Unit {0}) (Unit {0}) setting inside.host inside.draw c.take.new.self c.args.client c.args.bytes.now c.in_err-take.field-0.0 world stood.host
    (c.in_err-take.ensures.refused world.seats stood.seats) (c.in_err-take.ensures.unchanged setting.opens world.seats reading stood.seats))
