use Rattle.std.proofs.Common.{◌≡◌, ◌∙◌, ◌++◌, ap, subst, sym}
use Rattle.client_core.specs.Flushed.{setting_of}
use Rattle.sim_world.specs.Worlds.{Stands, world_setting}
use Rattle.sim_world.proofs.Send.{flush-does, made-of, with_nothing}
use Rattle.sim_world.proofs.world.World.flush.Goals as goal

pub returns-in-Some-clause-steps : goal.returns-in-Some-clause-steps
returns-in-Some-clause-steps g c = λ sealing world is stands.
    let ring = g.S.Seal.keys c.args.self.now.host.server.seal in
    let setting = world_setting g.D.Draw.step g.V.Service.step g.V.Service.fresh_state ring sealing in
    let inside = c.self.inside in
    let stood = subst (λ kept. Stands setting kept world) (sym c.self.view_is) stands in
    let keys = g.S.Seal.keys c.seal.result.now in
    let same : keys ≡ ring = ap g.S.Seal.keys (c.seal.ensures ∙ ap (λ server. server.seal) c.server.ensures ∙ ap (λ host. host.server.seal) c.in_ok-reserve.ensures.same)
    ∙ ap (λ kept. g.S.Seal.keys kept.host.server.seal) c.self.view_is in
    let told = c.in_ok-sent.ensures in
    flush-does setting g.S.Seal.lock ring keys (setting_of g.D.Draw.step keys) c.args.client inside.host c.reserve.new.self c.sends.new.self inside.draw c.flush.new.draw
    inside.seats c.flush.new.self world c.in_ok-sent.sent same (ap (setting_of g.D.Draw.step) same) is.seal stood c.in_ok-reserve.ensures.same
    told.refused told.sent told.stands told.drawn
    (subst (λ sent. c.sends.new.self ≡ record c.reserve.new.self { bag = c.reserve.new.self.bag ++ made-of sent; room = c.sends.new.self.room }) (sym c.in-Some.is) c.sends.ensures)

pub returns-in_default-clause-steps : goal.returns-in_default-clause-steps
returns-in_default-clause-steps g c = λ sealing world is stands.
    let ring = g.S.Seal.keys c.args.self.now.host.server.seal in
    let setting = world_setting g.D.Draw.step g.V.Service.step g.V.Service.fresh_state ring sealing in
    let inside = c.self.inside in
    let stood = subst (λ kept. Stands setting kept world) (sym c.self.view_is) stands in
    let keys = g.S.Seal.keys c.seal.result.now in
    let same : keys ≡ ring = ap g.S.Seal.keys (c.seal.ensures ∙ ap (λ server. server.seal) c.server.ensures ∙ ap (λ host. host.server.seal) c.in_ok-reserve.ensures.same)
    ∙ ap (λ kept. g.S.Seal.keys kept.host.server.seal) c.self.view_is in
    let told = c.in_ok-sent.ensures in
    flush-does setting g.S.Seal.lock ring keys (setting_of g.D.Draw.step keys) c.args.client inside.host c.reserve.new.self c.reserve.new.self inside.draw c.flush.new.draw
    inside.seats c.flush.new.self world c.in_ok-sent.sent same (ap (setting_of g.D.Draw.step) same) is.seal stood c.in_ok-reserve.ensures.same
    told.refused told.sent told.stands told.drawn
    (subst (λ sent. c.reserve.new.self ≡ record c.reserve.new.self { bag = c.reserve.new.self.bag ++ made-of sent; room = c.reserve.new.self.room }) (sym c.in_default.is)
    (with_nothing c.reserve.new.self))
