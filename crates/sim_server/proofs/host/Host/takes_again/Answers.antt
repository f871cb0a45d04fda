use Rattle.std.proofs.Common.{◌≡◌, ◌∙◌, ℕ, List, Some, max, ap, sym, subst}
use Rattle.std.specs.Prelude.{option_map}
use Rattle.envelope.specs.declared.parts.Dir.TheVariants.{Up}
use Rattle.msg_ids.specs.Moments.{moment_of}
use Rattle.server_rules.specs.Events.{Packet as Comes}
use Rattle.world_rules.specs.Ends.{comes_up, course_in}
use Rattle.world_rules.specs.Setting.{as_heard, at_server}
use Rattle.world_rules.specs.World.{counted}
use Rattle.sim_server.specs.Made.{GoesUp, packet_told}
use Rattle.sim_server.specs.Pasts.{Kept as Past}
use Rattle.sim_server.specs.declared.bag.Packet.{Packet}
use Rattle.sim_server.specs.Hosts.{Did, Stands, heard_by}
use Rattle.sim_server.specs.Settings.{IsOf, setting_in}
use Rattle.sim_server.proofs.Moments.{heard-now, heard-service}
use Rattle.sim_server.proofs.Serving.{event-stands, host_of}
use Rattle.sim_server.proofs.host.Host.takes_again.Goals as goal

up-same : (one other : List ℕ) → Some (GoesUp one) ≡ Some (GoesUp other) → one ≡ other
up-same one other same = cc

pub returns-clause-stands : goal.returns-clause-stands
returns-clause-stands g c = λ sealing world named is stands there.
    let setting = setting_in g.D.Draw.step g.V.Service.step g.V.Service.fresh_state sealing in
    let inside = c.self.inside in
    let lock = g.S.Seal.lock in
    let ring = g.S.Seal.keys inside.server.seal in
    let both = subst (λ host. IsOf lock (g.S.Seal.keys host.server.seal) setting × Stands setting host c.args.draw.now world) (sym c.self.view_is) (is, stands) in
    let stood = both.1 in
    let bytes = c.in-Some-Up.bytes.now in
    let bag = c.bag.ensures ∙ ap (λ (past : Past). past.bag) c.in_ok-reserve.ensures.same ∙ ap (λ host. host.bag) c.self.view_is in
    let told : Some (GoesUp bytes) ≡ Some (GoesUp named) =
    ap (λ (packet : Packet). Some (packet_told packet)) (sym c.in-Some-Up.field-0-is) ∙ c.in-Some-Up.ensures ∙ ap (counted c.args.number) bag ∙ there in
    let now = c.new-now.ensures ∙ ap moment_of stood.clock in
    let opened = option_map as_heard (setting.opens (max world.server.now (moment_of world.clock)) Up bytes) in
    let given = c.in_ok-out.ensures.given sealing world.server world.service world.clock both.0 now stood.server in
    let did = subst (λ draw. Did lock ring c.hears.new.server c.hears.new.draw c.in_ok-out.field-0 (heard_by setting world.server world.service draw world.clock bytes)) stood.drawn given in
    subst (λ sent. Stands setting (host_of c.hears.new.server c.later-self-inside.result inside.service inside.clock c.takes.new.self) c.hears.new.draw (comes_up setting sent world)) (up-same bytes named told)
    (event-stands lock ring setting inside.server inside.moment inside.service inside.clock inside.past c.args.draw.now world (Comes world.clock opened)
    c.hears.new.server c.later-self-inside.result inside.service c.hears.new.draw c.in_ok-out.field-0 c.reserve.new.self c.takes.new.self
    both.0.seal stood did
    (stood.service ∙ heard-service (at_server setting) setting.serve setting.fresh (course_in world) world.clock opened)
    (c.later-self-inside.ensures ∙ ap (λ n. max n c.new-now.result) stood.moment ∙ ap (λ n. max world.server.now n) now
    ∙ heard-now (at_server setting) setting.serve setting.fresh (course_in world) world.clock opened)
    c.in_ok-reserve.ensures.same c.takes.ensures.bag c.takes.ensures.entries c.takes.ensures.start)
