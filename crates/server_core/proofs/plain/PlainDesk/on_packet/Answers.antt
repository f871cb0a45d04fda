use Rattle.std.proofs.Common.{ℕ, max, sym, subst}
use Rattle.envelope.specs.declared.parts.Dir.TheVariants.{Up}
use Rattle.envelope.specs.Opening.{IsRefused, Opens}
use Rattle.server_session.specs.Says.{setting_of}
use Rattle.server_rules.specs.Answer.{after_packet}
use Rattle.server_core.specs.Desks.{Does}
use Rattle.server_core.specs.Packets.{brought_in, effects_in}
use Rattle.server_core.specs.Server.{StandsFor}
use Rattle.server_core.proofs.Desked.{does-nothing}
use Rattle.server_core.proofs.plain.PlainDesk.on_packet.Goals as goal

pub returns-clause-given : goal.returns-clause-given
returns-clause-given g c = λ ring server envelope of is opens.
    let draw = c.args.self.now.draw.now in
    let old = c.args.self.now.server.now in
    let lock = g.S.Seal.lock in
    let keys = g.S.Seal.keys old.seal in
    let opens_so : Opens lock keys (max old.moment c.args.now) Up c.args.packet.now envelope =
    subst (λ (moment : ℕ). Opens lock keys (max moment c.args.now) Up c.args.packet.now envelope) (sym is.stands.moment) opens in
    subst (λ (own : ℕ). Does (StandsFor c.on_packet.new.self) lock keys c.on_packet.new.draw (effects_in c.in_ok-on_packet.field-0)
    (after_packet (setting_of (max own c.args.now) g.D.Draw.step ring) (brought_in envelope) server draw)) is.stands.moment
    (c.in_ok-on_packet.ensures.given ring server envelope of is opens_so)

pub returns-clause-refused : goal.returns-clause-refused
returns-clause-refused g c = λ server refusal is refused.
    let old = c.args.self.now.server.now in
    let lock = g.S.Seal.lock in
    let keys = g.S.Seal.keys old.seal in
    let refused_so : IsRefused lock keys (max old.moment c.args.now) Up c.args.packet.now refusal =
    subst (λ (moment : ℕ). IsRefused lock keys (max moment c.args.now) Up c.args.packet.now refusal) (sym is.stands.moment) refused in
    does-nothing old c.on_packet.new.self c.args.self.now.draw.now c.on_packet.new.draw c.in_ok-on_packet.field-0
    c.args.now server is.stands.moment (c.in_ok-on_packet.ensures.stays server refusal is refused_so) (c.in_ok-on_packet.ensures.refused refusal refused_so)
