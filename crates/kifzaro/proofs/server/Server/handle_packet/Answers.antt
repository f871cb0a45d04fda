use Rattle.std.proofs.Common.{◌≡◌, ◌++◌, Bool, max, None, List, ap, subst, ◌∙◌}
use Rattle.envelope.specs.Lock.{mt_lock}
use Rattle.envelope.specs.declared.parts.Dir.TheVariants.{Up}
use Rattle.envelope.specs.Opening.{Opens}
use Rattle.server_core.specs.Packets.{IsHeardOf, brought_in, effects_in}
use Rattle.server_core.specs.declared.desk.Heard.{Heard}
use Rattle.server_output.specs.declared.outs.Out.{Out}
use Rattle.server_rules.specs.Answer.{after_packet}
use Rattle.server_dispatch.specs.Rings.{AreOf}
use Rattle.server_session.specs.Says.{setting_of}
use Rattle.kifzaro.specs.Drawing.{drawing}
use Rattle.kifzaro.specs.Queues.{all_in}
use Rattle.kifzaro.specs.Servers.{Did, Is, Kept, handed_out}
use Rattle.kifzaro.proofs.ServerLemmas.{event_did}
use Rattle.kifzaro.proofs.server.Server.handle_packet.Goals as goal

pub returns-in-Judged-clause-given : goal.returns-in-Judged-clause-given
returns-in-Judged-clause-given c = λ keys server envelope of is opens.
    let inside : Kept = record { server = c.self.inside.server; draw = c.self.inside.words; waiting = all_in c.self.inside.queue; asked = handed_out c.self.inside.asked c.self.inside.server.jobs } in
    let after : Kept = record { server = c.on_packet.new.self; draw = c.reach.new.self; waiting = all_in c.put.new.self; asked = handed_out c.self.inside.asked c.on_packet.new.self.jobs } in
    let effects = effects_in c.in-Ok.reply in
    let none : after.asked ≡ None = ap (λ (asked : Bool). handed_out asked c.on_packet.new.self.jobs) c.if-self.false in
    let waits : after.waiting ≡ inside.waiting ++ effects.out.outs =
    c.put.ensures.put ∙ ap (λ (outs : List Out). outs ++ effects.out.outs) c.make_room.ensures.same in
    subst (λ (old : Kept). AreOf old.server.seal keys → Is old server → Opens mt_lock old.server.seal (max old.server.moment c.args.now) Up c.args.packet.now envelope
    → Did old after (after_packet (setting_of (max old.server.moment c.args.now) drawing keys) (brought_in envelope) server old.draw)) c.self.view_is
    (λ (known : AreOf inside.server.seal keys) (own : Is inside server) (opened : Opens mt_lock inside.server.seal (max inside.server.moment c.args.now) Up c.args.packet.now envelope).
    event_did inside after c.draw-draw.result c.on_packet.new.draw effects
    (λ draw. after_packet (setting_of (max inside.server.moment c.args.now) drawing keys) (brought_in envelope) server draw)
    (λ draw. c.events_draw_words.ensures.packet (setting_of (max inside.server.moment c.args.now) drawing keys) (brought_in envelope) server draw)
    c.draw-draw.ensures (c.in-Ok.ensures.given keys server envelope known own opened) c.reach.ensures waits none)
    of is opens

pub returns-in-NotOpened-clause-stays : goal.returns-in-NotOpened-clause-stays
returns-in-NotOpened-clause-stays c = λ server is.
    let inside : Kept = record { server = c.self.inside.server; draw = c.self.inside.words; waiting = all_in c.self.inside.queue; asked = handed_out c.self.inside.asked c.self.inside.server.jobs } in
    let after : Kept = record { server = c.on_packet.new.self; draw = c.self.inside.words; waiting = all_in c.make_room.new.self; asked = handed_out c.self.inside.asked c.on_packet.new.self.jobs } in
    let heard = subst (λ (one : Heard). IsHeardOf mt_lock inside.server.seal (max inside.server.moment c.args.now) c.args.packet.now one) c.in-NotOpened.is c.in-Ok.ensures.heard in
    subst (λ (old : Kept). Is old server → Is after (record server { now = max old.server.moment c.args.now })) c.self.view_is
    (λ (own : Is inside server). c.in-Ok.ensures.stays server c.in-NotOpened.refusal own heard)
    is
