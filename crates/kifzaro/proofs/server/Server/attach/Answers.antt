use Rattle.std.proofs.Common.{◌≡◌, ◌++◌, Bool, max, None, List, ap, subst, ◌∙◌}
use Rattle.server_output.specs.declared.outs.Out.{Out}
use Rattle.server_rules.specs.Answer.{after_attach}
use Rattle.server_rules.specs.Server.{Name}
use Rattle.server_session.specs.Says.{setting_of}
use Rattle.kifzaro.specs.Drawing.{drawing}
use Rattle.kifzaro.specs.Queues.{all_in}
use Rattle.kifzaro.specs.Servers.{Did, Is, Kept, handed_out}
use Rattle.kifzaro.proofs.ServerLemmas.{event_did}
use Rattle.kifzaro.proofs.server.Server.attach.Goals as goal

pub returns-in-Ok-clause-given : goal.returns-in-Ok-clause-given
returns-in-Ok-clause-given c = λ keys server is.
    let name : Name = record { key = c.args.name.key; session = c.args.name.session } in
    let inside : Kept = record { server = c.self.inside.server; draw = c.self.inside.words; waiting = all_in c.self.inside.queue; asked = handed_out c.self.inside.asked c.self.inside.server.jobs } in
    let after : Kept = record { server = c.attach.new.self; draw = c.reach.new.self; waiting = all_in c.put.new.self; asked = handed_out c.self.inside.asked c.attach.new.self.jobs } in
    let none : after.asked ≡ None = ap (λ (asked : Bool). handed_out asked c.attach.new.self.jobs) c.if-self.false in
    let waits : after.waiting ≡ inside.waiting ++ c.in-Ok.effects.out.outs =
    c.put.ensures.put ∙ ap (λ (outs : List Out). outs ++ c.in-Ok.effects.out.outs) c.make_room.ensures.same in
    subst (λ (old : Kept). Is old server → Did old after (after_attach (setting_of (max old.server.moment c.args.now) drawing keys) name server old.draw)) c.self.view_is
    (λ (own : Is inside server). event_did inside after c.draw-draw.result c.attach.new.draw c.in-Ok.effects
    (λ draw. after_attach (setting_of (max inside.server.moment c.args.now) drawing keys) name server draw)
    (λ draw. c.events_draw_words.ensures.attach (setting_of (max inside.server.moment c.args.now) drawing keys) name server draw)
    c.draw-draw.ensures (c.in-Ok.ensures.given keys server own) c.reach.ensures waits none)
    is
