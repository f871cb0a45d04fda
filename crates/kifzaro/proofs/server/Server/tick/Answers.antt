use Rattle.std.proofs.Common.{◌≡◌, ◌++◌, Bool, max, None, List, ap, subst, ◌∙◌}
use Rattle.server_output.specs.declared.outs.Out.{Out}
use Rattle.server_rules.specs.Answer.{after_tick}
use Rattle.server_session.specs.Says.{setting_of}
use Rattle.kifzaro.specs.Drawing.{drawing}
use Rattle.kifzaro.specs.Queues.{all_in}
use Rattle.kifzaro.specs.Servers.{Did, Is, Kept, handed_out}
use Rattle.kifzaro.proofs.ServerLemmas.{event_did}
use Rattle.kifzaro.proofs.server.Server.tick.Goals as goal

pub returns-in-Ok-clause-given : goal.returns-in-Ok-clause-given
returns-in-Ok-clause-given c = λ keys server is.
    let inside : Kept = record { server = c.self.inside.server; draw = c.self.inside.words; waiting = all_in c.self.inside.queue; asked = handed_out c.self.inside.asked c.self.inside.server.jobs } in
    let after : Kept = record { server = c.tick.new.self; draw = c.reach.new.self; waiting = all_in c.put.new.self; asked = handed_out c.self.inside.asked c.tick.new.self.jobs } in
    let none : after.asked ≡ None = ap (λ (asked : Bool). handed_out asked c.tick.new.self.jobs) c.if-self.false in
    let waits : after.waiting ≡ inside.waiting ++ c.in-Ok.effects.out.outs =
    c.put.ensures.put ∙ ap (λ (outs : List Out). outs ++ c.in-Ok.effects.out.outs) c.make_room.ensures.same in
    subst (λ (old : Kept). Is old server → Did old after (after_tick (setting_of (max old.server.moment c.args.now) drawing keys) server old.draw)) c.self.view_is
    (λ (own : Is inside server). event_did inside after c.draw-draw.result c.tick.new.draw c.in-Ok.effects
    (λ draw. after_tick (setting_of (max inside.server.moment c.args.now) drawing keys) server draw)
    (λ draw. c.events_draw_words.ensures.tick (setting_of (max inside.server.moment c.args.now) drawing keys) server draw)
    c.draw-draw.ensures (c.in-Ok.ensures.given keys server own) c.reach.ensures waits none)
    is
