use Rattle.std.proofs.Common.{◌≡◌, ◌++◌, ℕ, max, None, List, ap, subst, ◌∙◌, refl}
use Rattle.server_output.specs.declared.outs.Out.{Out}
use Rattle.server_rules.specs.Answer.{after_work}
use Rattle.server_session.specs.Says.{setting_of}
use Rattle.kifzaro.specs.Drawing.{drawing}
use Rattle.kifzaro.specs.Queues.{all_in}
use Rattle.kifzaro.specs.Servers.{Did, Is, Kept, after_reply, giving, handed_out}
use Rattle.kifzaro.proofs.ServerLemmas.{event_did}
use Rattle.kifzaro.proofs.server.Server.answer.Goals as goal

pub returns-clause-given : goal.returns-clause-given
returns-clause-given c = λ keys server is.
    let inside : Kept = record { server = c.self.inside.server; draw = c.self.inside.words; waiting = all_in c.self.inside.queue; asked = handed_out c.self.inside.asked c.self.inside.server.jobs } in
    let after : Kept = record { server = c.work.new.self; draw = c.reach.new.self; waiting = all_in c.put.new.self; asked = None } in
    let effects = c.in_ok-effects.effects in
    let given = c.in_ok-given.given in
    let more : after.waiting ≡ inside.waiting ++ effects.out.outs =
    c.put.ensures.put ∙ ap (λ (outs : List Out). outs ++ effects.out.outs) c.in_ok-make_room.ensures.same in
    subst (λ (old : Kept). Is old server → Did old after (after_reply (setting_of (max old.server.moment c.args.now) drawing keys) c.args.reply.now server old.draw))
    c.self.view_is
    (λ (own : Is inside server).
    subst (λ (one : List ℕ). Did inside after (after_reply (setting_of (max inside.server.moment c.args.now) drawing keys) one server inside.draw)) c.in_ok-given.ensures
    (event_did inside after c.draw-draw.result c.work.new.draw effects
    (λ draw. (after_work (setting_of (max inside.server.moment c.args.now) drawing keys) 0 giving given server draw).0)
    (λ draw. c.events_draw_words.ensures.work (setting_of (max inside.server.moment c.args.now) drawing keys) 0 giving given server draw)
    c.draw-draw.ensures (c.in_ok-effects.ensures.given keys server own) c.reach.ensures more refl))
    is
