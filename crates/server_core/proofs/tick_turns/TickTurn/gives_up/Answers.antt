use Rattle.std.proofs.Common.{sym, subst}
use Rattle.server_dispatch.specs.Contents.{content_of}
use Rattle.server_dispatch.specs.Entries.{Held}
use Rattle.server_dispatch.specs.Speaks.{HasRoom, Speaks}
use Rattle.server_rules.specs.Event.{Speaker}
use Rattle.server_rules.specs.Waiting.{gives_up}
use Rattle.server_session.specs.Says.{setting_of}
use Rattle.std.specs.Prelude.{slice_index_or}
use Rattle.server_core.proofs.tick_turns.TickTurn.gives_up.Goals as goal

pub gives_up-requires-clause-room : goal.gives_up-requires-clause-room
gives_up-requires-clause-room g c = λ d.
    subst (λ (entries : Held). HasRoom 1 48 1 (slice_index_or c.args.sessions.now c.args.place d) (record { owing = c.args.self.now.turn.owing; entries = entries }))
    (sym c.swap.ensures.x_after) (c.requires.room d)

pub returns-clause-speaks : goal.returns-clause-speaks
returns-clause-speaks g c = λ d keys bindings draw speaker unanswered speaks.
    let D : Type 0 = g.row.D.Denot in
    let now = c.args.now in
    let said : Speaker D = gives_up (setting_of now g.D.Draw.step keys) (content_of c.args.given_up.short) c.args.given_up.job speaker in
    let P : Held → Type 0 = λ entries. Speaks {S = D} now (slice_index_or c.args.sessions.now c.args.place d) (record { owing = c.args.self.now.turn.owing; entries = entries })
    c.args.jobs.now.jobs bindings draw speaker in
    let Q : Held → Type 0 = λ entries. Speaks {S = D} now (slice_index_or c.gives_up.new.self c.args.place d) (record { owing = c.gives_up.new.turn.owing; entries = entries })
    c.gives_up.new.jobs.jobs bindings draw said in
    subst Q (sym c.swap-2.ensures.y_after) (c.gives_up.ensures.speaks d keys bindings draw speaker unanswered (subst P (sym c.swap.ensures.x_after) speaks))
