use Rattle.std.proofs.Common.{◌≡◌, ◌<◌, List, length, get_or, sym, subst}
use Rattle.std.proofs.lemmas.List.{get_or-set_same}
use Rattle.server_dispatch.specs.Contents.{content_of}
use Rattle.server_dispatch.specs.Speaks.{Speaks}
use Rattle.server_rules.specs.Event.{Speaker}
use Rattle.server_rules.specs.Waiting.{gives_up}
use Rattle.server_session.specs.declared.session.SessionState.{SessionState}
use Rattle.server_session.specs.Says.{setting_of}
use Rattle.server_core.proofs.Lent.{lent-at}
use Rattle.server_core.proofs.sessions.Sessions.gives_up.Goals as goal

pub returns-clause-speaks : goal.returns-clause-speaks
returns-clause-speaks g c = λ d keys bindings draw speaker unanswered speaks.
    let D : Type 0 = g.row.D.Denot in
    let now = c.args.now in
    let items = c.self.inside.list.items in
    let place = c.args.place in
    let lent : SessionState = c.index_mut-standing.result.now in
    let after : SessionState = c.gives_up.new.standing in
    let within : place < length items = subst (λ (standings : List SessionState). place < length standings) (sym c.self.view_is) c.requires.place in
    let here : lent ≡ get_or c.args.self.now place d = lent-at items c.args.self.now place lent d c.self.view_is c.index_mut-standing.ensures.value within in
    let said : Speaker D = gives_up (setting_of now g.D.Draw.step keys) (content_of c.args.short) c.args.job speaker in
    let P : SessionState → Type 0 = λ standing. Speaks {S = D} now standing c.args.turn.now c.args.jobs.now.jobs bindings draw speaker in
    let Q : SessionState → Type 0 = λ standing. Speaks {S = D} now standing c.gives_up.new.self c.gives_up.new.jobs.jobs bindings draw said in
    subst Q (sym (get_or-set_same items place after d within)) (c.gives_up.ensures.speaks keys bindings draw speaker unanswered (subst P (sym here) speaks))
