use Rattle.std.proofs.Common.{◌≡◌, ◌<◌, List, length, get_or, sym, subst}
use Rattle.std.proofs.lemmas.List.{get_or-set_same}
use Rattle.server_rules.specs.Sending.{sends}
use Rattle.server_session.specs.declared.session.SessionState.{SessionState}
use Rattle.server_session.specs.SessionState.{Stands}
use Rattle.server_session.specs.Says.{Says, setting_of}
use Rattle.server_core.proofs.Lent.{lent-at}
use Rattle.server_core.proofs.sessions.Sessions.sends.Goals as goal

pub returns-clause-stands : goal.returns-clause-stands
returns-clause-stands g c = λ d keys speaker says.
    let now = c.args.now in
    let items = c.self.inside.list.items in
    let place = c.args.place in
    let lent : SessionState = c.index_mut-standing.result.now in
    let after : SessionState = c.sends.new.self in
    let within : place < length items = subst (λ (standings : List SessionState). place < length standings) (sym c.self.view_is) c.requires.place in
    let here : lent ≡ get_or c.args.self.now place d = lent-at items c.args.self.now place lent d c.self.view_is c.index_mut-standing.ensures.value within in
    let P : SessionState → Type 0 = λ standing. Says {S = g.row.D.Denot} now standing c.args.delivery.owing.now c.args.draw.now speaker in
    let Q : SessionState → Type 0 = λ standing. Stands now standing (sends (setting_of now g.D.Draw.step keys) c.args.delivery.owing.now.messages speaker).session in
    subst Q (sym (get_or-set_same items place after d within)) (c.sends.ensures.stands keys speaker (subst P (sym here) says))

pub returns-clause-drawn : goal.returns-clause-drawn
returns-clause-drawn g c = λ d keys speaker says.
    let items = c.self.inside.list.items in
    let place = c.args.place in
    let lent : SessionState = c.index_mut-standing.result.now in
    let within : place < length items = subst (λ (standings : List SessionState). place < length standings) (sym c.self.view_is) c.requires.place in
    let here : lent ≡ get_or c.args.self.now place d = lent-at items c.args.self.now place lent d c.self.view_is c.index_mut-standing.ensures.value within in
    c.sends.ensures.drawn keys speaker (subst (λ (standing : SessionState). Says {S = g.row.D.Denot} c.args.now standing c.args.delivery.owing.now c.args.draw.now speaker) (sym here) says)

pub returns-clause-sent : goal.returns-clause-sent
returns-clause-sent g c = λ d keys speaker says sent.
    let items = c.self.inside.list.items in
    let place = c.args.place in
    let lent : SessionState = c.index_mut-standing.result.now in
    let within : place < length items = subst (λ (standings : List SessionState). place < length standings) (sym c.self.view_is) c.requires.place in
    let here : lent ≡ get_or c.args.self.now place d = lent-at items c.args.self.now place lent d c.self.view_is c.index_mut-standing.ensures.value within in
    c.sends.ensures.sent keys speaker (subst (λ (standing : SessionState). Says {S = g.row.D.Denot} c.args.now standing c.args.delivery.owing.now c.args.draw.now speaker) (sym here) says) sent
