use Rattle.std.proofs.Common.{◌≡◌, ◌<◌, List, length, get_or, sym, subst}
use Rattle.std.proofs.lemmas.List.{get_or-set_same}
use Rattle.server_rules.specs.Event.{Speaker}
use Rattle.server_session.specs.declared.session.SessionState.{SessionState}
use Rattle.server_session.specs.Says.{setting_of}
use Rattle.server_core.specs.Speech.{Begins}
use Rattle.server_core.specs.Working.{Ends, worked}
use Rattle.server_core.proofs.Lent.{lent-at}
use Rattle.server_core.proofs.Worked.{without_its}
use Rattle.server_core.proofs.sessions.Sessions.works.Goals as goal

pub returns-clause-ends : goal.returns-clause-ends
returns-clause-ends g c = λ d keys name others past job speaker begins same none ready is.
    let D : Type 0 = g.row.D.Denot in
    let now = c.args.now in
    let items = c.self.inside.list.items in
    let place = c.args.place in
    let lent : SessionState = c.index_mut-standing.result.now in
    let after : SessionState = c.works.new.standing in
    let within : place < length items = subst (λ (standings : List SessionState). place < length standings) (sym c.self.view_is) c.requires.place in
    let here : lent ≡ get_or c.args.self.now place d = lent-at items c.args.self.now place lent d c.self.view_is c.index_mut-standing.ensures.value within in
    let said : Speaker D = worked (setting_of now g.D.Draw.step keys) job c.args.work.reply (without_its c.args.work.k speaker) in
    let P : SessionState → Type 0 = λ standing. Begins {S = D} now standing c.args.draw.now speaker in
    let Q : SessionState → Type 0 = λ standing. Ends g.S.Seal.lock (g.S.Seal.keys c.args.seal.now) now standing c.works.new.jobs.jobs c.works.new.draw c.works.result said in
    subst Q (sym (get_or-set_same items place after d within)) (c.works.ensures.ends keys name others past job speaker (subst P (sym here) begins) same none ready is)
