use Rattle.std.proofs.Common.{◌≡◌, ◌∙◌, ◌<◌, ◌+◌, ℕ, List, length, get_or, max, ap, sym, subst}
use Rattle.std.proofs.lemmas.List.{get_or-set_same}
use Rattle.std.proofs.lemmas.Result.{on_ok_weaker}
use Rattle.waits.specs.declared.job.Job.{Job}
use Rattle.server_session.specs.declared.session.SessionState.{SessionState}
use Rattle.server_session.specs.Rooms.{with_replies_left}
use Rattle.server_session.specs.SessionState.{replies_left}
use Rattle.server_core.proofs.Lent.{lent-at}
use Rattle.server_core.proofs.Names.{some-same}
use Rattle.server_core.proofs.sessions.Sessions.serves.Goals as goal

pub returns-clause-kept : goal.returns-clause-kept
returns-clause-kept g c = λ d.
    let items = c.self.inside.list.items in
    let place = c.args.place in
    let lent : SessionState = c.index_mut-standing.result.now in
    let after : SessionState = c.serves.new.standing in
    let within : place < length items = subst (λ (standings : List SessionState). place < length standings) (sym c.self.view_is) c.requires.place in
    let here : lent ≡ get_or c.args.self.now place d = lent-at items c.args.self.now place lent d c.self.view_is c.index_mut-standing.ensures.value within in
    let served : SessionState → SessionState = λ standing. with_replies_left (max (replies_left standing) (c.args.work.now.limit + 1)) standing in
    on_ok_weaker c.serves.result (λ (kept : after ≡ served lent). get_or-set_same items place after d within ∙ (kept ∙ ap served here)) c.serves.ensures.kept

pub returns-clause-served : goal.returns-clause-served
returns-clause-served g c = λ job ready.
    let same : c.ready_at.result.now ≡ job = some-same c.ready_at.result.now job (sym c.ready_at.ensures ∙ ready) in
    on_ok_weaker c.serves.result
    (λ served. served ∙ ap (λ (request : List ℕ). (g.V.Service.step c.args.service.now request).1) (c.as_slice-request.ensures ∙ ap (λ (job : Job). job.request) same))
    c.serves.ensures.served
