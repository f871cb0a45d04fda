use Rattle.std.proofs.Common.{◌≡◌, ◌∙◌, ℕ, Some, List, get_or, remove, ap, sym, arith}
use Rattle.std.specs.List.{position, position_or_len}
use Rattle.server_session.specs.declared.session.SessionState.{SessionState}
use Rattle.server_core.specs.Sessions.{is_kept_as, kept_as, without_kept}
use Rattle.server_core.proofs.Lists.{first-at, place-is}
use Rattle.server_core.proofs.Taking.{one-out}
use Rattle.server_core.proofs.sessions.Sessions.lend.Goals as goal

pub returns-clause-others : goal.returns-clause-others
returns-clause-others c = λ name is.
    let test = is_kept_as name in
    let items = c.self.inside.list.items in
    let place = c.args.place in
    let placed : Some place ≡ position test items = sym (ap (position test) c.self.view_is ∙ is) in
    let at = place-is test items place placed in
    let out = one-out name items c.self.invariant (omega (arith, at.0, at.1)) in
    let same : c.replace-list.result.items ≡ items = cc (c.replace-list.ensures.value) in
    c.remove-standing.ensures.items
    ∙ (ap (λ (standings : List SessionState). remove standings place) same
    ∙ (ap (remove items) (sym at.0) ∙ (sym out ∙ ap (without_kept name) c.self.view_is)))

pub returns-clause-one : goal.returns-clause-one
returns-clause-one c = λ name is.
    let test = is_kept_as name in
    let items = c.self.inside.list.items in
    let place = c.args.place in
    let one : SessionState = c.remove-standing.result in
    let placed : Some place ≡ position test items = sym (ap (position test) c.self.view_is ∙ is) in
    let at = place-is test items place placed in
    let same : c.replace-list.result.items ≡ items = cc (c.replace-list.ensures.value) in
    let value : one ≡ get_or items place one = c.remove-standing.ensures.value ∙ ap (λ (standings : List SessionState). get_or standings place one) same in
    let here : get_or items (position_or_len test items) one ≡ one = ap (λ (n : ℕ). get_or items n one) at.0 ∙ sym value in
    sym (ap (kept_as name) c.self.view_is)
    ∙ (first-at test items one (omega (arith, at.0, at.1)) ∙ ap (λ (standing : SessionState). Some standing) here)
