use Rattle.std.proofs.Common.{◌≡◌, ◌∙◌, ℕ, Some, get_or, remove, ap, sym, arith}
use Rattle.std.specs.List.{position, position_or_len}
use Rattle.server_rules.specs.Server.{Name}
use Rattle.server_session.specs.declared.session.SessionState.{SessionState}
use Rattle.server_core.specs.Sessions.{is_kept_as, kept_as, without_kept}
use Rattle.server_core.proofs.Lists.{first-at, no-first, none-out, no-place, place-is}
use Rattle.server_core.proofs.Taking.{one-out}
use Rattle.server_core.proofs.sessions.out_of.Goals as goal

pub returns-in_err-place-clause-found : goal.returns-in_err-place-clause-found
returns-in_err-place-clause-found c =
    let name : Name = record { key = c.args.key; session = c.args.number } in
    let same : c.deref.result.now ≡ c.args.list.now.items = c.deref.ensures.value in
    let none = no-first (is_kept_as name) c.deref.result.now (no-place (is_kept_as name) c.deref.result.now c.in_err-place.ensures) in
    rw c.from_residual.ensures (sym none ∙ ap (kept_as name) same)

pub returns-in_err-place-clause-others : goal.returns-in_err-place-clause-others
returns-in_err-place-clause-others c =
    let name : Name = record { key = c.args.key; session = c.args.number } in
    let same : c.deref.result.now ≡ c.args.list.now.items = c.deref.ensures.value in
    let none = none-out (is_kept_as name) c.deref.result.now (no-place (is_kept_as name) c.deref.result.now c.in_err-place.ensures) in
    sym same ∙ (sym none ∙ ap (without_kept name) same)

pub returns-clause-found : goal.returns-clause-found
returns-clause-found c =
    let name : Name = record { key = c.args.key; session = c.args.number } in
    let test = is_kept_as name in
    let items = c.args.list.now.items in
    let list : c.deref.result.now ≡ items = c.deref.ensures.value in
    let placed : Some c.in_ok-place.place ≡ position test items = c.in_ok-place.ensures ∙ ap (position test) list in
    let at = place-is test items c.in_ok-place.place placed in
    let found = first-at test items c.remove.result (omega (arith, at.0, at.1)) in
    let value : c.remove.result ≡ get_or items c.in_ok-place.place c.remove.result = c.remove.ensures.value in
    let same : get_or items (position_or_len test items) c.remove.result ≡ c.remove.result =
    ap (λ (n : ℕ). get_or items n c.remove.result) at.0 ∙ sym value in
    sym (ap (λ (standing : SessionState). Some standing) same) ∙ sym found

pub returns-clause-others : goal.returns-clause-others
returns-clause-others c =
    let name : Name = record { key = c.args.key; session = c.args.number } in
    let test = is_kept_as name in
    let items = c.args.list.now.items in
    let list : c.deref.result.now ≡ items = c.deref.ensures.value in
    let placed : Some c.in_ok-place.place ≡ position test items = c.in_ok-place.ensures ∙ ap (position test) list in
    let at = place-is test items c.in_ok-place.place placed in
    let out = one-out name items c.requires (omega (arith, at.0, at.1)) in
    c.remove.ensures.items ∙ (ap (remove items) (sym at.0) ∙ sym out)
