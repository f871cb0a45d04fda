use Rattle.std.proofs.Common.{◌≡◌, ◌∙◌, ◌<◌, ℕ, List, length, get_or, ap, sym, subst, arith}
use Rattle.waits.specs.Jobs.{blocked_count_of, overdue_count_of}
use Rattle.server_session.specs.declared.session.SessionState.{SessionState}
use Rattle.server_session.specs.Names.{name_kept}
use Rattle.server_session.specs.SessionState.{key_of, number_of}
use Rattle.server_core.proofs.Due.{few-left, none-left}
use Rattle.server_core.proofs.Lent.{lent-at}
use Rattle.server_core.proofs.sessions.Sessions.most_answers.Goals as goal

pub returns-then-left-eq0-clause-enough : goal.returns-then-left-eq0-clause-enough
returns-then-left-eq0-clause-enough c = λ d unfailed none.
    let none_left = none-left c.args.now c.args.jobs.now.jobs (name_kept (get_or c.args.self.now c.args.place d)) unfailed (none c.if-left-eq0.true) in
    omega arith

pub returns-then-overdue-eq0-clause-enough : goal.returns-then-overdue-eq0-clause-enough
returns-then-overdue-eq0-clause-enough c = λ d unfailed _.
    let items = c.self.inside.list.items in
    let place = c.args.place in
    let now = c.args.now in
    let jobs = c.args.jobs.now.jobs in
    let lent : SessionState = c.index-standing.result.now in
    let within : place < length items = subst (λ (standings : List SessionState). place < length standings) (sym c.self.view_is) c.requires.place in
    let here : lent ≡ get_or c.args.self.now place d = lent-at items c.args.self.now place lent d c.self.view_is c.index-standing.ensures within in
    let count : overdue_count_of c.key.result c.number.result now jobs ≡ 0 = sym c.overdue_of-overdue.ensures.count ∙ c.if-overdue-eq0.true in
    let count_lent : overdue_count_of (key_of lent) (number_of lent) now jobs ≡ 0 =
    ap (λ (key : ℕ). overdue_count_of key (number_of lent) now jobs) (sym c.key.ensures.value)
    ∙ (ap (λ (number : ℕ). overdue_count_of c.key.result number now jobs) (sym c.number.ensures.value) ∙ count) in
    let none = subst (λ (standing : SessionState). overdue_count_of (key_of standing) (number_of standing) now jobs ≡ 0) here count_lent in
    let left = none-left now jobs (name_kept (get_or c.args.self.now place d)) unfailed none in
    omega arith

pub returns-clause-enough : goal.returns-clause-enough
returns-clause-enough c = λ d unfailed _.
    let items = c.self.inside.list.items in
    let place = c.args.place in
    let now = c.args.now in
    let jobs = c.args.jobs.now.jobs in
    let lent : SessionState = c.index-standing.result.now in
    let within : place < length items = subst (λ (standings : List SessionState). place < length standings) (sym c.self.view_is) c.requires.place in
    let here : lent ≡ get_or c.args.self.now place d = lent-at items c.args.self.now place lent d c.self.view_is c.index-standing.ensures within in
    let count : c.blocked.result ≡ blocked_count_of (key_of lent) (number_of lent) jobs =
    c.blocked.ensures.count
    ∙ (ap (λ (key : ℕ). blocked_count_of key c.number-2.result jobs) c.key-2.ensures.value
    ∙ ap (λ (number : ℕ). blocked_count_of (key_of lent) number jobs) c.number-2.ensures.value) in
    let its = subst (λ (standing : SessionState). c.blocked.result ≡ blocked_count_of (key_of standing) (number_of standing) jobs) here count in
    let few = few-left now jobs (name_kept (get_or c.args.self.now place d)) in
    omega arith
