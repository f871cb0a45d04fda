use Rattle.std.proofs.Common.{◌∙◌, ℕ, List, ap, sym, subst}
use Rattle.std.specs.Prelude.{nat_lt}
use Rattle.server_rules.specs.Answer.{is_spent, room_min}
use Rattle.server_session.specs.declared.session.SessionState.{SessionState}
use Rattle.server_session.specs.SessionState.{key_of, numbers_left}
use Rattle.server_core.specs.Among.{left_where}
use Rattle.server_core.specs.Others.{with_last_where}
use Rattle.server_core.specs.Server.{without_jobs_where}
use Rattle.server_core.specs.Sessions.{AreKept}
use Rattle.server_core.proofs.LeaveLemmas.{back-jobs, back-kept}
use Rattle.server_core.proofs.Names.{named}
use Rattle.server_core.proofs.leaving.goes_back.Goals as goal

pub returns-clause-kept : goal.returns-clause-kept
returns-clause-kept g c = λ now among are stands.
    let K : List SessionState → Type 0 = λ standings. AreKept now standings (left_where (is_spent among.speaker.session) among).sessions in
    let standing = c.args.standing in
    let others = c.args.others in
    let is = c.back.ensures ∙ ap (λ (n : ℕ). with_last_where (nat_lt n room_min) standing others) c.numbers_left-is_spent.ensures in
    subst K (sym is) (back-kept c.sessions_stand_later.ensures.room now others standing among are stands)

pub returns-clause-left : goal.returns-clause-left
returns-clause-left g c = λ now among stands same.
    let laws = c.sessions_stand_later.ensures in
    let standing = c.args.standing in
    let jobs = c.args.jobs.now.jobs in
    c.forgets.ensures.jobs
    ∙ (ap (λ (n : ℕ). without_jobs_where (nat_lt n room_min) (named c.key.result c.number.result) jobs) c.numbers_left-is_spent.ensures
    ∙ (ap (λ (key : ℕ). without_jobs_where (nat_lt (numbers_left standing) room_min) (named key c.number.result) jobs) c.key.ensures.value
    ∙ (ap (λ (number : ℕ). without_jobs_where (nat_lt (numbers_left standing) room_min) (named (key_of standing) number) jobs) c.number.ensures.value
    ∙ back-jobs laws.name laws.room now standing jobs among stands same)))
