use Rattle.std.proofs.Common.{◌∙◌, List, ap, sym, subst}
use Rattle.server_session.specs.declared.session.SessionState.{SessionState}
use Rattle.server_rules.specs.Answer.{with_place as place_made}
use Rattle.server_core.specs.Others.{first_lost, without_lost}
use Rattle.server_core.specs.Sessions.{AreKept}
use Rattle.server_core.proofs.HearLemmas.{placed-jobs, placed-kept}
use Rattle.server_core.proofs.hearing.makes_place.Goals as goal

pub returns-clause-placed : goal.returns-clause-placed
returns-clause-placed g c = λ now state are.
    let others = c.in_ok-others.others in
    let K : List SessionState → Type 0 = λ standings. AreKept now standings state.sessions in
    let L : List SessionState → Type 0 = λ standings. AreKept now standings (place_made state).sessions in
    subst L (sym c.loses_first.ensures.others)
    (placed-kept c.sessions_stand_later.ensures.name now others state c.in_ok-others.ensures.apart (subst K (sym c.in_ok-others.ensures.all) are))

pub returns-clause-jobs : goal.returns-clause-jobs
returns-clause-jobs g c = λ now state are jobs.
    let others = c.in_ok-others.others in
    let K : List SessionState → Type 0 = λ standings. AreKept now standings state.sessions in
    c.loses_first.ensures.jobs
    ∙ (ap (without_lost (first_lost others)) jobs
    ∙ placed-jobs c.sessions_stand_later.ensures.name now others state (subst K (sym c.in_ok-others.ensures.all) are))
