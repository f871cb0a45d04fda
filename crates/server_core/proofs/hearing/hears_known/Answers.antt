use Rattle.std.proofs.Common.{◌≢◌, List, sym, subst}
use Rattle.std.specs.List.{All}
use Rattle.server_session.specs.declared.session.SessionState.{SessionState}
use Rattle.server_session.specs.Names.{name_kept}
use Rattle.server_rules.specs.Answer.{name_in}
use Rattle.server_core.proofs.HearLemmas.{heard-known, one-named, others-apart}
use Rattle.server_core.proofs.hearing.hears_known.Goals as goal

pub returns-clause-heard : goal.returns-clause-heard
returns-clause-heard g c = λ setting envelope server draw are at.
    let name = name_in envelope in
    heard-known c.sessions_stand_later.ensures.name setting envelope server draw c.args.sessions.now c.lend.result.0 c.lend.result.1 are
    (c.lend.ensures.one name at) (c.lend.ensures.others name at)

pub returns-clause-named : goal.returns-clause-named
returns-clause-named g c = λ name at. one-named name c.args.sessions.now c.lend.result.1 (c.lend.ensures.one name at)

pub returns-clause-apart : goal.returns-clause-apart
returns-clause-apart g c = λ name at.
    let A : List SessionState → Type 0 = λ standings. All (λ other. name_kept other ≢ name) standings in
    subst A (sym (c.lend.ensures.others name at)) (others-apart name c.args.sessions.now)
