use Rattle.std.proofs.Common.{◌≢◌, List, sym, subst}
use Rattle.std.specs.List.{All}
use Rattle.server_session.specs.declared.session.SessionState.{SessionState}
use Rattle.server_session.specs.Names.{name_kept}
use Rattle.server_core.specs.Sessions.{AreApart, HaveOtherNames}
use Rattle.server_core.proofs.Pairs.{pairs-push}
use Rattle.server_core.proofs.others.Others.with_it.Goals as goal

pub invariant_of-result : goal.invariant_of-result
invariant_of-result c =
    let A : List SessionState → Type 0 = λ standings. All (λ other. name_kept other ≢ name_kept c.args.standing) standings in
    subst AreApart (sym c.push_reserved.ensures.items)
    (pairs-push HaveOtherNames c.args.standing c.self.inside.list.items c.self.invariant.0 (subst A (sym c.self.view_is) c.requires))
