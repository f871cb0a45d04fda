use Rattle.std.proofs.Common.{◌∙◌, List, ap, sym, subst, refl, not, is_some, arith, Option}
use Rattle.std.proofs.lemmas.List.Elements.{All-filter}
use Rattle.std.proofs.lemmas.List.Filters.{length-filter_both}
use Rattle.waits.specs.Held.{Held}
use Rattle.waits.specs.Jobs.{without_session as without_jobs_of}
use Rattle.server_rules.specs.Server.{Name, without_session}
use Rattle.server_session.specs.declared.session.SessionState.{SessionState}
use Rattle.server_core.specs.Sessions.{AreKept, is_kept_as, without_kept}
use Rattle.server_core.specs.Server.{CanSpeak, IsSound, Kept, Stands, StandsFor}
use Rattle.server_rules.specs.Answer.{after_loss}
use Rattle.server_core.proofs.Steady.{steady-by}
use Rattle.server_core.proofs.SessionState.{others-kept, same-found}
use Rattle.server_core.proofs.server.Server.lose.Goals as goal

pub returns-clause-found : goal.returns-clause-found
returns-clause-found g c = λ server is.
    let stands = is.stands in
    let name : Name = record { key = c.args.key; session = c.args.session } in
    let K : Type 0 = Kept g.row.S.Denot in
    let inside = subst (λ (kept : K). Stands kept server) (sym c.self.view_is) stands in
    c.is_some.ensures
    ∙ (ap (λ (found : Option SessionState). is_some found) c.take_out.ensures.found
    ∙ same-found c.sessions_stand_later.ensures.name c.self.inside.moment name c.self.inside.sessions server.sessions inside.sessions)

pub returns-clause-stands : goal.returns-clause-stands
returns-clause-stands g c = λ server is.
    let name : Name = record { key = c.args.key; session = c.args.session } in
    let K : Type 0 = Kept g.row.S.Denot in
    let inside = subst (λ (kept : K). Stands kept server) (sym c.self.view_is) is.stands in
    let moment = c.self.inside.moment in
    let kept = others-kept c.sessions_stand_later.ensures.name moment name c.self.inside.sessions server.sessions inside.sessions in
    record {
      stands = record {
        moment = inside.moment;
        sessions = subst (λ (standings : List SessionState). AreKept moment standings (without_session name server.sessions)) (sym c.take_out.ensures.others) kept;
        jobs = ap (λ (held : Held). held.jobs) c.forget.ensures ∙ ap (without_jobs_of c.args.key c.args.session) inside.jobs;
        bindings = inside.bindings;
      };
      between = c.losses_keep_order.ensures.loss name server is.between;
    }

pub invariant_of-self : goal.invariant_of-self
invariant_of-self g c =
    let name : Name = record { key = c.args.key; session = c.args.session } in
    let keys = g.S.Seal.keys c.self.inside.seal in
    let P : List SessionState → Type 0 = IsSound keys c.self.inside.moment in
    let sound : IsSound keys c.self.inside.moment (without_kept name c.self.inside.sessions) = record {
      few = omega (arith, length-filter_both (λ (standing : SessionState). not (is_kept_as name standing)) (λ (standing : SessionState). not (not (is_kept_as name standing))) (λ standing. refl) c.self.inside.sessions, c.self.invariant.few);
      speaking = All-filter (λ standing. not (is_kept_as name standing)) (CanSpeak keys c.self.inside.moment) c.self.inside.sessions c.self.invariant.speaking;
    } in
    let old = c.self.invariant in
    let K : Type 0 = Kept g.row.S.Denot in
    let stands : StandsFor c.args.self.now old.server = subst (λ (kept : K). StandsFor kept old.server) c.self.view_is old.stands_for in
    let lost = returns-clause-stands g c old.server stands in
    steady-by {S = g.row.S.Denot} keys _ (after_loss name old.server) (subst P (sym c.take_out.ensures.others) sound) lost.stands lost.between
