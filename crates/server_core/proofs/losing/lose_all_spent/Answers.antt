use Rattle.std.proofs.Common.{◌≡◌, ◌∙◌, not, List, length, get_or, ap, sym, subst, arith}
use Rattle.std.specs.List.{All}
use Rattle.std.proofs.lemmas.List.Elements.{All-filter}
use Rattle.waits.specs.Jobs.{Queue}
use Rattle.server_rules.specs.Answer.{without_spent}
use Rattle.server_rules.specs.Event.{State}
use Rattle.server_session.specs.declared.session.SessionState.{SessionState}
use Rattle.server_session.specs.Names.{name_kept}
use Rattle.server_core.specs.Losing.{IsHere, is_spent_kept}
use Rattle.server_core.specs.Sessions.{AreKept, is_kept_as, without_kept}
use Rattle.server_core.proofs.Lists.{no-place, place-is}
use Rattle.server_core.proofs.LoseLemmas.{AreLost, lose-step, none-lost, one-fewer, room-left}
use Rattle.server_core.proofs.Places.{one-of}
use Rattle.server_core.proofs.losing.lose_all_spent.Goals as goal

pub returns-in_default-clause-lost : goal.returns-in_default-clause-lost
returns-in_default-clause-lost g c = λ now state are jobs_are.
    let D : Type 0 = g.row.D.Denot in
    let standings = c.loop-step.sessions in
    let so_far = c.loop-step.invariant.lost now state are jobs_are in
    let none = no-place is_spent_kept standings (sym c.in_default.is ∙ c.spent_place.ensures) in
    let done : without_spent state ≡ so_far.state =
    sym so_far.same ∙ none-lost c.sessions_stand_later.ensures.room now standings so_far.state so_far.kept none in
    subst (λ (state : State D). AreKept now standings state.sessions × (c.loop-step.jobs.jobs ≡ state.jobs)) (sym done) (so_far.kept, so_far.jobs)

pub returns-in_default-clause-left : goal.returns-in_default-clause-left
returns-in_default-clause-left g c =
    room-left c.loop-step.sessions (no-place is_spent_kept c.loop-step.sessions (sym c.in_default.is ∙ c.spent_place.ensures))

pub loop-step-preserved : goal.loop-step-preserved
loop-step-preserved g c =
    let so = c.loop-step.invariant in
    let standings = c.loop-step.sessions in
    let queue = c.loop-step.jobs.jobs in
    let place = c.in-Some.place in
    let at = place-is is_spent_kept standings place (sym c.in-Some.is ∙ c.spent_place.ensures) in
    let d = one-of standings place at.1 in
    let standing = get_or standings place d in
    let sessions_are = c.lose_at.ensures.sessions d in
    let jobs_are = c.lose_at.ensures.jobs d in
    let fewer = one-fewer standings place d at.1 in
    let long : length c.lose_at.new.sessions ≡ length (without_kept (name_kept standing) standings) = ap (λ (standings : List SessionState). length standings) sessions_are in
    let before = so.fewer in
    record {
      lost = λ now start are same_jobs.
          let step = lose-step {S = g.row.D.Denot} c.sessions_stand_later.ensures.name c.sessions_stand_later.ensures.room now standings queue start place d
          (so.lost now start are same_jobs) c.lose_at.ensures.apart at.0 at.1 in
          subst (λ (standings : List SessionState). AreLost g.row.D.Denot now standings c.lose_at.new.jobs.jobs start) (sym sessions_are)
          (subst (λ (jobs : Queue). AreLost g.row.D.Denot now (without_kept (name_kept standing) standings) jobs start) (sym jobs_are) step);
      here = λ ring now all.
          subst (λ (standings : List SessionState). All (IsHere ring now) standings) (sym sessions_are)
          (All-filter (λ other. not (is_kept_as (name_kept standing) other)) (IsHere ring now) standings (so.here ring now all));
      fewer = omega arith;
    }
