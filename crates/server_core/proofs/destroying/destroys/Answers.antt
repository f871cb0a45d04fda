use Rattle.std.proofs.Common.{◌≡◌, ℕ, ap, subst}
use Rattle.std.specs.Prelude.{is_some}
use Rattle.server_rules.specs.Server.{Name}
use Rattle.server_rules.specs.Event.{Setting}
use Rattle.server_session.specs.SessionState.{key_of}
use Rattle.server_session.specs.Says.{setting_of}
use Rattle.server_dispatch.specs.Speaks.{Speaks}
use Rattle.server_core.specs.Among.{Among}
use Rattle.server_core.specs.Server.{without_jobs_where}
use Rattle.server_core.specs.Sessions.{AreKept, kept_as, without_kept}
use Rattle.server_core.proofs.DestroyLemmas.{IsLost, destroyed-by, lost-kept, lost_if, other_of}
use Rattle.server_core.proofs.Names.{named}
use Rattle.server_core.proofs.destroying.destroys.Goals as goal

pub returns-clause-speaks : goal.returns-clause-speaks
returns-clause-speaks g c = λ keys bindings draw among are speaks.
    let D : Type 0 = g.row.D.Denot in
    let number = c.args.destroyed in
    let so = c.loses-lost.result in
    let others = c.args.others.now in
    let left = c.loses-lost.new.others in
    let jobs = c.args.jobs.now.jobs in
    let later = c.loses-lost.new.jobs.jobs in
    let same : named c.key.result number ≡ named (key_of c.args.standing.now) number = ap (λ (key : ℕ). named key number) c.key.ensures.value in
    let F : Name → Type 0 = λ name. so ≡ is_some (kept_as name others) in
    let O : Name → Type 0 = λ name. left ≡ without_kept name others in
    let J : Name → Type 0 = λ name. later ≡ without_jobs_where so name jobs in
    let lost : IsLost D c.args.now so number c.args.standing.now left c.args.turn.now later bindings draw among =
    lost-kept c.sessions_stand_later.ensures.name c.args.now so number c.args.standing.now others left c.args.turn.now jobs later bindings draw among
    (subst F same c.loses-lost.ensures.found) (subst O same c.loses-lost.ensures.others) (subst J same c.loses-lost.ensures.jobs) are speaks in
    let setting : Setting D = setting_of c.args.now g.D.Draw.step keys in
    let is = destroyed-by setting number among so lost.found in
    let P : Among D → Type 0 = λ among. Speaks c.args.now c.says_destroyed.new.standing c.says_destroyed.new.self later bindings draw among.speaker in
    subst P is (c.says_destroyed.ensures.speaks keys later bindings draw (lost_if so (other_of number among) among).speaker lost.speaks)

pub returns-clause-kept : goal.returns-clause-kept
returns-clause-kept g c = λ keys bindings draw among are speaks.
    let D : Type 0 = g.row.D.Denot in
    let number = c.args.destroyed in
    let so = c.loses-lost.result in
    let others = c.args.others.now in
    let left = c.loses-lost.new.others in
    let jobs = c.args.jobs.now.jobs in
    let later = c.loses-lost.new.jobs.jobs in
    let same : named c.key.result number ≡ named (key_of c.args.standing.now) number = ap (λ (key : ℕ). named key number) c.key.ensures.value in
    let F : Name → Type 0 = λ name. so ≡ is_some (kept_as name others) in
    let O : Name → Type 0 = λ name. left ≡ without_kept name others in
    let J : Name → Type 0 = λ name. later ≡ without_jobs_where so name jobs in
    let lost : IsLost D c.args.now so number c.args.standing.now left c.args.turn.now later bindings draw among =
    lost-kept c.sessions_stand_later.ensures.name c.args.now so number c.args.standing.now others left c.args.turn.now jobs later bindings draw among
    (subst F same c.loses-lost.ensures.found) (subst O same c.loses-lost.ensures.others) (subst J same c.loses-lost.ensures.jobs) are speaks in
    let setting : Setting D = setting_of c.args.now g.D.Draw.step keys in
    let is = destroyed-by setting number among so lost.found in
    let P : Among D → Type 0 = λ among. AreKept c.args.now left among.others in
    subst P is lost.kept
