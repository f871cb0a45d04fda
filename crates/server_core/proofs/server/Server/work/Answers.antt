use Rattle.std.proofs.Common.{◌≡◌, ◌∙◌, ◌≤◌, ℕ, Some, List, max, ap, sym, subst}
use Rattle.std.specs.Prelude.{IfOk, length}
use Rattle.msg_ids.specs.Moments.{latest_moment}
use Rattle.regs_service.specs.Served.{reply_bytes_max}
use Rattle.waits.specs.declared.job.Job.{Job}
use Rattle.waits.specs.Jobs.{ready_job}
use Rattle.server_rules.specs.Answer.{after_work}
use Rattle.server_rules.specs.Event.{Setting}
use Rattle.server_rules.specs.Server.{Name}
use Rattle.server_session.specs.Says.{setting_of}
use Rattle.server_core.specs.declared.effects.Effects.{Effects}
use Rattle.server_core.specs.Desks.{IsShortRunAt}
use Rattle.server_core.specs.Effects.{Gives}
use Rattle.server_core.specs.Sessions.{is_kept_as}
use Rattle.server_core.specs.Server.{Kept}
use Rattle.server_core.proofs.Desked.{does-where}
use Rattle.server_core.proofs.Lists.{no-place}
use Rattle.server_core.proofs.Speaking.{none-at}
use Rattle.server_core.proofs.Worked.{ready-stands}
use Rattle.server_core.proofs.Outcomes.{on-ok-each}
use Rattle.server_core.proofs.server.Server.work.Goals as goal

-- the session of a ready job is there
pub unreachable-requires : goal.unreachable-requires
unreachable-requires g c =
    let job : Job = c.ready_at-job.result.now in
    let name : Name = record { key = job.key; session = job.session } in
    let old = c.self.invariant in
    let inside = old.stands_for.stands in
    let standings = c.self.inside.sessions in
    let none = none-at c.sessions_stand_later.ensures.name c.self.inside.moment name standings old.server.sessions inside.sessions
    (no-place (is_kept_as name) standings c.in_default.ensures) in
    ready-stands old.server c.args.k job old.stands_for.between.order (ap (ready_job c.args.k) (sym inside.jobs) ∙ c.ready_at-job.ensures) none

pub returns-clause-short : goal.returns-clause-short
returns-clause-short g c = λ server is.
    let stands = is.stands in
    let reply : Job → List ℕ = λ job. (g.V.Service.step c.args.service.now job.request).0 in
    on-ok-each (λ job. ready_job c.args.k server.jobs ≡ Some job) (λ job. length (reply job) ≤ reply_bytes_max) c.work_at.result
    (λ job ready. c.work_at.ensures.short job (ap (ready_job c.args.k) stands.jobs ∙ ready))

pub returns-clause-given : goal.returns-clause-given
returns-clause-given g c = λ keys server is.
    let K : Type 0 = Kept g.row.S.Denot in
    let D : Type 0 = g.row.D.Denot in
    let lock = g.S.Seal.lock in
    let ring = g.S.Seal.keys c.args.self.now.seal in
    let serve = g.V.Service.step in
    let service = c.args.service.now in
    let draw = c.args.draw.now in
    let setting : Setting D = setting_of (max c.args.self.now.moment c.args.now) g.D.Draw.step keys in
    let moment : c.later-moment.result ≡ max c.args.self.now.moment c.args.now =
    c.later-moment.ensures ∙ ap (λ (kept : K). max kept.moment c.args.now) c.self.view_is in
    let early : setting.now ≤ latest_moment = subst (λ (at : ℕ). at ≤ latest_moment) moment c.is_early.ensures in
    does-where g.row.S.Denot D (IsShortRunAt c.args.k serve service server) lock ring c.work_at.new.self c.work_at.new.draw (λ (effects : Effects). effects)
    (after_work setting c.args.k serve service server draw).0 c.work_at.result
    (returns-clause-short g c server is)
    (λ short. c.runs_keep_order.ensures setting c.args.k serve service server draw early short is.between)
    (subst (λ (now : ℕ). IfOk c.work_at.result (λ effects. Gives {S = g.row.S.Denot} {D = D} lock ring
    c.work_at.new.self c.work_at.new.draw effects (after_work (setting_of now g.D.Draw.step keys) c.args.k serve service server draw).0))
    moment (c.work_at.ensures.given keys server is))
