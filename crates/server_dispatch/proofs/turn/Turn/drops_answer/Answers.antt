use Rattle.std.proofs.Common.{◌≡◌, ◌∙◌, Option, Some, None, ap, sym}
use Rattle.std.proofs.lemmas.List.Elements.{All-head}
use Rattle.waits.specs.declared.job.Job.{Job}
use Rattle.waits.specs.Held.{Held}
use Rattle.waits.specs.Jobs.{first_job, is_call, without_first}
use Rattle.server_rules.specs.Calls.{dropped_running, drops_by}
use Rattle.server_rules.specs.Speaking.{answers}
use Rattle.law_server.specs.Order.{IsUnanswered}
use Rattle.server_session.specs.Fates.{kept_to}
use Rattle.server_session.specs.Says.{setting_of}
use Rattle.server_dispatch.proofs.Using.{both-unsaid}
use Rattle.server_dispatch.proofs.Steps.{spoken-as, with-jobs}
use Rattle.server_dispatch.proofs.DropLemmas.{found-holds, looked-for, none-taken, others-are}
use Rattle.server_dispatch.proofs.turn.Turn.drops_answer.Goals as goal

pub returns-in-Some-clause-speaks : goal.returns-in-Some-clause-speaks
returns-in-Some-clause-speaks g c = λ keys bindings draw speaker name others past opened order speaks.
    let setting = setting_of c.args.now g.D.Draw.step keys in
    let number = c.args.number in
    let call = c.args.call in
    let session = speaker.session in
    let job = c.in-Some.job in
    let own = c.key.ensures.stands _ _ speaks.says.stands in
    let named = c.number.ensures.stands _ _ speaks.says.stands in
    let found : first_job (is_call session.key session.number call) speaker.jobs ≡ Some job =
    looked-for c.key.result c.number.result session.key session.number call c.args.jobs.now.jobs speaker.jobs (Some job) own named speaks.jobs c.in-Some.ensures.job in
    let found_there : first_job (is_call name.key name.session call) speaker.jobs ≡ Some job =
    looked-for c.key.result c.number.result name.key name.session call c.args.jobs.now.jobs speaker.jobs (Some job) (own ∙ order.of_key) (named ∙ order.of_session) speaks.jobs c.in-Some.ensures.job in
    let rest = without_first (is_call job.key job.session job.number) speaker.jobs in
    let rest_is = ap (λ (held : Held). held.jobs) c.in-Some.ensures.others
    ∙ others-are c.key.result c.number.result session.key session.number call c.args.jobs.now.jobs speaker.jobs job own named speaks.jobs found in
    let taken = record speaker { jobs = rest } in
    let first = with-jobs _ _ _ _ c.cancel.new.self.jobs rest _ _ speaker speaks rest_is in
    let none = All-head (IsUnanswered session.replies) number opened order.midway.opened.unanswered in
    let next = answers setting number dropped_running taken in
    let said = c.answers_shortly.ensures.speaks keys c.cancel.new.self.jobs bindings draw taken none first in
    let kept = c.speech_keeps_order.ensures.answers setting number dropped_running name others past opened speaker order in
    let job_none = found-holds (IsUnanswered next.session.replies) name.key name.session call speaker.jobs job found_there kept.midway.order.unfinished.unanswered in
    spoken-as _ _ _ _ _ _ _ _ (ap (λ (one : Option Job). drops_by setting number one (kept_to call session.replies) speaker) found)
    (c.gives_up.ensures.speaks keys bindings draw next job_none said)

pub returns-in-None-clause-speaks : goal.returns-in-None-clause-speaks
returns-in-None-clause-speaks g c = λ keys bindings draw speaker name others past opened order speaks.
    let setting = setting_of c.args.now g.D.Draw.step keys in
    let session = speaker.session in
    let own = c.key.ensures.stands _ _ speaks.says.stands in
    let named = c.number.ensures.stands _ _ speaks.says.stands in
    let found : first_job (is_call session.key session.number c.args.call) speaker.jobs ≡ None =
    looked-for c.key.result c.number.result session.key session.number c.args.call c.args.jobs.now.jobs speaker.jobs None own named speaks.jobs c.in-None.ensures.job in
    let none = All-head (IsUnanswered session.replies) c.args.number opened order.midway.opened.unanswered in
    let same = ap (λ (held : Held). held.jobs) c.in-None.ensures.others
    ∙ (none-taken (is_call c.key.result c.number.result c.args.call) c.args.jobs.now.jobs (sym c.in-None.ensures.job) ∙ speaks.jobs) in
    let kept = with-jobs _ _ _ _ c.cancel.new.self.jobs speaker.jobs _ _ speaker speaks same in
    spoken-as _ _ _ _ _ _ _ _ (ap (λ (one : Option Job). drops_by setting c.args.number one (kept_to c.args.call session.replies) speaker) found)
    (c.drops_kept.ensures.speaks keys c.cancel.new.self.jobs bindings draw speaker order.midway.order.replied none kept)

pub returns-in-Some-clause-unsaid : goal.returns-in-Some-clause-unsaid
returns-in-Some-clause-unsaid g c =
    both-unsaid c.args.standing.now c.answers_shortly.new.standing c.gives_up.new.standing c.args.self.now.owing c.answers_shortly.new.self.owing c.gives_up.new.self.owing
    c.answers_shortly.ensures.unsaid c.gives_up.ensures.unsaid
