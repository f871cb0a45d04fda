use Rattle.std.proofs.Common.{◌∙◌, ap}
use Rattle.waits.specs.declared.job.Job.{Job}
use Rattle.waits.specs.Jobs.{Queue, accepted}
use Rattle.server_dispatch.specs.Contents.{content_of}
use Rattle.server_session.specs.Says.{setting_of}
use Rattle.server_dispatch.proofs.Steps.{spoken-as, with-jobs}
use Rattle.server_dispatch.proofs.Accepting.{as-job, in-place, job-is, left-is}
use Rattle.server_dispatch.proofs.turn.Turn.accepts_call.Goals as goal

pub returns-in-Some-clause-speaks : goal.returns-in-Some-clause-speaks
returns-in-Some-clause-speaks g c = λ keys numbers draw speaker are once none speaks.
    let setting = setting_of c.args.now g.D.Draw.step keys in
    let due = c.args.due in
    let stands = speaks.says.stands in
    let job : Job = record { key = c.key.result; session = c.number.result; number = due.number; since = c.args.now; after = c.from.result; request = due.query } in
    let is = job-is setting speaker due.number numbers due.query c.key.result c.number.result c.from.result (c.key.ensures.stands _ _ stands) (c.number.ensures.stands _ _ stands)
    (left-is speaker.session c.args.jobs.now.jobs speaker.jobs _ _ _ c.from.result c.from.ensures (c.keep_awaited.ensures _ _ stands) once speaks.jobs) in
    spoken-as _ _ _ _ _ _ _ _
    (in-place setting due.number numbers due.query (content_of c.in-Some.short) job speaker is (c.in-Some.ensures.answer keys speaker are stands speaks.jobs speaks.bindings))
    (c.answers_in_place.ensures.speaks keys c.args.jobs.now.jobs c.args.bindings.now.bindings draw speaker none speaks)

pub returns-in-None-clause-speaks : goal.returns-in-None-clause-speaks
returns-in-None-clause-speaks g c = λ keys numbers draw speaker are once none speaks.
    let setting = setting_of c.args.now g.D.Draw.step keys in
    let due = c.args.due in
    let stands = speaks.says.stands in
    let job : Job = record { key = c.key.result; session = c.number.result; number = due.number; since = c.args.now; after = c.from.result; request = due.query } in
    let is = job-is setting speaker due.number numbers due.query c.key.result c.number.result c.from.result (c.key.ensures.stands _ _ stands) (c.number.ensures.stands _ _ stands)
    (left-is speaker.session c.args.jobs.now.jobs speaker.jobs _ _ _ c.from.result c.from.ensures (c.keep_awaited.ensures _ _ stands) once speaks.jobs) in
    spoken-as _ _ _ _ _ _ _ _
    (as-job setting due.number numbers due.query job speaker is (c.in-None.ensures.answer keys speaker are stands speaks.jobs speaks.bindings))
    (with-jobs _ _ _ _ _ (accepted job speaker.jobs) _ _ speaker speaks (c.add.ensures.added ∙ ap (λ (queue : Queue). accepted job queue) speaks.jobs))
