use Rattle.server_rules.specs.Speaking.{answers_in_place}
use Rattle.server_dispatch.specs.Contents.{content_of}
use Rattle.server_session.specs.Says.{setting_of}
use Rattle.server_dispatch.proofs.Steps.{told-of}
use Rattle.server_dispatch.proofs.turn.Turn.gives_up.Goals as goal

pub returns-clause-speaks : goal.returns-clause-speaks
returns-clause-speaks g c = λ keys bindings draw speaker none speaks.
    let job = c.args.job in
    let next = answers_in_place (setting_of c.args.now g.D.Draw.step keys) job.number job.request (content_of c.args.short) speaker in
    let said = c.answers_in_place.ensures.speaks keys c.args.jobs.now.jobs bindings draw speaker none speaks in
    told-of _ _ _ _ _ _ _ next job.number said (c.tells_of.ensures.told c.args.now next said.says.stands said.jobs)
