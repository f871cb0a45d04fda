use Rattle.std.proofs.Common.{true, refl}
use Rattle.server_rules.specs.Speaking.{answers, records}
use Rattle.server_session.specs.Says.{setting_of}
use Rattle.server_dispatch.proofs.Steps.{spoken, recorded, told-of}
use Rattle.server_dispatch.proofs.turn.Turn.finishes.Goals as goal

pub returns-clause-speaks : goal.returns-clause-speaks
returns-clause-speaks g c = λ keys bindings draw speaker none speaks.
    let job = c.args.run.job in
    let reply = c.args.run.reply in
    let first = answers (setting_of c.args.now g.D.Draw.step keys) job.number reply speaker in
    let next = records true job.number job.request reply first in
    let said = spoken _ _ _ _ _ _ _ _ _ _ first speaks (c.answers.ensures.says keys draw speaker none) (record { jobs = refl; bindings = refl; entries = refl }) in
    let entered = recorded _ _ _ _ _ _ _ first true job.number job.request reply _ _ _ said (c.key.ensures.stands _ _ said.says.stands) (c.number.ensures.stands _ _ said.says.stands) c.requires.same c.push.ensures.pushed in
    told-of _ _ _ _ _ _ _ next job.number entered (c.tells_of.ensures.told c.args.now next entered.says.stands entered.jobs)
