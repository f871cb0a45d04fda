use Rattle.std.proofs.Common.{[]}
use Rattle.std.proofs.lemmas.List.Elements.{All-head}
use Rattle.server_rules.specs.Event.{Setting}
use Rattle.server_rules.specs.Answer.{finishes}
use Rattle.law_server.specs.Order.{IsUnanswered}
use Rattle.server_session.specs.Says.{setting_of}
use Rattle.server_core.proofs.Own.{running-fails, running-few}
use Rattle.server_core.proofs.working.answers_run.Goals as goal

pub returns-clause-speaks : goal.returns-clause-speaks
returns-clause-speaks g c = λ keys bindings draw name others past speaker speaks is.
    let setting : Setting g.row.D.Denot = setting_of c.args.now g.D.Draw.step keys in
    let job = c.args.run.job in
    let reply = c.args.run.reply in
    let orders = c.rows_keep_order.ensures.finishes in
    let ends = c.sessions_speak_for_themselves.ensures.finishes in
    let unanswered = All-head (IsUnanswered speaker.session.replies) job.number [] is.order.midway.opened.unanswered in
    let said = c.finishes.ensures.speaks keys bindings draw speaker unanswered speaks in
    c.answers_failed.ensures.speaks keys bindings draw name others past (finishes setting job reply speaker) said
    (running-fails orders ends setting job reply name others past c.args.limit speaker is)
    (running-few ends setting job reply name others past c.args.limit speaker is)
