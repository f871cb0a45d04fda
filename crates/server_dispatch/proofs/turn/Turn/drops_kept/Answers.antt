use Rattle.std.proofs.Common.{Option, Some, None, ap, subst}
use Rattle.service_tl.specs.declared.item.Item.TheVariants.{RpcAnswerDropped}
use Rattle.service_tl.specs.Items.{spelling_of}
use Rattle.server_rules.specs.Calls.{drops_by}
use Rattle.server_rules.specs.Server.{Reply}
use Rattle.server_rules.specs.Speaking.{answers}
use Rattle.server_session.specs.declared.dropping.DroppedReply.{DroppedReply}
use Rattle.server_session.specs.Fates.{kept_to, with_dropped}
use Rattle.server_session.specs.Says.{Says, setting_of}
use Rattle.server_session.specs.SessionState.{Stands}
use Rattle.server_dispatch.specs.Speaks.{Speaks}
use Rattle.server_dispatch.proofs.Steps.{spoken-as}
use Rattle.server_dispatch.proofs.DropLemmas.{kept-none, kept-some, still-unanswered}
use Rattle.server_dispatch.proofs.Using.{both-unsaid}
use Rattle.server_dispatch.proofs.turn.Turn.drops_kept.Goals as goal

pub returns-in-Some-clause-speaks : goal.returns-in-Some-clause-speaks
returns-in-Some-clause-speaks g c = λ keys jobs bindings draw speaker are none speaks.
    let setting = setting_of c.args.now g.D.Draw.step keys in
    let number = c.args.number in
    let replies = speaker.session.replies in
    let dropped = c.in-Some.dropped in
    let found = kept-some (kept_to c.args.call replies) dropped (c.in-Some.ensures.told c.args.now speaker.session speaks.says.stands) in
    let reply : Reply = found.0 in
    let left = with_dropped (Some reply) replies in
    let stands : Stands c.args.now c.drops_reply.new.self (record speaker.session { replies = left }) =
    subst (λ (kept : Option Reply). Stands c.args.now c.drops_reply.new.self (record speaker.session { replies = with_dropped kept replies })) found.1
    (c.in-Some.ensures.stands c.args.now speaker.session speaks.says.stands are) in
    let next = record speaker { session = record speaker.session { replies = left } } in
    let said = c.answers_dropped.ensures.says keys draw next (still-unanswered reply replies number none)
    (record { stands = stands; owed = speaks.says.owed; draws = speaks.says.draws }) in
    let told = subst (λ (one : DroppedReply). Says c.args.now c.answers_dropped.new.self c.answers_dropped.new.owing draw (answers setting number (spelling_of (RpcAnswerDropped one.number one.seq one.length)) next)) found.2 said in
    spoken-as _ _ _ _ _ _ _ _ (ap (λ (kept : Option Reply). drops_by setting number None kept speaker) found.1)
    (record { says = told; jobs = speaks.jobs; bindings = speaks.bindings; entries = speaks.entries })

pub returns-in-None-clause-speaks : goal.returns-in-None-clause-speaks
returns-in-None-clause-speaks g c = λ keys jobs bindings draw speaker are none speaks.
    let setting = setting_of c.args.now g.D.Draw.step keys in
    let replies = speaker.session.replies in
    let gone = kept-none (kept_to c.args.call replies) (c.in-None.ensures.told c.args.now speaker.session speaks.says.stands) in
    let stands : Stands c.args.now c.drops_reply.new.self speaker.session =
    subst (λ (kept : Option Reply). Stands c.args.now c.drops_reply.new.self (record speaker.session { replies = with_dropped kept replies })) gone
    (c.in-None.ensures.stands c.args.now speaker.session speaks.says.stands are) in
    let kept : Speaks c.args.now c.drops_reply.new.self c.args.self.now jobs bindings draw speaker = record { says = record { stands = stands; owed = speaks.says.owed; draws = speaks.says.draws }; jobs = speaks.jobs; bindings = speaks.bindings; entries = speaks.entries } in
    spoken-as _ _ _ _ _ _ _ _ (ap (λ (reply : Option Reply). drops_by setting c.args.number None reply speaker) gone)
    (c.answers_shortly.ensures.speaks keys jobs bindings draw speaker none kept)

pub returns-in-Some-clause-unsaid : goal.returns-in-Some-clause-unsaid
returns-in-Some-clause-unsaid g c =
    both-unsaid c.args.standing.now c.drops_reply.new.self _ c.args.self.now.owing c.args.self.now.owing _ (c.in-Some.ensures.unsaid c.args.self.now.owing) c.answers_dropped.ensures.unsaid

pub returns-in-None-clause-unsaid : goal.returns-in-None-clause-unsaid
returns-in-None-clause-unsaid g c =
    both-unsaid c.args.standing.now c.drops_reply.new.self _ c.args.self.now.owing c.args.self.now.owing _ (c.in-None.ensures.unsaid c.args.self.now.owing) c.answers_shortly.ensures.unsaid
