use Rattle.std.proofs.Common.{◌∙◌, ℕ, ap, subst, sym, arith}
use Rattle.std.proofs.lemmas.List.Elements.{All-head}
use Rattle.server_rules.specs.Calls.{accepts_call}
use Rattle.law_server.specs.Order.{IsUnanswered}
use Rattle.server_session.specs.Says.{setting_of}
use Rattle.server_dispatch.specs.declared.action.Answering.{Answering}
use Rattle.server_dispatch.specs.Owed.{IsCallOf, answers_so}
use Rattle.server_dispatch.specs.Contents.{short_bytes_max}
use Rattle.server_output.specs.Items.{result_bytes}
use Rattle.server_dispatch.specs.Action.{answering_bytes}
use Rattle.server_dispatch.proofs.Using.{used}
use Rattle.server_dispatch.proofs.Steps.{spoken-as}
use Rattle.server_dispatch.proofs.speaking.Speaking.gives.Goals as goal

pub returns-in-PackedBody-clause-speaks : goal.returns-in-PackedBody-clause-speaks
returns-in-PackedBody-clause-speaks g c = λ keys numbers draw speaker name others past opened are is order speaks.
    let setting = setting_of c.args.now g.D.Draw.step keys in
    let none = All-head (IsUnanswered speaker.session.replies) c.args.number opened order.midway.opened.unanswered in
    spoken-as _ _ _ _ _ _ _ _ (ap (λ (answering : Answering). answers_so setting c.args.number numbers answering speaker) c.in-PackedBody.is)
    (c.answers_in_place.ensures.speaks keys c.args.self.now.jobs.jobs c.args.self.now.bindings.bindings draw speaker none speaks)

pub returns-in-BrokenBody-clause-speaks : goal.returns-in-BrokenBody-clause-speaks
returns-in-BrokenBody-clause-speaks g c = λ keys numbers draw speaker name others past opened are is order speaks.
    let setting = setting_of c.args.now g.D.Draw.step keys in
    let none = All-head (IsUnanswered speaker.session.replies) c.args.number opened order.midway.opened.unanswered in
    spoken-as _ _ _ _ _ _ _ _ (ap (λ (answering : Answering). answers_so setting c.args.number numbers answering speaker) c.in-BrokenBody.is)
    (c.answers_broken.ensures.speaks keys c.args.self.now.jobs.jobs c.args.self.now.bindings.bindings draw speaker none speaks)

pub returns-in-Binds-clause-speaks : goal.returns-in-Binds-clause-speaks
returns-in-Binds-clause-speaks g c = λ keys numbers draw speaker name others past opened are is order speaks.
    let setting = setting_of c.args.now g.D.Draw.step keys in
    let none = All-head (IsUnanswered speaker.session.replies) c.args.number opened order.midway.opened.unanswered in
    spoken-as _ _ _ _ _ _ _ _ (ap (λ (answering : Answering). answers_so setting c.args.number numbers answering speaker) c.in-Binds.is)
    (c.binds.ensures.speaks keys c.args.self.now.jobs.jobs draw speaker are none speaks)

pub returns-in-Drops-clause-speaks : goal.returns-in-Drops-clause-speaks
returns-in-Drops-clause-speaks g c = λ keys numbers draw speaker name others past opened are is order speaks.
    let setting = setting_of c.args.now g.D.Draw.step keys in
    spoken-as _ _ _ _ _ _ _ _ (ap (λ (answering : Answering). answers_so setting c.args.number numbers answering speaker) c.in-Drops.is)
    (c.drops_answer.ensures.speaks keys c.args.self.now.bindings.bindings draw speaker name others past opened order speaks)

pub returns-in-ForService-clause-speaks : goal.returns-in-ForService-clause-speaks
returns-in-ForService-clause-speaks g c = λ keys numbers draw speaker name others past opened are is order speaks.
    let setting = setting_of c.args.now g.D.Draw.step keys in
    let due = c.in-ForService.due in
    let call = subst (λ (answering : Answering). IsCallOf c.args.number numbers answering) c.in-ForService.is is in
    let none = All-head (IsUnanswered speaker.session.replies) c.args.number opened order.midway.opened.unanswered in
    let own : IsUnanswered speaker.session.replies due.number = subst (λ (number : ℕ). IsUnanswered speaker.session.replies number) (sym call.0) none in
    spoken-as _ _ _ _ _ _ _ _
    (ap (λ (answering : Answering). answers_so setting c.args.number numbers answering speaker) c.in-ForService.is
    ∙ ap (λ (number : ℕ). accepts_call setting number numbers due.query speaker) (sym call.0))
    (c.accepts_call.ensures.speaks keys numbers draw speaker are call.1 own speaks)

pub returns-in-PackedBody-clause-uses : goal.returns-in-PackedBody-clause-uses
returns-in-PackedBody-clause-uses g c = λ called.
    used called c.args.now 2 answering_bytes 1 2 1 (result_bytes short_bytes_max) 1 1 _ _ _ _ c.answers_in_place.ensures.spends c.answers_in_place.ensures.unsaid
    (omega (arith, c.answers_in_place.ensures.replies_last)) (omega arith) (omega arith) (omega arith) (omega arith)

pub returns-in-BrokenBody-clause-uses : goal.returns-in-BrokenBody-clause-uses
returns-in-BrokenBody-clause-uses g c = λ called.
    used called c.args.now 2 answering_bytes 1 2 1 (result_bytes short_bytes_max) 1 1 _ _ _ _ c.answers_broken.ensures.spends c.answers_broken.ensures.unsaid
    (omega (arith, c.answers_broken.ensures.replies_last)) (omega arith) (omega arith) (omega arith) (omega arith)

pub returns-in-Binds-clause-uses : goal.returns-in-Binds-clause-uses
returns-in-Binds-clause-uses g c = λ called.
    used called c.args.now 2 answering_bytes 1 2 1 (result_bytes short_bytes_max) 0 1 _ _ _ _ c.binds.ensures.spends c.binds.ensures.unsaid
    (omega (arith, c.binds.ensures.replies_last)) (omega arith) (omega arith) (omega arith) (omega arith)

pub returns-in-Drops-clause-uses : goal.returns-in-Drops-clause-uses
returns-in-Drops-clause-uses g c = λ called.
    used called c.args.now 2 answering_bytes 1 2 2 answering_bytes 1 2 _ _ _ _ c.drops_answer.ensures.spends c.drops_answer.ensures.unsaid
    (c.drops_answer.ensures.replies_last) (omega arith) (omega arith) (omega arith) (omega arith)

pub returns-in-ForService-clause-uses : goal.returns-in-ForService-clause-uses
returns-in-ForService-clause-uses g c = λ called.
    used called c.args.now 2 answering_bytes 1 2 1 (result_bytes short_bytes_max) 1 1 _ _ _ _ c.accepts_call.ensures.spends c.accepts_call.ensures.unsaid
    (c.accepts_call.ensures.replies_last) (omega arith) (omega arith) (omega arith) (omega arith)
