use Rattle.std.proofs.Common.{◌≡◌, ◌∙◌, ◌≤◌, true, false, length, ap, subst, sym, arith}
use Rattle.std.specs.Prelude.{is_some}
use Rattle.std.specs.List.{list_all}
use Rattle.std.proofs.lemmas.Bool.{cond-true, cond-false}
use Rattle.outbox.specs.Replies.{Contents}
use Rattle.server_rules.specs.Event.{Speaker}
use Rattle.server_rules.specs.Rows.{kept_numbered, tells_states}
use Rattle.server_session.specs.Says.{Says, setting_of}
use Rattle.server_session.specs.Unsaid.{called_weight, unsaid_bytes, unsaid_count, unsaid_weight}
use Rattle.server_session.proofs.UnsaidLemmas.{all-kept, said_numbered, unsaid-fewer}
use Rattle.server_session.proofs.session.SessionState.sends_again.Goals as goal

pub returns-then-keeps_all-clause-says : goal.returns-then-keeps_all-clause-says
returns-then-keeps_all-clause-says g c = λ keys draw speaker says.
    let replies = speaker.session.replies in
    let ids = c.args.ids.now in
    let kept : list_all (λ number. is_some (kept_numbered replies number)) ids ≡ true =
    sym (all-kept c.args.self.now.outbox.replies replies ids says.stands.outbox) ∙ (sym c.keeps_all.ensures ∙ c.if-keeps_all.true) in
    subst (λ (after : Speaker g.row.D.Denot). Says c.args.now c.args.self.now c.says_all_numbered.new.owing draw after)
    (sym (cond-true (list_all (λ number. is_some (kept_numbered replies number)) ids) (said_numbered speaker ids)
    (tells_states (setting_of c.args.now g.D.Draw.step keys) c.args.request ids speaker) kept))
    (c.says_all_numbered.ensures.says c.args.now draw speaker says)

pub returns-else-keeps_all-clause-says : goal.returns-else-keeps_all-clause-says
returns-else-keeps_all-clause-says g c = λ keys draw speaker says.
    let replies = speaker.session.replies in
    let ids = c.args.ids.now in
    let lost : list_all (λ number. is_some (kept_numbered replies number)) ids ≡ false =
    sym (all-kept c.args.self.now.outbox.replies replies ids says.stands.outbox) ∙ (sym c.keeps_all.ensures ∙ c.if-keeps_all.false) in
    subst (λ (after : Speaker g.row.D.Denot). Says c.args.now c.tells_states.new.self c.tells_states.new.owing draw after)
    (sym (cond-false (list_all (λ number. is_some (kept_numbered replies number)) ids) (said_numbered speaker ids)
    (tells_states (setting_of c.args.now g.D.Draw.step keys) c.args.request ids speaker) lost))
    (c.tells_states.ensures.says keys draw speaker says)

pub returns-else-keeps_all-clause-places : goal.returns-else-keeps_all-clause-places
returns-else-keeps_all-clause-places g c = λ called calls.
    let told = c.tells_states.new.owing.messages in
    let same : unsaid_count called c.tells_states.new.self c.tells_states.new.owing ≡ unsaid_weight (called_weight called (λ kept. 1)) told c.args.self.now.outbox.replies =
    ap (λ (outbox : Contents). unsaid_weight (called_weight called (λ kept. 1)) told outbox.replies) c.tells_states.ensures.same_replies in
    let fewer : unsaid_weight (called_weight called (λ kept. 1)) told c.args.self.now.outbox.replies ≤ unsaid_count called c.args.self.now c.args.owing.now =
    unsaid-fewer (called_weight called (λ kept. 1)) c.args.owing.now.messages told c.args.self.now.outbox.replies c.tells_states.ensures.stays_said in
    omega (arith, c.tells_states.ensures.places)

pub returns-else-keeps_all-clause-left : goal.returns-else-keeps_all-clause-left
returns-else-keeps_all-clause-left g c = λ called calls.
    let told = c.tells_states.new.owing.messages in
    let same : unsaid_bytes called c.tells_states.new.self c.tells_states.new.owing ≡ unsaid_weight (called_weight called (λ kept. length kept.body)) told c.args.self.now.outbox.replies =
    ap (λ (outbox : Contents). unsaid_weight (called_weight called (λ kept. length kept.body)) told outbox.replies) c.tells_states.ensures.same_replies in
    let fewer : unsaid_weight (called_weight called (λ kept. length kept.body)) told c.args.self.now.outbox.replies ≤ unsaid_bytes called c.args.self.now c.args.owing.now =
    unsaid-fewer (called_weight called (λ kept. length kept.body)) c.args.owing.now.messages told c.args.self.now.outbox.replies c.tells_states.ensures.stays_said in
    omega (arith, c.tells_states.ensures.left)
