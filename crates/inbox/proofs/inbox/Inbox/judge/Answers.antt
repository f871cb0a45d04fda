use Rattle.std.proofs.Common.{◌≡◌, ◌∙◌, true, false, None, ap, subst, rules, arith}
use Rattle.std.proofs.lemmas.Bool.Decides.{nat_tests}
use Rattle.inbox.specs.Verdicts.{is_bare_accepted}
use Rattle.id_window.specs.History.{found}
use Rattle.inbox.specs.declared.outer.Outer.{Outer}
use Rattle.inbox.specs.Refusals.{InEnvelope, by_envelope}
use Rattle.inbox.specs.Inbox.{message_in, without_room}
use Rattle.inbox.specs.Drafts.{draft_session}
use Rattle.inbox.proofs.JudgeLemmas.{Settled, accepted_then, alone_judged, alone_stands, all_judged, all_stands, first_accepted, accepted_new}
use Rattle.inbox.proofs.inbox.Inbox.judge.Goals as goal

-- ---- a message that isn't accepted

pub returns-then-not-accepted-clause-judged : goal.returns-then-not-accepted-clause-judged
returns-then-not-accepted-clause-judged c session salts stands line_stands =
    let old = rw (← c.self.view_is) at stands in
    let w0 = c.room_counts_nothing.ensures (without_room c.self.inside.window) session.history session.marks c.self.inside.window.room old.window in
    let w1 = c.in_ok-reserve.ensures.stands session.history session.marks w0 in
    let way = InEnvelope c.args.now salts c.args.outer.now.salt in
    let settled : Settled way session (message_in c.args.outer.now) c.by_envelope-envelope.result c.in_ok-message.message c.settle-judgement.result = record {
      envelope_is =
          subst (λ (outer : Outer). c.by_envelope-envelope.result ≡ by_envelope (InEnvelope c.args.now salts outer.salt) outer.number) c.outer.view_is
          (c.by_envelope-envelope.ensures salts line_stands);
      draft_is = c.in_ok-message.ensures.message;
      judgement_is = c.settle-judgement.ensures.judged session w1;
    } in
    let unaccepted : is_bare_accepted c.settle-judgement.result.verdict ≡ false = first_of (cc, search rules, grind (arith, nat_tests)) in
    alone_judged way session (message_in c.args.outer.now) _ _ _ settled _ _ unaccepted c.in_ok-judgements.ensures.items c.push_reserved.ensures.items

pub returns-then-not-accepted-clause-accepts : goal.returns-then-not-accepted-clause-accepts
returns-then-not-accepted-clause-accepts c session salts stands line_stands is =
    first_accepted c.args.now salts c.args.outer.now.salt session (message_in c.args.outer.now) _ is
    (returns-then-not-accepted-clause-judged c session salts stands line_stands)

pub returns-then-not-accepted-clause-recorded : goal.returns-then-not-accepted-clause-recorded
returns-then-not-accepted-clause-recorded c session salts stands line_stands =
    let old = rw (← c.self.view_is) at stands in
    let w0 = c.room_counts_nothing.ensures (without_room c.self.inside.window) session.history session.marks c.self.inside.window.room old.window in
    let w1 = c.in_ok-reserve.ensures.stands session.history session.marks w0 in
    let way = InEnvelope c.args.now salts c.args.outer.now.salt in
    let settled : Settled way session (message_in c.args.outer.now) c.by_envelope-envelope.result c.in_ok-message.message c.settle-judgement.result = record {
      envelope_is =
          subst (λ (outer : Outer). c.by_envelope-envelope.result ≡ by_envelope (InEnvelope c.args.now salts outer.salt) outer.number) c.outer.view_is
          (c.by_envelope-envelope.ensures salts line_stands);
      draft_is = c.in_ok-message.ensures.message;
      judgement_is = c.settle-judgement.ensures.judged session w1;
    } in
    let unaccepted : is_bare_accepted c.settle-judgement.result.verdict ≡ false = first_of (cc, search rules, grind (arith, nat_tests)) in
    alone_stands way session (message_in c.args.outer.now) _ _ _ settled c.settle-judgement.new.window c.self.inside.heard c.room_counts_nothing.ensures unaccepted old.heard (c.settle-judgement.ensures.stands session w1)

-- ---- an accepted one

pub returns-clause-judged : goal.returns-clause-judged
returns-clause-judged c session salts stands line_stands =
    let old = rw (← c.self.view_is) at stands in
    let w0 = c.room_counts_nothing.ensures (without_room c.self.inside.window) session.history session.marks c.self.inside.window.room old.window in
    let w1 = c.in_ok-reserve.ensures.stands session.history session.marks w0 in
    let way = InEnvelope c.args.now salts c.args.outer.now.salt in
    let settled : Settled way session (message_in c.args.outer.now) c.by_envelope-envelope.result c.in_ok-message.message c.settle-judgement.result = record {
      envelope_is =
          subst (λ (outer : Outer). c.by_envelope-envelope.result ≡ by_envelope (InEnvelope c.args.now salts outer.salt) outer.number) c.outer.view_is
          (c.by_envelope-envelope.ensures salts line_stands);
      draft_is = c.in_ok-message.ensures.message;
      judgement_is = c.settle-judgement.ensures.judged session w1;
    } in
    let accepted : is_bare_accepted c.settle-judgement.result.verdict ≡ true = first_of (cc, search rules, grind (arith, nat_tests)) in
    let unseen = accepted_new _ _ _ _ (accepted_then way session (message_in c.args.outer.now) _ _ _ settled accepted) in
    let unfound : c.find.result ≡ None =
    c.find.ensures.stands session.history session.marks w0 ∙ (ap (λ (outer : Outer). found outer.number session.history session.marks) c.outer.view_is ∙ unseen) in
    let is_new : c.is_none-is_new.result ≡ true = first_of (cc, search rules, grind (arith, nat_tests)) in
    all_judged way session (message_in c.args.outer.now) _ _ _ settled c.in_ok-message.inner.items _ _ _ accepted (c.in_ok-message.ensures.inner is_new) c.in_ok-judgements.ensures.items c.push_reserved.ensures.items
    (c.settle_inner.ensures.judged (draft_session c.by_envelope-envelope.result session c.in_ok-message.message) (c.settle-judgement.ensures.stands session w1))

pub returns-clause-accepts : goal.returns-clause-accepts
returns-clause-accepts c session salts stands line_stands is =
    first_accepted c.args.now salts c.args.outer.now.salt session (message_in c.args.outer.now) _ is (returns-clause-judged c session salts stands line_stands)

pub returns-clause-recorded : goal.returns-clause-recorded
returns-clause-recorded c session salts stands line_stands =
    let old = rw (← c.self.view_is) at stands in
    let w0 = c.room_counts_nothing.ensures (without_room c.self.inside.window) session.history session.marks c.self.inside.window.room old.window in
    let w1 = c.in_ok-reserve.ensures.stands session.history session.marks w0 in
    let way = InEnvelope c.args.now salts c.args.outer.now.salt in
    let settled : Settled way session (message_in c.args.outer.now) c.by_envelope-envelope.result c.in_ok-message.message c.settle-judgement.result = record {
      envelope_is =
          subst (λ (outer : Outer). c.by_envelope-envelope.result ≡ by_envelope (InEnvelope c.args.now salts outer.salt) outer.number) c.outer.view_is
          (c.by_envelope-envelope.ensures salts line_stands);
      draft_is = c.in_ok-message.ensures.message;
      judgement_is = c.settle-judgement.ensures.judged session w1;
    } in
    let accepted : is_bare_accepted c.settle-judgement.result.verdict ≡ true = first_of (cc, search rules, grind (arith, nat_tests)) in
    let unseen = accepted_new _ _ _ _ (accepted_then way session (message_in c.args.outer.now) _ _ _ settled accepted) in
    let unfound : c.find.result ≡ None =
    c.find.ensures.stands session.history session.marks w0 ∙ (ap (λ (outer : Outer). found outer.number session.history session.marks) c.outer.view_is ∙ unseen) in
    let is_new : c.is_none-is_new.result ≡ true = first_of (cc, search rules, grind (arith, nat_tests)) in
    all_stands way session (message_in c.args.outer.now) _ _ _ settled c.settle_inner.new.window c.in_ok-message.inner.items c.room_counts_nothing.ensures accepted (c.in_ok-message.ensures.inner is_new)
    (c.settle_inner.ensures.stands (draft_session c.by_envelope-envelope.result session c.in_ok-message.message) (c.settle-judgement.ensures.stands session w1))
