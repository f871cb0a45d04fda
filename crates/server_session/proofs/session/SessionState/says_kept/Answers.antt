use Rattle.std.proofs.Common.{◌≡◌, ◌∙◌, ◌≤◌, ℕ, eqb, Bool, Option, Some, drop, length, ap, subst, sym, refl, arith}
use Rattle.std.specs.Prelude.{option_map}
use Rattle.std.specs.Option.{option_copied}
use Rattle.std.proofs.lemmas.Option.{none-some, same_Some}
use Rattle.service_tl.specs.declared.item.Item.TheVariants.{RpcResult}
use Rattle.service_tl.specs.Items.{spelling_of}
use Rattle.service_tl.specs.declared.lists.Message.{Message}
use Rattle.outbox.specs.declared.kept.Kept.{Kept}
use Rattle.outbox.specs.Bodies.{head_bytes}
use Rattle.outbox.specs.Replies.{by_call}
use Rattle.server_output.specs.Dues.{Dues}
use Rattle.server_rules.specs.Server.{Reply, kept_of}
use Rattle.server_rules.specs.Rows.{says_reply}
use Rattle.server_session.specs.Fates.{kept_to}
use Rattle.server_session.specs.Says.{Says}
use Rattle.server_session.specs.Unsaid.{called_weight, is_to, unsaid_bytes, unsaid_count}
use Rattle.server_session.proofs.MarkLemmas.{first-kept, replied-kept}
use Rattle.server_session.proofs.UnsaidLemmas.{passes-found, unsaid-one, unsaid-spent, weighs-called}
use Rattle.server_session.proofs.session.SessionState.says_kept.Goals as goal

-- what is owed for it
abbrev again : Kept → Message
again kept = record { number = kept.number; seq = kept.seq; body = spelling_of (RpcResult kept.call (drop head_bytes kept.body)) }

pub says_again-requires-clause-place : goal.says_again-requires-clause-place
says_again-requires-clause-place g c = λ unsaid.
    let replies = c.args.self.now.outbox.replies in
    let kept = c.in-Some.kept.now in
    let found : by_call c.args.call replies ≡ Some kept = sym c.kept_to.ensures.found ∙ ap option_copied c.in-Some.is in
    let weighs = weighs-called (is_to c.args.call) (λ kept. 1) kept (passes-found (is_to c.args.call) replies kept found) in
    let one : called_weight (is_to c.args.call) (λ kept. 1) kept ≤ unsaid_count (is_to c.args.call) c.args.self.now c.args.owing.now = unsaid-one (called_weight (is_to c.args.call) (λ kept. 1)) c.args.owing.now.messages replies kept (is_to c.args.call) found unsaid in
    omega (arith, c.requires.places)

pub says_again-requires-clause-bytes : goal.says_again-requires-clause-bytes
says_again-requires-clause-bytes g c = λ unsaid.
    let replies = c.args.self.now.outbox.replies in
    let kept = c.in-Some.kept.now in
    let found : by_call c.args.call replies ≡ Some kept = sym c.kept_to.ensures.found ∙ ap option_copied c.in-Some.is in
    let weighs = weighs-called (is_to c.args.call) (λ kept. length kept.body) kept (passes-found (is_to c.args.call) replies kept found) in
    let bytes : called_weight (is_to c.args.call) (λ kept. length kept.body) kept ≤ unsaid_bytes (is_to c.args.call) c.args.self.now c.args.owing.now =
    unsaid-one (called_weight (is_to c.args.call) (λ kept. length kept.body)) c.args.owing.now.messages replies kept (is_to c.args.call) found unsaid in
    omega (arith, c.requires.bytes)

pub returns-in-Some-clause-places : goal.returns-in-Some-clause-places
returns-in-Some-clause-places g c = λ called calls.
    let replies = c.args.self.now.outbox.replies in
    let kept = c.in-Some.kept.now in
    let step = c.says_again.ensures in
    let weighs = weighs-called called (λ kept. 1) kept (calls kept (passes-found (is_to c.args.call) replies kept (sym c.kept_to.ensures.found ∙ ap option_copied c.in-Some.is))) in
    unsaid-spent (called_weight called (λ kept. 1)) c.args.owing.now.messages c.says_again.new.owing.messages (again kept) replies kept c.args.owing.now.places c.says_again.new.owing.places (is_to c.args.call) refl
    (sym c.kept_to.ensures.found ∙ ap option_copied c.in-Some.is) step.said
    (λ was. (ap (λ (owing : Dues). owing.messages) (step.unchanged_where_said was), ap (λ (owing : Dues). owing.places) (step.unchanged_where_said was))) (omega (arith, step.places))

pub returns-in-Some-clause-left : goal.returns-in-Some-clause-left
returns-in-Some-clause-left g c = λ called calls.
    let replies = c.args.self.now.outbox.replies in
    let kept = c.in-Some.kept.now in
    let step = c.says_again.ensures in
    let weighs = weighs-called called (λ kept. length kept.body) kept (calls kept (passes-found (is_to c.args.call) replies kept (sym c.kept_to.ensures.found ∙ ap option_copied c.in-Some.is))) in
    unsaid-spent (called_weight called (λ kept. length kept.body)) c.args.owing.now.messages c.says_again.new.owing.messages (again kept) replies kept c.args.owing.now.room c.says_again.new.owing.room (is_to c.args.call) refl
    (sym c.kept_to.ensures.found ∙ ap option_copied c.in-Some.is) step.said
    (λ was. (ap (λ (owing : Dues). owing.messages) (step.unchanged_where_said was), ap (λ (owing : Dues). owing.room) (step.unchanged_where_said was))) (omega (arith, step.left))

pub returns-in-Some-clause-says : goal.returns-in-Some-clause-says
returns-in-Some-clause-says g c = λ now draw good speaker marked says.
    let replies = speaker.session.replies in
    let has = replied-kept speaker.session c.args.call good marked in
    let found : option_map kept_of (kept_to c.args.call replies) ≡ Some (kept_of has.0) =
    ap (λ (reply : Option Reply). option_map kept_of reply) (first-kept c.args.call replies has.0 has.1 has.2) in
    let same : kept_of has.0 ≡ c.in-Some.kept.now =
    same_Some (kept_of has.0) c.in-Some.kept.now (sym found ∙ (sym (c.kept_to.ensures.kept now speaker.session says.stands) ∙ ap option_copied c.in-Some.is)) in
    subst (λ (reply : Option Reply). Says now c.args.self.now c.says_again.new.owing draw (says_reply reply speaker)) (sym has.1)
    (c.says_again.ensures.says now draw speaker has.0 same says)

pub returns-in_default-clause-says : goal.returns-in_default-clause-says
returns-in_default-clause-says g c = λ now draw good speaker marked says.
    let replies = speaker.session.replies in
    let has = replied-kept speaker.session c.args.call good marked in
    let found : option_map kept_of (kept_to c.args.call replies) ≡ Some (kept_of has.0) =
    ap (λ (reply : Option Reply). option_map kept_of reply) (first-kept c.args.call replies has.0 has.1 has.2) in
    absurd (none-some (kept_of has.0) (sym (ap option_copied c.in_default.is) ∙ (c.kept_to.ensures.kept now speaker.session says.stands ∙ found)))
