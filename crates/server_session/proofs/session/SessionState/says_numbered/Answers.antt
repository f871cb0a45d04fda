use Rattle.std.proofs.Common.{◌≡◌, ◌∙◌, ◌≤◌, ℕ, eqb, Bool, Option, Some, None, drop, length, ap, subst, sym, refl, arith}
use Rattle.std.specs.Prelude.{option_map}
use Rattle.service_tl.specs.declared.item.Item.TheVariants.{RpcResult}
use Rattle.service_tl.specs.Items.{spelling_of}
use Rattle.service_tl.specs.declared.lists.Message.{Message}
use Rattle.outbox.specs.declared.kept.Kept.{Kept}
use Rattle.outbox.specs.Bodies.{head_bytes}
use Rattle.outbox.specs.Replies.{by_number, call_of}
use Rattle.server_output.specs.Dues.{Dues}
use Rattle.server_rules.specs.Server.{Reply, kept_of}
use Rattle.server_rules.specs.Rows.{kept_numbered, says_reply}
use Rattle.server_session.specs.Says.{Says}
use Rattle.server_session.specs.Unsaid.{called_weight, is_numbered, unsaid_bytes, unsaid_count}
use Rattle.server_session.proofs.FateLemmas.{found-kept, told-kept, told-none}
use Rattle.server_session.proofs.ResultLemmas.{is-result}
use Rattle.server_session.proofs.UnsaidLemmas.{passes-found, unsaid-one, unsaid-spent, weighs-called}
use Rattle.server_session.proofs.session.SessionState.says_numbered.Goals as goal

-- what is owed for it
abbrev again : Kept → Message
again kept = record { number = kept.number; seq = kept.seq; body = spelling_of (RpcResult kept.call (drop head_bytes kept.body)) }

pub says_again-requires-clause-content : goal.says_again-requires-clause-content
says_again-requires-clause-content g c =
    (is-result (λ (one : Kept). eqb one.number c.args.number) c.args.self.now.outbox.replies c.in-Some.kept.now (sym c.in-Some.ensures) c.args.self.now.contents).content

pub says_again-requires-clause-place : goal.says_again-requires-clause-place
says_again-requires-clause-place g c = λ unsaid.
    let replies = c.args.self.now.outbox.replies in
    let kept = c.in-Some.kept.now in
    let weighs = weighs-called (is_numbered c.args.number) (λ kept. 1) kept (passes-found (is_numbered c.args.number) replies kept (sym c.in-Some.ensures)) in
    let one : called_weight (is_numbered c.args.number) (λ kept. 1) kept ≤ unsaid_count (is_numbered c.args.number) c.args.self.now c.args.owing.now = unsaid-one (called_weight (is_numbered c.args.number) (λ kept. 1)) c.args.owing.now.messages replies kept (is_numbered c.args.number) (sym c.in-Some.ensures) unsaid in
    omega (arith, c.requires.places)

pub says_again-requires-clause-bytes : goal.says_again-requires-clause-bytes
says_again-requires-clause-bytes g c = λ unsaid.
    let replies = c.args.self.now.outbox.replies in
    let kept = c.in-Some.kept.now in
    let weighs = weighs-called (is_numbered c.args.number) (λ kept. length kept.body) kept (passes-found (is_numbered c.args.number) replies kept (sym c.in-Some.ensures)) in
    let bytes : called_weight (is_numbered c.args.number) (λ kept. length kept.body) kept ≤ unsaid_bytes (is_numbered c.args.number) c.args.self.now c.args.owing.now =
    unsaid-one (called_weight (is_numbered c.args.number) (λ kept. length kept.body)) c.args.owing.now.messages replies kept (is_numbered c.args.number) (sym c.in-Some.ensures) unsaid in
    omega (arith, c.requires.bytes)

pub returns-in-Some-clause-says : goal.returns-in-Some-clause-says
returns-in-Some-clause-says g c = λ now draw speaker says.
    let replies = speaker.session.replies in
    let kept = c.in-Some.kept.now in
    let told : option_map kept_of (kept_numbered replies c.args.number) ≡ Some kept =
    sym (c.in-Some.ensures ∙ (ap (by_number c.args.number) says.stands.outbox ∙ found-kept (λ (one : Kept). eqb one.number c.args.number) replies)) in
    let it = told-kept kept (kept_numbered replies c.args.number) told in
    subst (λ (reply : Option Reply). Says now c.args.self.now c.says_again.new.owing draw (says_reply reply speaker)) (sym it.1)
    (c.says_again.ensures.says now draw speaker it.0 it.2 says)

pub returns-in-Some-clause-places : goal.returns-in-Some-clause-places
returns-in-Some-clause-places g c = λ called calls.
    let replies = c.args.self.now.outbox.replies in
    let kept = c.in-Some.kept.now in
    let step = c.says_again.ensures in
    let weighs = weighs-called called (λ kept. 1) kept (calls kept (passes-found (is_numbered c.args.number) replies kept (sym c.in-Some.ensures))) in
    unsaid-spent (called_weight called (λ kept. 1)) c.args.owing.now.messages c.says_again.new.owing.messages (again kept) replies kept c.args.owing.now.places c.says_again.new.owing.places (is_numbered c.args.number) refl
    (sym c.in-Some.ensures) step.said
    (λ was. (ap (λ (owing : Dues). owing.messages) (step.unchanged_where_said was), ap (λ (owing : Dues). owing.places) (step.unchanged_where_said was))) (omega (arith, step.places))

pub returns-in-Some-clause-left : goal.returns-in-Some-clause-left
returns-in-Some-clause-left g c = λ called calls.
    let replies = c.args.self.now.outbox.replies in
    let kept = c.in-Some.kept.now in
    let step = c.says_again.ensures in
    let weighs = weighs-called called (λ kept. length kept.body) kept (calls kept (passes-found (is_numbered c.args.number) replies kept (sym c.in-Some.ensures))) in
    unsaid-spent (called_weight called (λ kept. length kept.body)) c.args.owing.now.messages c.says_again.new.owing.messages (again kept) replies kept c.args.owing.now.room c.says_again.new.owing.room (is_numbered c.args.number) refl
    (sym c.in-Some.ensures) step.said
    (λ was. (ap (λ (owing : Dues). owing.messages) (step.unchanged_where_said was), ap (λ (owing : Dues). owing.room) (step.unchanged_where_said was))) (omega (arith, step.left))

pub returns-in_default-clause-says : goal.returns-in_default-clause-says
returns-in_default-clause-says g c = λ now draw speaker says.
    let replies = speaker.session.replies in
    let told : None ≡ option_map kept_of (kept_numbered replies c.args.number) =
    c.in_default.ensures ∙ (ap (by_number c.args.number) says.stands.outbox ∙ found-kept (λ (one : Kept). eqb one.number c.args.number) replies) in
    let none : kept_numbered replies c.args.number ≡ None = told-none (kept_numbered replies c.args.number) (sym (ap call_of told)) in
    subst (λ (reply : Option Reply). Says now c.args.self.now c.args.owing.now draw (says_reply reply speaker)) (sym none) says
