use Rattle.std.proofs.Common.{◌∙◌, ℕ, List, drop, ap, arith, refl, subst, sym}
use Rattle.tl_codec.specs.Spelling as tl
use Rattle.service_tl.specs.declared.item.Item.TheVariants.{RpcAnswerDropped, RpcResult}
use Rattle.service_tl.specs.Items.{spelling_of}
use Rattle.outbox.specs.Bodies.{head_bytes}
use Rattle.server_output.specs.Items.{IsContent}
use Rattle.server_rules.specs.Speaking.{answers}
use Rattle.server_session.specs.Says.{Says, setting_of}
use Rattle.server_session.proofs.session.SessionState.answers_dropped.Goals as goal

pub answers_by-requires-clause-result : goal.answers_by-requires-clause-result
answers_by-requires-clause-result g c =
    let is = c.short.ensures ∙ c.result_head.ensures c.content.result in
    is ∙ ap (λ (content : List ℕ). spelling_of (RpcResult c.args.request content))
    (sym (ap (λ (body : List ℕ). drop head_bytes body) is ∙ c.replies_are_results.ensures c.args.request c.content.result))

is-content : (number seq length : ℕ) → IsContent (spelling_of (RpcAnswerDropped number seq length))
unfolding tl.spelling
is-content number seq length = record { words = refl; short = omega arith }

pub answers_by-requires-clause-content : goal.answers_by-requires-clause-content
answers_by-requires-clause-content g c =
    let is = c.short.ensures ∙ c.result_head.ensures c.content.result in
    subst IsContent (sym (ap (λ (body : List ℕ). drop head_bytes body) is ∙ c.replies_are_results.ensures c.args.request c.content.result ∙ c.content.ensures))
    (is-content c.args.dropped.now.number c.args.dropped.now.seq c.args.dropped.now.length)

pub returns-clause-says : goal.returns-clause-says
returns-clause-says g c = λ keys draw speaker none says_before.
    let is = c.short.ensures ∙ c.result_head.ensures c.content.result in
    let content = ap (λ (body : List ℕ). drop head_bytes body) is ∙ c.replies_are_results.ensures c.args.request c.content.result ∙ c.content.ensures in
    subst (λ (content : List ℕ). Says c.args.now c.answers_by.new.self c.answers_by.new.owing draw (answers (setting_of c.args.now g.D.Draw.step keys) c.args.request content speaker)) content
    (c.answers_by.ensures.says keys draw speaker none says_before)
