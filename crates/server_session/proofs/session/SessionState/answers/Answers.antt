use Rattle.std.proofs.Common.{◌≡◌, ◌∙◌, ℕ, List, drop, ap, subst}
use Rattle.outbox.specs.Bodies.{head_bytes}
use Rattle.server_rules.specs.Speaking.{answers}
use Rattle.server_session.specs.Says.{Says, setting_of}
use Rattle.server_session.proofs.session.SessionState.answers.Goals as goal

pub returns-clause-says : goal.returns-clause-says
returns-clause-says g c = λ keys draw speaker none says_before.
    let content : drop head_bytes c.shared.result ≡ c.args.content =
    ap (λ (body : List ℕ). drop head_bytes body) (c.shared.ensures ∙ c.result_head.ensures c.args.content) ∙ c.replies_are_results.ensures c.args.call c.args.content in
    subst (λ (content : List ℕ). Says c.args.now c.answers_by.new.self c.answers_by.new.owing draw (answers (setting_of c.args.now g.D.Draw.step keys) c.args.call content speaker)) content
    (c.answers_by.ensures.says keys draw speaker none says_before)
