use Rattle.std.proofs.Common.{◌∙◌, eqb, Option, Some, None, drop, ap, subst, sym, Bor}
use Rattle.std.specs.Option.{IfSome, option_copied}
use Rattle.outbox.specs.declared.kept.Kept.{Kept}
use Rattle.outbox.specs.Bodies.{head_bytes}
use Rattle.outbox.specs.Replies.{by_call}
use Rattle.server_output.specs.Items.{IsContent}
use Rattle.server_session.specs.Kept.{IsResult}
use Rattle.server_session.proofs.FateLemmas.{found-kept}
use Rattle.server_session.proofs.ResultLemmas.{found-result}
use Rattle.server_session.proofs.session.SessionState.kept_to.Goals as goal

lent-content : (lent : Option (Bor Kept)) → IfSome (option_copied lent) IsResult → IfSome lent (λ kept. IsContent (drop head_bytes kept.now.body))
lent-content None is = tt
lent-content (Some kept) is = is.content

pub returns-clause-kept : goal.returns-clause-kept
returns-clause-kept c = λ now session stands.
    c.by_call.ensures ∙ (ap (by_call c.args.call) stands.outbox ∙ found-kept (λ (one : Kept). eqb one.call c.args.call) session.replies)

pub returns-clause-content : goal.returns-clause-content
returns-clause-content c =
    lent-content c.by_call.result
    (subst (λ (found : Option Kept). IfSome found IsResult) (sym c.by_call.ensures)
    (found-result (λ (one : Kept). eqb one.call c.args.call) c.args.self.now.outbox.replies c.args.self.now.contents))
