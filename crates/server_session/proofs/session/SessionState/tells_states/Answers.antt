use Rattle.std.proofs.Common.{List, refl, subst, sym}
use Rattle.service_tl.specs.declared.lists.Message.{Message}
use Rattle.server_session.specs.Unsaid.{StaySaid}
use Rattle.server_session.proofs.UnsaidLemmas.{more-said, none-more, said-more}
use Rattle.server_session.proofs.session.SessionState.tells_states.Goals as goal

pub returns-clause-stays_said : goal.returns-clause-stays_said
returns-clause-stays_said g c =
    subst (λ (messages : List Message). StaySaid c.args.owing.now.messages messages) (sym c.say.ensures.owed) (more-said c.args.owing.now.messages _)

pub returns-clause-unsaid : goal.returns-clause-unsaid
returns-clause-unsaid g c = none-more c.args.self.now _ c.args.owing.now _ refl (said-more _ _ _ c.say.ensures.owed)
