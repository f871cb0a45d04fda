use Rattle.std.proofs.Common.{refl}
use Rattle.server_session.proofs.UnsaidLemmas.{none-more, said-more}
use Rattle.server_session.proofs.session.SessionState.notices.Goals as goal

pub returns-then-code-eq-WRONG_SALT-clause-unsaid : goal.returns-then-code-eq-WRONG_SALT-clause-unsaid
returns-then-code-eq-WRONG_SALT-clause-unsaid g c = none-more c.args.self.now _ c.args.owing.now _ refl (said-more _ _ _ c.say.ensures.owed)

pub returns-else-code-eq-WRONG_SALT-clause-unsaid : goal.returns-else-code-eq-WRONG_SALT-clause-unsaid
returns-else-code-eq-WRONG_SALT-clause-unsaid g c = none-more c.args.self.now _ c.args.owing.now _ refl (said-more _ _ _ c.say-else-code-eq-WRONG_SALT.ensures.owed)
