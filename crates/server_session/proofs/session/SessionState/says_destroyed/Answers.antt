use Rattle.std.proofs.Common.{refl}
use Rattle.server_session.proofs.UnsaidLemmas.{none-more, said-more}
use Rattle.server_session.proofs.session.SessionState.says_destroyed.Goals as goal

pub returns-clause-unsaid : goal.returns-clause-unsaid
returns-clause-unsaid g c = none-more c.args.self.now _ c.args.owing.now _ refl (said-more _ _ _ c.say.ensures.owed)
