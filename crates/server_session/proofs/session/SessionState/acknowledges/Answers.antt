use Rattle.std.proofs.Common.{refl}
use Rattle.server_session.proofs.UnsaidLemmas.{none-more, said-more}
use Rattle.server_session.proofs.session.SessionState.acknowledges.Goals as goal

pub returns-then-not-is_empty-clause-unsaid : goal.returns-then-not-is_empty-clause-unsaid
returns-then-not-is_empty-clause-unsaid g c = none-more c.args.self.now _ c.args.owing.now _ refl (said-more _ _ _ c.say.ensures.owed)
