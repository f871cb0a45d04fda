use Rattle.inbox.proofs.TestLemmas.{valid_passes, passes_valid}
use Rattle.inbox.proofs.laws.salts_are_tested.Goals as goal

pub returns : goal.returns
returns c line now salt = (passes_valid line now salt, valid_passes line now salt)
