use Rattle.std.proofs.Common.{refl}
use Rattle.client_rules.proofs.laws.numbers_decide.Goals as goal

pub returns-clause-result : goal.returns-clause-result
returns-clause-result c outer number about result client call h = rw h refl

pub returns-clause-no_result : goal.returns-clause-no_result
returns-clause-no_result c outer number about result client h k = rw h (rw k refl)

pub returns-clause-no_notice : goal.returns-clause-no_notice
returns-clause-no_notice c outer notice client h k l = rw h (rw k (rw l refl))

pub returns-clause-learnt : goal.returns-clause-learnt
returns-clause-learnt c outer unique salt client h = rw h refl
