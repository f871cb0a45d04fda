use Rattle.temp_keys.proofs.SealLemmas.{number-one, inner-one}
use Rattle.temp_keys.proofs.laws.one_inner_object.Goals as goal

pub returns-clause-number : goal.returns-clause-number
returns-clause-number c = λ key message number other inner rest h k. number-one c.seal_laws.ensures key message number other inner rest h k

pub returns-clause-inner : goal.returns-clause-inner
returns-clause-inner c = λ key message number other inner rest h k. inner-one c.seal_laws.ensures key message number other inner rest h k
