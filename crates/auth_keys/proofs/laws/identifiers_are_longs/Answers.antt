use Rattle.auth_keys.proofs.DigestLemmas.{identifier-long, identifier-bytes}
use Rattle.auth_keys.proofs.laws.identifiers_are_longs.Goals as goal

pub returns-clause-long : goal.returns-clause-long
returns-clause-long c = λ key. identifier-long key

pub returns-clause-bytes : goal.returns-clause-bytes
returns-clause-bytes c = λ key. identifier-bytes key
