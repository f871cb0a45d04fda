use Rattle.auth_keys.proofs.DigestLemmas.{digest-bytes}
use Rattle.auth_keys.proofs.laws.digests_are_bytes.Goals as goal

pub returns : goal.returns
returns c = λ message. digest-bytes message
