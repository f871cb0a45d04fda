use Rattle.obfus.specs.Streams.{ciphered}
use Rattle.obfus.specs.Starts.{start_of}
use Rattle.obfus.proofs.Looks.{sent_clean, unplain}
use Rattle.obfus.proofs.laws.starts_look_like_no_other.Goals as goal

pub returns-clause-not_plain : goal.returns-clause-not_plain
returns-clause-not_plain c = λ secret tag dc drawn long. unplain (ciphered secret (start_of tag dc drawn)) (sent_clean secret tag dc drawn long)

pub returns-clause-not_another : goal.returns-clause-not_another
returns-clause-not_another c = λ secret tag dc drawn long. (sent_clean secret tag dc drawn long).other
