use Rattle.cmd_call.proofs.KeyLemmas.{keys_are_there}
use Rattle.cmd_call.proofs.laws.found_keys_are_there.Goals as goal

pub returns : goal.returns
returns c = λ ring key perm keys is. keys_are_there ring key perm keys is
