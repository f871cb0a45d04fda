use Rattle.std.proofs.Common.{rules}
use Rattle.aes_core.proofs.WordLaws.{state_xor}
use Rattle.aes_core.proofs.words.xor_states.Goals as goal

pub returns : goal.returns
returns c = state_xor c.args.x c.args.y (search rules) (search rules)
