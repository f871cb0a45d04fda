use Rattle.std.proofs.Common.{sym, arith}
use Rattle.aes_core.proofs.WordLaws.{round_key_words}
use Rattle.aes_core.proofs.schedule.round_key.Goals as goal

pub returns : goal.returns
returns c = sym (round_key_words c.args.schedule.now c.args.round (omega (arith, c.told-schedule)))
