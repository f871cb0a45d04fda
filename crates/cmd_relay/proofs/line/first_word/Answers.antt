use Rattle.cmd_relay.proofs.Words.{words_of-cut, words_of-whole}
use Rattle.cmd_relay.proofs.line.first_word.Goals as goal

pub returns-in-Some : goal.returns-in-Some
returns-in-Some c = words_of-cut c.args.line.now c.in-Some.end c.in-Some.ensures.found.0 c.in-Some.ensures.found.1 c.in-Some.ensures.first

pub returns-in-None : goal.returns-in-None
returns-in-None c = words_of-whole c.args.line.now c.in-None.ensures.none
