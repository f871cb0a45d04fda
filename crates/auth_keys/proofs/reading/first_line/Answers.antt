use Rattle.auth_keys.proofs.LineLemmas.{lines_of-cut, lines_of-whole}
use Rattle.auth_keys.proofs.reading.first_line.Goals as goal

pub returns-in-Some-clause-lines : goal.returns-in-Some-clause-lines
returns-in-Some-clause-lines c = lines_of-cut c.args.text.now c.in-Some.end c.in-Some.ensures.found.0 c.in-Some.ensures.found.1 c.in-Some.ensures.first

pub returns-in-None-clause-lines : goal.returns-in-None-clause-lines
returns-in-None-clause-lines c = lines_of-whole c.args.text.now c.requires c.in-None.ensures.none
