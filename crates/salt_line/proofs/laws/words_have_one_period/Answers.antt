use Rattle.salt_line.proofs.LawLemmas.{apart-needed_from, drew-needed_from}
use Rattle.salt_line.proofs.laws.words_have_one_period.Goals as goal

pub returns-clause-apart : goal.returns-clause-apart
returns-clause-apart g c = λ period n rows draw apart. apart-needed_from g.D.Draw.step period n (rows, draw) apart

pub returns-clause-drawn : goal.returns-clause-drawn
returns-clause-drawn g c = λ period n rows draw. drew-needed_from g.D.Draw.step period n (rows, draw)
