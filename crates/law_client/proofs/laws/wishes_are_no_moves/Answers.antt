use Rattle.law_client.proofs.Quiet.{asks_salts, attaches, drops_answer, pings, ticks}
use Rattle.law_client.proofs.laws.wishes_are_no_moves.Goals as goal

pub returns-clause-attached : goal.returns-clause-attached
returns-clause-attached c = attaches

pub returns-clause-ticked : goal.returns-clause-ticked
returns-clause-ticked c = ticks

pub returns-clause-pinged : goal.returns-clause-pinged
returns-clause-pinged c = λ w number id client s. pings w number client s id

pub returns-clause-salts_asked : goal.returns-clause-salts_asked
returns-clause-salts_asked c = λ w number count client s. asks_salts w number client s count

pub returns-clause-dropped : goal.returns-clause-dropped
returns-clause-dropped c = λ w number call client s. drops_answer w number client s call
