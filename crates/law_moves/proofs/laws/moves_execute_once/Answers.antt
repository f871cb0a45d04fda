use Rattle.law_moves.proofs.AfterAll.{kept_if_reached}
use Rattle.law_moves.proofs.OnceKept.{once_if_kept}
use Rattle.law_moves.proofs.SafeKept.{salts_if_kept, numbers_if_kept, one_taker_if_kept}
use Rattle.law_moves.proofs.laws.moves_execute_once.Goals as goal

pub returns-clause-once : goal.returns-clause-once
returns-clause-once c = λ w reached. once_if_kept w.time w (kept_if_reached w reached)

pub returns-clause-salts : goal.returns-clause-salts
returns-clause-salts c = λ w reached. salts_if_kept w.time w (kept_if_reached w reached)

pub returns-clause-numbers : goal.returns-clause-numbers
returns-clause-numbers c = λ w reached. numbers_if_kept w.time w (kept_if_reached w reached)

pub returns-clause-one_taker : goal.returns-clause-one_taker
returns-clause-one_taker c = λ w reached. one_taker_if_kept w.time w (kept_if_reached w reached)
