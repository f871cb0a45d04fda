use Rattle.std.proofs.Common.{arith}
use Rattle.id_window.proofs.HistoryLemmas.{length-kept}
use Rattle.id_window.proofs.laws.sixteen_thousand_are_kept.Goals as goal

pub returns-clause-kept : goal.returns-clause-kept
returns-clause-kept c history = omega (arith, length-kept history)
