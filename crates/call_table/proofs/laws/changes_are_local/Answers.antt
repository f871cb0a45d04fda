use Rattle.std.proofs.Common.{◌-◌, arith}
use Rattle.call_table.proofs.LawLemmas.{changed_one, changed_other, changed_count}
use Rattle.call_table.proofs.laws.changes_are_local.Goals as goal

pub returns-clause-one : goal.returns-clause-one
returns-clause-one c = λ calls call change. changed_one change (call.n - 1) calls

pub returns-clause-others : goal.returns-clause-others
returns-clause-others c = λ calls call other change some others apart. changed_other change (call.n - 1) (other.n - 1) calls (omega (arith, apart, some, others))

pub returns-clause-count : goal.returns-clause-count
returns-clause-count c = λ calls call change. changed_count change (call.n - 1) calls
