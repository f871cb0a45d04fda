use Rattle.sched_text.proofs.Requests.{add_read, get_read}
use Rattle.sched_text.proofs.laws.requests_of_the_registers.Goals as goal

pub returns-clause-add : goal.returns-clause-add
returns-clause-add c = λ name amount named fits. add_read c.written_again.ensures.read name amount named fits

pub returns-clause-get : goal.returns-clause-get
returns-clause-get c = λ name named. get_read c.written_again.ensures.read name named
