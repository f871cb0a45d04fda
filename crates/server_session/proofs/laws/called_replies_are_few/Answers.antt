use Rattle.std.proofs.Common.{length}
use Rattle.server_session.proofs.UnsaidLemmas.{fewer-called, unsaid-called, unsaid-less}
use Rattle.server_session.proofs.laws.called_replies_are_few.Goals as goal

pub returns-clause-fewer : goal.returns-clause-fewer
returns-clause-fewer c = fewer-called

pub returns-clause-unsaid : goal.returns-clause-unsaid
returns-clause-unsaid c = unsaid-called

pub returns-clause-less : goal.returns-clause-less
returns-clause-less c = λ called more standing owing calls.
    (unsaid-less called more (λ kept. 1) owing.messages standing.outbox.replies calls, unsaid-less called more (λ kept. length kept.body) owing.messages standing.outbox.replies calls)
