use Rattle.std.proofs.Common.{arith}
use Rattle.server_session.proofs.UnsaidLemmas.{unsaid-few}
use Rattle.server_session.proofs.session.SessionState.kept_count.Goals as goal

pub returns-clause-unsaid : goal.returns-clause-unsaid
returns-clause-unsaid c = λ called owing. omega (arith, unsaid-few called owing.messages c.args.self.now.outbox.replies, c.len.ensures.value)
