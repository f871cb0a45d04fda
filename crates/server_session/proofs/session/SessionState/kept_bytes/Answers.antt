use Rattle.std.proofs.Common.{arith}
use Rattle.server_session.proofs.UnsaidLemmas.{unsaid-short}
use Rattle.server_session.proofs.session.SessionState.kept_bytes.Goals as goal

pub returns-clause-unsaid : goal.returns-clause-unsaid
returns-clause-unsaid c = λ called owing. omega (arith, unsaid-short called owing.messages c.args.self.now.outbox.replies, c.bytes.ensures.value)
