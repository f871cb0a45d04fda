use Rattle.std.proofs.Common.{sym}
use Rattle.outbox.specs.declared.kept.Kept.{Kept}
use Rattle.server_session.specs.Unsaid.{is_to}
use Rattle.server_session.proofs.UnsaidLemmas.{once-by-key}
use Rattle.server_session.proofs.session.SessionState.calls_for.Goals as goal

pub returns : goal.returns
returns c = λ which is.
    c.with_one.ensures which (is_to c.args.call) (sym c.by_call.ensures)
    (λ apart. once-by-key (λ (kept : Kept). kept.call) c.args.call c.args.self.now.outbox.replies apart.calls) is
