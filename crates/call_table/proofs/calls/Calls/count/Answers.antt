use Rattle.std.proofs.Common.{length, ap, arith}
use Rattle.call_table.specs.Kept.{Contents, IsRowOf}
use Rattle.call_table.proofs.StandsLemmas.{zip_length}
use Rattle.call_table.proofs.calls.Calls.count.Goals as goal

pub returns-clause-count : goal.returns-clause-count
returns-clause-count c = λ table stands. omega (arith, zip_length IsRowOf c.args.self.now.rows table.calls stands.rows, ap (λ (kept : Contents). length kept.rows) c.self.view_is, c.self.inside.rows.ok.0)
