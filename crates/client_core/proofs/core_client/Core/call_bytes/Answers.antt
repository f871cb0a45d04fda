use Rattle.std.proofs.Common.{◌-◌, Some, ap, arith}
use Rattle.call_table.specs.Table.{at}
use Rattle.client_core.specs.Kept.{Contents}
use Rattle.client_core.specs.Owed.{bytes_at}
use Rattle.client_core.proofs.OwedLemmas.{sized}
use Rattle.client_core.proofs.core_client.Core.call_bytes.Goals as goal

pub returns-clause-bytes : goal.returns-clause-bytes
returns-clause-bytes c =
    let own = sized (at c.args.call c.self.inside.calls.rows) c.body.result.now c.after.result c.body.ensures.kept c.after.ensures.kept in
    omega (arith, own, c.wrap_size.ensures, ap (λ (core : Contents). bytes_at core.calls.rows (Some (c.args.call.n - 1))) c.self.view_is)
