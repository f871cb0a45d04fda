use Rattle.std.proofs.Common.{◌∙◌, ◌-◌, Some, ap}
use Rattle.call_table.specs.Table.{at}
use Rattle.client_core.specs.Kept.{Contents}
use Rattle.client_core.specs.Owed.{follows_at}
use Rattle.client_core.proofs.OwedLemmas.{follows_by}
use Rattle.client_core.proofs.core_client.Core.follows.Goals as goal

pub returns : goal.returns
returns c =
    c.is_some.ensures ∙ (follows_by (at c.args.call c.self.inside.calls.rows) c.after.result c.after.ensures.kept
    ∙ ap (λ (core : Contents). follows_at core.calls.rows (Some (c.args.call.n - 1))) c.self.view_is)
