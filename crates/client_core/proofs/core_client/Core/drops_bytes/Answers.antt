use Rattle.std.proofs.Common.{length, ap, arith}
use Rattle.call_table.specs.declared.call.Group.TheVariants as group
use Rattle.call_table.specs.Table.{places_from}
use Rattle.call_table.specs.Kept.{is_row_in}
use Rattle.client_core.specs.Kept.{Contents}
use Rattle.client_core.proofs.OwedLemmas.{places_few}
use Rattle.client_core.proofs.core_client.Core.drops_bytes.Goals as goal

pub overflow_mul-result : goal.overflow_mul-result
overflow_mul-result c = omega (arith, c.members.ensures.kept, places_few (is_row_in group.Dropping) 0 c.self.inside.calls.rows, c.count-few.ensures.few)

pub returns : goal.returns
returns c =
    let all = ap (λ (core : Contents). length (places_from (is_row_in group.Dropping) 0 core.calls.rows)) c.self.view_is in
    record {
      bytes = omega (arith, c.members.ensures.kept, all);
      few = omega (arith, c.members.ensures.kept, places_few (is_row_in group.Dropping) 0 c.self.inside.calls.rows, c.count-few.ensures.few);
    }
