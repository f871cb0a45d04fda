use Rattle.std.proofs.Common.{length, ap, arith}
use Rattle.std.proofs.lemmas.List.{length-map}
use Rattle.call_table.specs.Table.{call_no, places_from, is_in}
use Rattle.call_table.specs.Kept.{Contents, is_row_in}
use Rattle.call_table.proofs.StandsLemmas.{group_stands}
use Rattle.call_table.proofs.calls.Calls.members.Goals as goal

pub returns-clause-members : goal.returns-clause-members
returns-clause-members c = λ table stands.
    omega (
      arith,
      c.len.ensures,
      c.of.result.now.ok.0,
      ap length c.of.ensures,
      ap length (c.self.invariant.0.grouped c.args.group),
      ap (λ (kept : Contents). length (places_from (is_row_in c.args.group) 0 kept.rows)) c.self.view_is,
      ap length (group_stands c.args.group c.args.self.now table stands),
      length-map (places_from (is_in c.args.group) 0 table.calls) call_no,
    )
