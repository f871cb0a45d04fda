use Rattle.std.proofs.Common.{◌∙◌, sym, ap, List}
use Rattle.std.specs.List.{list_any}
use Rattle.std.specs.Prelude.{◌==◌}
use Rattle.server_output.specs.declared.owing.Row.{Row}
use Rattle.server_output.proofs.Rows.{rows-number}
use Rattle.server_output.proofs.owing.OutgoingMessages.has_said.Goals as goal

pub returns : goal.returns
returns c =
    let same = ap (λ (rows : List Row). list_any (λ row. row.number == c.args.number) rows) c.as_slice.ensures.value in
    rw (← c.self.view_is) (c.has_row.ensures ∙ (same ∙ sym (rows-number c.self.inside.texts.bytes c.args.number c.self.inside.rows.items)))
