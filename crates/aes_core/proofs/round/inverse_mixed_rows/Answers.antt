use Rattle.std.proofs.Common.{◌≡◌, length, rules}
use Rattle.aes_core.proofs.ColumnLaws as columns
use Rattle.aes_core.proofs.round.inverse_mixed_rows.Goals as goal

pub returns : goal.returns
returns c =
    let long : length c.block_of-s.result ≡ 16 = search rules in
    rw (← c.block_of-s.ensures)
    (columns.inverse_mixed_rows c.block_of-s.result _ _ _ _ long c.inverse_mixed_column.ensures c.inverse_mixed_column-2.ensures c.inverse_mixed_column-3.ensures c.inverse_mixed_column-4.ensures)
