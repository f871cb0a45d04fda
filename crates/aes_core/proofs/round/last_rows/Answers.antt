use Rattle.std.proofs.Common.{◌≡◌, length, rules}
use Rattle.aes_core.proofs.ColumnLaws as columns
use Rattle.aes_core.proofs.round.last_rows.Goals as goal

pub returns : goal.returns
returns c =
    let long : length c.block_of-s.result ≡ 16 = search rules in
    rw (← c.block_of-s.ensures)
    (columns.last_rows c.block_of-s.result _ _ _ _ long c.sub_word.ensures c.sub_word-2.ensures c.sub_word-3.ensures c.sub_word-4.ensures)
