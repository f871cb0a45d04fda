use Rattle.aes_core.proofs.ColumnLaws.{column_of_words}
use Rattle.aes_core.proofs.mixing.mixed_column.Goals as goal

pub returns : goal.returns
returns c = column_of_words 2 3 1 1 _ _ _ _ _ _ _ _ c.row_0.ensures c.row_1.ensures c.row_2.ensures c.row_3.ensures
