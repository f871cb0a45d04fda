use Rattle.std.proofs.Common.{◌∙◌, refl}
use Rattle.aes_core.proofs.ColumnLaws.{substituted_and_undone}
use Rattle.aes_core.proofs.schedule.inverse_mixed_word.Goals as goal

pub returns : goal.returns
returns c =
    substituted_and_undone _ c.args.word _ _ _ _ c.inverse_mixed_column.ensures
    (c.sub_byte.ensures ∙ rw c.to_le_bytes.ensures refl) (c.sub_byte-2.ensures ∙ rw c.to_le_bytes.ensures refl)
    (c.sub_byte-3.ensures ∙ rw c.to_le_bytes.ensures refl) (c.sub_byte-4.ensures ∙ rw c.to_le_bytes.ensures refl)
