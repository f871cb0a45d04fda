use Rattle.std.proofs.Common.{arith}
use Rattle.aes_core.proofs.Tables.{inverse_substitution_at}
use Rattle.aes_core.proofs.table.inverse_sub_byte.Goals as goal

pub returns : goal.returns
returns c = inverse_substitution_at c.args.byte (omega arith)
