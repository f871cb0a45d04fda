use Rattle.std.proofs.Common.{arith}
use Rattle.aes_core.proofs.Tables.{substitution_at}
use Rattle.aes_core.proofs.table.sub_byte.Goals as goal

pub returns : goal.returns
returns c = substitution_at c.args.byte (omega arith)
