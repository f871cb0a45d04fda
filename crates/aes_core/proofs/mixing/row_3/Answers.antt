use Rattle.std.proofs.Common.{arith, refl}
use Rattle.aes_core.specs.Field.{xtime, product_bits}
use Rattle.aes_core.specs.declared.mixing.TheConstants.{ROW_3}
use Rattle.aes_core.proofs.TableTests.{passes_below}
use Rattle.aes_core.proofs.Tables.{row_at}
use Rattle.aes_core.proofs.mixing.row_3.Goals as goal

pub returns : goal.returns
unfolding xtime product_bits passes_below
returns c = row_at ROW_3 1 1 3 2 refl c.args.byte (omega arith)
