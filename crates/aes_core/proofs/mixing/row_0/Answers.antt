use Rattle.std.proofs.Common.{arith, refl}
use Rattle.aes_core.specs.Field.{xtime, product_bits}
use Rattle.aes_core.specs.declared.mixing.TheConstants.{ROW_0}
use Rattle.aes_core.proofs.TableTests.{passes_below}
use Rattle.aes_core.proofs.Tables.{row_at}
use Rattle.aes_core.proofs.mixing.row_0.Goals as goal

pub returns : goal.returns
unfolding xtime product_bits passes_below
returns c = row_at ROW_0 2 1 1 3 refl c.args.byte (omega arith)
