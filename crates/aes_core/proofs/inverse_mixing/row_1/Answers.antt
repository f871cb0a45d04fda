use Rattle.std.proofs.Common.{arith, refl}
use Rattle.aes_core.specs.Field.{xtime, product_bits}
use Rattle.aes_core.specs.declared.inverse_mixing.TheConstants.{ROW_1}
use Rattle.aes_core.proofs.TableTests.{passes_below}
use Rattle.aes_core.proofs.Tables.{inverse_row_at}
use Rattle.aes_core.proofs.inverse_mixing.row_1.Goals as goal

pub returns : goal.returns
unfolding xtime product_bits passes_below
returns c = inverse_row_at ROW_1 11 14 9 13 refl c.args.byte (omega arith)
