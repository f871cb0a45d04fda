use Rattle.std.proofs.Common.{◌%◌, arith, refl}
use Rattle.crc_core.specs.Crc32.{fed_bit, fed_bits}
use Rattle.crc_core.specs.declared.table.TheConstants.{BLOCK}
use Rattle.crc_core.proofs.TableTests.{passes_below}
use Rattle.crc_core.proofs.Tables.{entry_behind}
use Rattle.crc_core.proofs.table.after_fourteen.Goals as goal

pub returns : goal.returns
unfolding fed_bit fed_bits passes_below
returns c = entry_behind BLOCK 256 112 refl (c.args.register % 256) (omega arith)
