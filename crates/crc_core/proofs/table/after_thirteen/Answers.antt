use Rattle.std.proofs.Common.{◌%◌, arith, refl}
use Rattle.crc_core.specs.Crc32.{fed_bit, fed_bits}
use Rattle.crc_core.specs.declared.table.TheConstants.{BLOCK}
use Rattle.crc_core.proofs.TableTests.{passes_below}
use Rattle.crc_core.proofs.Tables.{entry_at}
use Rattle.crc_core.proofs.table.after_thirteen.Goals as goal

pub returns : goal.returns
unfolding fed_bit fed_bits passes_below
returns c = entry_at BLOCK 104 refl (c.args.register % 256) (omega arith)
