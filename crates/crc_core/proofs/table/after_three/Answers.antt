use Rattle.std.proofs.Common.{◌%◌, arith, refl}
use Rattle.crc_core.specs.Crc32.{fed_bit, fed_bits}
use Rattle.crc_core.specs.declared.table.TheConstants.{WORD}
use Rattle.crc_core.proofs.TableTests.{passes_below}
use Rattle.crc_core.proofs.Tables.{entry_behind}
use Rattle.crc_core.proofs.table.after_three.Goals as goal

pub returns : goal.returns
unfolding fed_bit fed_bits passes_below
returns c = entry_behind WORD 512 24 refl (c.args.register % 256) (omega arith)
