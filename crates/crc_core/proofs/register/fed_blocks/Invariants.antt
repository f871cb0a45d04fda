use Rattle.std.proofs.Common.{◌≡◌, ◌-◌, ◌*◌, length, drop}
use Rattle.crc_core.specs.Crc32.{fed}
use Rattle.crc_core.proofs.WordLaws.{beside}
use Rattle.crc_core.proofs.register.fed_blocks.Given as goal

abbrev pub invariant-each_block : goal.invariant-each_block
invariant-each_block l =
    beside (length l.bytes - 16 * l.i - 16) l.first l.second l.third l.fourth (fed 0 (drop (16 * l.i) l.bytes)) ≡ fed l.fn.register l.bytes
