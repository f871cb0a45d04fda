use Rattle.std.proofs.Common.{◌≡◌, drop}
use Rattle.crc_core.specs.Crc32.{fed}
use Rattle.crc_core.proofs.register.fed_bytes.Given as goal

abbrev pub invariant-loop-byte : goal.invariant-loop-byte
invariant-loop-byte l = fed l.after (drop l.byte-index l.bytes) ≡ fed l.fn.register l.bytes
