use Rattle.std.proofs.Common.{◌≡◌, ◌*◌, drop}
use Rattle.crc_core.specs.Crc32.{fed}
use Rattle.crc_core.proofs.register.fed_words.Given as goal

abbrev pub invariant-each_word : goal.invariant-each_word
invariant-each_word l = fed l.after (drop (4 * l.i) l.bytes) ≡ fed l.fn.register l.bytes
