use Rattle.std.proofs.Common.{◌*◌, ◌/◌, length, ◌∙◌, arith}
use Rattle.crc_core.proofs.WordLaws.{whole_fed}
use Rattle.crc_core.proofs.register.fed.Goals as goal

pub returns : goal.returns
returns c =
    c.fed_words.ensures
    ∙ whole_fed c.args.register c.args.bytes.now (length c.args.bytes.now / 16 * 16) c.fed_blocks-after.result (omega arith) c.fed_blocks-after.ensures
