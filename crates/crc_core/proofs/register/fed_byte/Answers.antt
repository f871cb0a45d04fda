use Rattle.std.proofs.Common.{sym, arith}
use Rattle.crc_core.proofs.TextLaws.{byte_fed}
use Rattle.crc_core.proofs.register.fed_byte.Goals as goal

pub returns : goal.returns
returns c = rw (c.after_one.ensures, c.from.ensures) (sym (byte_fed c.args.register c.args.byte (omega arith)))
