use Rattle.std.proofs.Common.{ap₂, ◌∙◌, arith}
use Rattle.std.specs.Prelude.{bit_xor}
use Rattle.crc_core.proofs.WordLaws.{word_parts}
use Rattle.crc_core.proofs.register.after_block.Goals as goal

pub returns : goal.returns
returns c =
    ap₂ bit_xor (ap₂ bit_xor c.after_sixteen.ensures c.after_fifteen.ensures) (ap₂ bit_xor c.after_fourteen.ensures c.after_thirteen.ensures)
    ∙ word_parts 96 c.args.register (omega arith)
