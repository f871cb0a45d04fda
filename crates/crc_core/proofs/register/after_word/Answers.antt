use Rattle.std.proofs.Common.{ap₂, ◌∙◌, arith}
use Rattle.std.specs.Prelude.{bit_xor}
use Rattle.crc_core.proofs.WordLaws.{word_parts}
use Rattle.crc_core.proofs.register.after_word.Goals as goal

pub returns : goal.returns
returns c =
    ap₂ bit_xor (ap₂ bit_xor c.after_four.ensures c.after_three.ensures) (ap₂ bit_xor c.after_two.ensures c.after_one.ensures)
    ∙ word_parts 0 c.args.register (omega arith)
