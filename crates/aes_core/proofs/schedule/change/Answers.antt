use Rattle.std.proofs.Common.{arith, ◌∙◌, refl}
use Rattle.aes_core.proofs.ScheduleLaws.{change_with_constant}
use Rattle.aes_core.proofs.schedule.change.Goals as goal

pub returns-then-i-eq0 : goal.returns-then-i-eq0
returns-then-i-eq0 c =
    change_with_constant c.args.i c.args.before c.sub_word.result (omega arith) (omega arith) c.if-i-eq0.true
    (c.sub_word.ensures ∙ rw c.to_le_bytes.ensures refl)
