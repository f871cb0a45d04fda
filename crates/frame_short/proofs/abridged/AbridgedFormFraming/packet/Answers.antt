use Rattle.std.proofs.Common.{arith}
use Rattle.frame_short.proofs.Parts.{short_frame, long_frame}
use Rattle.frame_short.proofs.abridged.AbridgedFormFraming.packet.Goals as goal

pub returns-then-frame-lt-LONG_FORM : goal.returns-then-frame-lt-LONG_FORM
returns-then-frame-lt-LONG_FORM c = short_frame c.args._number c.args.frame.now (λ i. omega (arith, c.type_inv.frame i)) c.requires c.if-frame-lt-LONG_FORM.true

pub returns-else-frame-lt-LONG_FORM : goal.returns-else-frame-lt-LONG_FORM
returns-else-frame-lt-LONG_FORM c = long_frame c.args._number c.args.frame.now (λ i. omega (arith, c.type_inv.frame i)) c.requires c.if-frame-lt-LONG_FORM.false
