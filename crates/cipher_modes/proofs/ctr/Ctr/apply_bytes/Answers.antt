use Rattle.std.proofs.Common.{◌∙◌, ap}
use Rattle.cipher_modes.specs.CounterMode.{CtrState, ctr_stream, advanced}
use Rattle.cipher_modes.proofs.CtrLaws.{one_more_byte, byte_at, advanced-advanced}
use Rattle.cipher_modes.proofs.ctr.Ctr.apply_bytes.Goals as goal

pub loop-byte-preserved : goal.loop-byte-preserved
loop-byte-preserved c =
    let before = c.args.self.now in
    let moved = c.loop-byte.invariant.1 in
    let byte = byte_at before c.loop-byte.self c.loop-byte.byte-index c.next_byte.result moved c.next_byte.ensures.byte in (
      one_more_byte (ctr_stream before.key before.iv) before.place c.args.text.now c.loop-byte.text c.loop-byte.byte-index
          c.next_byte.result c.loop-byte-test.true c.loop-byte.invariant.0 byte,
      c.next_byte.ensures.advanced ∙ ap (λ (s : CtrState). advanced s 1) moved ∙ advanced-advanced before c.loop-byte.byte-index 1,
    )
