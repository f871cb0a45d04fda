use Rattle.std.proofs.Common.{◌≡◌, ◌%◌, ◌*◌, length, ap, ap₂, ◌∙◌, arith, rules}
use Rattle.cipher_modes.specs.CounterMode.{CtrState, applied, advanced}
use Rattle.cipher_modes.proofs.CtrLaws.{block_applied, one_more_block, advanced-advanced}
use Rattle.cipher_modes.proofs.ctr.Ctr.apply_blocks.Goals as goal

pub each_block-preserved : goal.each_block-preserved
each_block-preserved c =
    let before = c.args.self.now in
    let moved = c.each_block.invariant.1 in
    let place = ap (λ (s : CtrState). s.place) moved in
    let start : c.each_block.self.place % 16 ≡ 0 = omega arith in
    let text_long : length c.block_at.result ≡ 16 = search rules in
    let stream_long : length c.next_block.result ≡ 16 = search rules in
    let made = block_applied c.each_block.self c.block_at.result c.next_block.result text_long stream_long start c.next_block.ensures.block in
    let written = c.copy_from_slice.ensures.after ∙ c.xor_blocks-block.ensures in
    let long : length c.copy_from_slice.new.self ≡ 16 = search rules in (
      one_more_block before c.args.text.now c.each_block.text c.copy_from_slice.new.self c.each_block.i _ (omega arith) (omega arith)
          c.each_block.invariant.0 (λ same. written ∙ made ∙ ap₂ applied moved (c.block_at.ensures ∙ same)) long,
      c.next_block.ensures.advanced ∙ ap (λ (s : CtrState). advanced s 16) moved
          ∙ advanced-advanced before (16 * c.each_block.i) 16 ∙ ap (advanced before) (omega arith),
    )
