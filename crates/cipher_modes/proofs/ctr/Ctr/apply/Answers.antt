use Rattle.cipher_modes.proofs.CtrLaws.{three_parts}
use Rattle.cipher_modes.proofs.ctr.Ctr.apply.Goals as goal

pub returns-then-to_block_end-text : goal.returns-then-to_block_end-text
returns-then-to_block_end-text c =
    let whole = three_parts c.args.self.now c.apply_bytes.new.self c.apply_blocks.new.self _ _ _ _ _ _ _ _ _
    c.split_at_mut-first.ensures.value c.split_at_mut-blocks.ensures.value
    c.apply_bytes.ensures.applied c.apply_bytes.ensures.advanced c.apply_blocks.ensures.applied c.apply_blocks.ensures.advanced
    c.apply_bytes-then-to_block_end-text.ensures.applied c.apply_bytes-then-to_block_end-text.ensures.advanced in
    record { applied = whole.0; advanced = whole.1 }
