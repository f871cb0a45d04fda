use Rattle.std.proofs.Common.{◌≡◌, length, arith, rules, ◌∙◌, sym}
use Rattle.cipher_modes.proofs.block.xor_blocks.Goals as goal

pub returns : goal.returns
returns c =
    let long : length c.args.x ≡ 16 = search rules in
    let other_long : length c.args.y ≡ 16 = search rules in
    c.xor_by_places.ensures.exact c.args.x c.args.y c.bytes.x (c.bytes.invariant.0 ∙ sym long) (omega arith)
    (λ k h. c.bytes.invariant.1 k (omega arith))
