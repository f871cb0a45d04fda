use Rattle.std.proofs.Common.{◌≡◌, ◌∙◌, ◌+◌, ◌++◌, length, drop, arith, length-append, length-drop}
use Rattle.std.proofs.lemmas.List.{drop_at}
use Rattle.byteorder.specs.Endian.{little_bytes}
use Rattle.envelope.proofs.PlainTexts.{plain-in-place}
use Rattle.envelope.proofs.sealing.put_head.Goals as goal

pub returns-clause-plain : goal.returns-clause-plain
returns-clause-plain c text padding whole front count =
    let before = c.copy_from_slice.new.self ++ drop 8 c.split_at_mut-front.result.0.now in
    let copied : length c.copy_from_slice.new.self ≡ 8 = grind (arith, c.copy_from_slice.ensures, c.to_le_bytes.ensures) in
    let long : length before ≡ 24 =
    omega (arith, copied, length-append c.copy_from_slice.new.self (drop 8 c.split_at_mut-front.result.0.now), length-drop 8 c.split_at_mut-front.result.0.now, c.split_at_mut-front.ensures.front_len) in
    let behind : drop 24 (before ++ c.put_plain_head.new.text) ≡ c.put_plain_head.new.text =
    drop_at before c.put_plain_head.new.text 24 long in
    behind
    ∙ plain-in-place c.args.head.now text padding c.args.packet.now c.split_at_mut-front.result.1.now c.put_plain_head.new.text c.args.body whole front count
    c.split_at_mut-front.ensures.back c.put_plain_head.ensures.written
