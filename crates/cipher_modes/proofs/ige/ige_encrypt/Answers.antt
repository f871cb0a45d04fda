use Rattle.std.proofs.Common.{◌≡◌, ◌<◌, ◌-◌, ◌/◌, ◌*◌, length, arith, rules, ◌∙◌, ap, refl}
use Rattle.octets.specs.Bytes.{HasBytes}
use Rattle.cipher_modes.specs.Ige.{ige_block}
use Rattle.cipher_modes.proofs.IgeLaws.{ige_next, ige_done, inverse_ige-ige, ige-MeetsIgeEquations}
use Rattle.cipher_modes.proofs.ige.ige_encrypt.Goals as goal

pub each_block-init : goal.each_block-init
each_block-init c =
    let all : length c.args.text.now / 16 - 0 ≡ length c.args.text.now / 16 = omega arith in
    record {
      whole_text = rw (c.halves.ensures.first, c.halves.ensures.last, all) refl;
      key_bytes = λ h. absurd (omega arith);
      text_bytes = λ k. omega (arith, c.type_inv.text k);
    }

pub each_block-preserved : goal.each_block-preserved
each_block-preserved c =
    let long : length c.encrypted-cipher.result ≡ 16 = search rules in
    let made = c.encrypted-cipher.ensures.block
    ∙ ap (ige_block c.args.key.now c.each_block.cipher_before c.each_block.plain_before) c.block_at-plain.ensures in
    record {
      whole_text = rw (c.copy_from_slice.ensures.after, c.block_at-plain.ensures)
          (ige_next c.args.key.now c.each_block.cipher_before c.each_block.plain_before c.each_block.text c.encrypted-cipher.result _
          c.each_block.i _ (length c.args.text.now / 16) (omega arith) (omega arith) made long (omega arith) c.each_block.invariant.whole_text);
      key_bytes = λ h. c.encrypted-cipher.ensures.key_of_bytes;
      text_bytes = c.each_block.invariant.text_bytes;
    }

pub returns : goal.returns
returns c =
    let count : length c.args.text.now ≡ 16 * (length c.args.text.now / 16) = omega arith in
    let last : c.each_block.i ≡ length c.args.text.now / 16 = omega arith in
    let key_bytes : 0 < length c.args.text.now / 16 → HasBytes 32 c.args.key.now = λ h. c.each_block.invariant.key_bytes (omega arith) in
    let iv_bytes : HasBytes 32 c.args.iv.now = record { count = c.told-iv; in_range = c.fits-iv } in
    let text_bytes : HasBytes (16 * (length c.args.text.now / 16)) c.args.text.now =
    record { count = count; in_range = c.each_block.invariant.text_bytes } in
    let made = ige_done c.args.key.now c.each_block.cipher_before c.each_block.plain_before c.each_block.text _
    c.each_block.i (length c.args.text.now / 16) last (omega arith) c.each_block.invariant.whole_text in
    record {
      enciphered = made;
      meets_equations = rw made (ige-MeetsIgeEquations c.block_laws.ensures c.args.key.now c.args.iv.now c.args.text.now _ key_bytes iv_bytes text_bytes);
      undone_by_decrypting = rw made (inverse_ige-ige c.block_laws.ensures c.args.key.now c.args.iv.now c.args.text.now _ key_bytes iv_bytes text_bytes);
    }
