use Rattle.std.proofs.Common.{ℕ, ◌+◌, ◌-◌, ◌*◌, ◌≡◌, length, drop, sym, ◌∙◌, ap, arith}
use Rattle.std.specs.Prelude.{bit_xor}
use Rattle.crc_core.specs.Crc32.{fed, fed_bits}
use Rattle.crc_core.specs.Words.{word_at}
use Rattle.crc_core.proofs.WordLaws.{Bytes, word_fed, rest_fed}
use Rattle.crc_core.proofs.register.fed_words.Goals as goal

pub each_word-preserved : goal.each_word-preserved
each_word-preserved c =
    let fits : Bytes c.args.bytes.now = λ k. omega (arith, c.type_inv.bytes k) in
    let next : 4 * c.each_word.i + 4 ≡ 4 * (c.each_word.i + 1) = omega arith in
    ap (λ (r : ℕ). fed r (drop (4 * (c.each_word.i + 1)) c.args.bytes.now))
    (c.after_word-after.ensures ∙ ap (λ (w : ℕ). fed_bits 32 (bit_xor c.each_word.after w) 0) c.word_at.ensures)
    ∙ sym (word_fed c.each_word.after c.args.bytes.now (4 * c.each_word.i) (length c.args.bytes.now - 4 * c.each_word.i - 4) fits (omega arith)
    ∙ ap (λ (k : ℕ). fed (fed_bits 32 (bit_xor c.each_word.after (word_at c.args.bytes.now (4 * c.each_word.i))) 0) (drop k c.args.bytes.now)) next)
    ∙ c.each_word.invariant

pub returns : goal.returns
returns c =
    c.fed_bytes.ensures
    ∙ rest_fed c.each_word.after c.args.bytes.now c.each_word.i (omega arith)
    ∙ c.each_word.invariant
