use Rattle.std.proofs.Common.{ℕ, ◌≡◌, ◌≢◌, ◌+◌, ◌-◌, ◌*◌, [], length, drop, sym, ap, ap₂, ◌∙◌, arith}
use Rattle.std.specs.Prelude.{bit_xor}
use Rattle.std.proofs.lemmas.Bool.{eqb-true, eqb-false}
use Rattle.std.proofs.lemmas.List.{nil_from_length}
use Rattle.crc_core.specs.Crc32.{fed, fed_bits}
use Rattle.crc_core.specs.Words.{word_at}
use Rattle.crc_core.proofs.WordLaws.{Bytes, beside, beside_start, beside_step, beside_end, beside_same}
use Rattle.crc_core.proofs.register.fed_blocks.Goals as goal

pub returns-then-is_empty : goal.returns-then-is_empty
unfolding fed
returns-then-is_empty c =
    let none : c.args.bytes.now ≡ [] = nil_from_length c.args.bytes.now (eqb-true _ _ (sym c.is_empty.ensures ∙ c.if-is_empty.true)) in
    sym (ap (fed c.args.register) none)

pub each_block-init : goal.each_block-init
each_block-init c =
    let xs = c.args.bytes.now in
    let some : length xs ≢ 0 = eqb-false _ _ (sym c.is_empty.ensures ∙ c.if-is_empty.false) in
    let long : 16 + (length xs - 16 * 0 - 16) ≡ length xs = omega (arith, c.requires, some) in
    beside_start c.args.register (length xs - 16 * 0 - 16) xs long

pub each_block-preserved : goal.each_block-preserved
each_block-preserved c =
    let xs = c.args.bytes.now in
    let i = c.each_block.i in
    let a = c.each_block.first in
    let b = c.each_block.second in
    let d = c.each_block.third in
    let e = c.each_block.fourth in
    let n = length xs - 16 * i - 16 in
    let m = length xs - 16 * (i + 1) - 16 in
    let fits : Bytes xs = λ k. omega (arith, c.type_inv.bytes k) in
    let next : 16 * (i + 1) ≡ 16 * i + 16 = omega arith in
    let long : 16 * i + 16 + n ≡ length xs = omega arith in
    let fewer : n ≡ m + 16 = omega arith in
    let R : ℕ → ℕ → ℕ = λ r w. fed_bits 128 (bit_xor r w) 0 in
    beside_same m _ _ _ _
    (R a (word_at xs (16 * i))) (R b (word_at xs (16 * i + 4))) (R d (word_at xs (16 * i + 8))) (R e (word_at xs (16 * i + 12)))
    (16 * (i + 1)) (16 * i + 16) xs
    (c.after_block-first.ensures ∙ ap (R a) c.word_at.ensures)
    (c.after_block-second.ensures ∙ ap (R b) c.word_at-in-each_block.ensures)
    (c.after_block-third.ensures ∙ ap (R d) c.word_at-in-each_block-2.ensures)
    (c.after_block-fourth.ensures ∙ ap (R e) c.word_at-in-each_block-3.ensures)
    next
    ∙ beside_step n m a b d e xs (16 * i) fits long fewer
    ∙ c.each_block.invariant

pub returns : goal.returns
returns c =
    let xs = c.args.bytes.now in
    let i = c.each_block.i in
    let last = length xs - 16 in
    let a = c.each_block.first in
    let b = c.each_block.second in
    let d = c.each_block.third in
    let e = c.each_block.fourth in
    let some : length xs ≢ 0 = eqb-false _ _ (sym c.is_empty.ensures ∙ c.if-is_empty.false) in
    let long : last + 16 ≡ length xs = omega (arith, c.requires, some) in
    let place : last ≡ 16 * i = omega (arith, c.requires, some, c.each_block-test.false, c.each_block.auto.i-end) in
    let none : 0 ≡ length xs - 16 * i - 16 = omega arith in
    let fits : Bytes xs = λ k. omega (arith, c.type_inv.bytes k) in
    let one = c.after_word-one.ensures ∙ ap (λ (w : ℕ). fed_bits 32 (bit_xor a w) 0) c.word_at-2.ensures in
    let two = c.after_word-two.ensures ∙ ap₂ (λ (r w : ℕ). fed_bits 32 (bit_xor r (bit_xor b w)) 0) one c.word_at-3.ensures in
    let three = c.after_word-three.ensures ∙ ap₂ (λ (r w : ℕ). fed_bits 32 (bit_xor r (bit_xor d w)) 0) two c.word_at-4.ensures in
    c.after_word.ensures
    ∙ ap₂ (λ (r w : ℕ). fed_bits 32 (bit_xor r (bit_xor e w)) 0) three c.word_at-5.ensures
    ∙ beside_end a b d e xs last fits long
    ∙ ap₂ (λ (n k : ℕ). beside n a b d e (fed 0 (drop k xs))) none place
    ∙ c.each_block.invariant
