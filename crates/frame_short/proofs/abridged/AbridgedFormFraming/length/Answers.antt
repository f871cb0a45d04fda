use Rattle.std.proofs.Common.{◌≡◌, get_or, arith, inl, inr}
use Rattle.frame_short.proofs.Parts.{read_fits}
use Rattle.frame_short.proofs.abridged.AbridgedFormFraming.length.Goals as goal

pub returns-in_default : goal.returns-in_default
returns-in_default c = inl (omega (arith, c.in_default.ensures.item.3))

pub returns-then-text-lt-LONG_HEAD_BYTES : goal.returns-then-text-lt-LONG_HEAD_BYTES
returns-then-text-lt-LONG_HEAD_BYTES c =
    let first = c.in-Some.ensures.item.3.1 0 in
    let e : get_or c.args.text.now 0 0 ≡ 127 = omega (arith, first) in
    inr (e, c.if-text-lt-LONG_HEAD_BYTES.true)

pub length_of-requires-2-clause-words : goal.length_of-requires-2-clause-words
length_of-requires-2-clause-words c =
    omega (arith, c.read_u24.ensures, read_fits c.args.text.now (λ i. omega (arith, c.type_inv.text i)))
