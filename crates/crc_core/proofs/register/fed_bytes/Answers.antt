use Rattle.std.proofs.Common.{ℕ, ◌+◌, drop, sym, ◌∙◌, ap}
use Rattle.std.proofs.lemmas.List.{at_drop_more, at_drop_all}
use Rattle.crc_core.specs.Crc32.{fed}
use Rattle.crc_core.proofs.register.fed_bytes.Goals as goal

pub loop-byte-preserved : goal.loop-byte-preserved
unfolding fed
loop-byte-preserved c =
    ap (λ (r : ℕ). fed r (drop (c.loop-byte.byte-index + 1) c.args.bytes.now)) c.fed_byte-after.ensures
    ∙ sym (at_drop_more (fed c.loop-byte.after) c.args.bytes.now c.loop-byte.byte-index 0 c.loop-byte-test.true)
    ∙ c.loop-byte.invariant

pub returns : goal.returns
unfolding fed
returns c =
    sym (at_drop_all (fed c.loop-byte.after) c.args.bytes.now c.loop-byte.byte-index c.loop-byte-test.false)
    ∙ c.loop-byte.invariant
