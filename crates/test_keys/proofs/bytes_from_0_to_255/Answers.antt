use Rattle.std.proofs.Common.{◌∙◌, sym, arith}
use Rattle.std.proofs.lemmas.List.{get_or-replicate, ext_get_or}
use Rattle.std.proofs.lemmas.List.FromFn.{length-range_with_len, get_or-range_with_len}
use Rattle.test_keys.specs.Lines.{from_0_to_255}
use Rattle.test_keys.proofs.bytes_from_0_to_255.Goals as goal

pub loop-byte-init : goal.loop-byte-init
loop-byte-init c = (omega arith, (λ k h. absurd (omega arith)), λ k _ h. get_or-replicate 256 k 255 0 h)

pub returns : goal.returns
unfolding from_0_to_255
returns c = record {
  bytes =
      let at = c.loop-byte.invariant in
      ext_get_or 0 c.loop-byte.bytes from_0_to_255 (at.0 ∙ sym (length-range_with_len 0 256))
      (λ k h. grind (arith, at.0, at.1 k, at.2 k, get_or-range_with_len 0 256 k 0));
}
