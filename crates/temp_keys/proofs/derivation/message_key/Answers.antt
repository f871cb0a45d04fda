use Rattle.std.proofs.Common.{arith, sym, length-take-le}
use Rattle.temp_keys.proofs.derivation.message_key.Goals as goal

pub slice_bounds-digest-end : goal.slice_bounds-digest-end
slice_bounds-digest-end c = sym (length-take-le 72 c.args.plain.now (omega (arith, c.requires)))
