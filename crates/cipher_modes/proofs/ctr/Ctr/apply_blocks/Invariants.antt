use Rattle.std.proofs.Common.{◌≡◌, ◌*◌, ◌++◌, take, drop}
use Rattle.cipher_modes.specs.CounterMode.{applied, advanced}
use Rattle.cipher_modes.proofs.ctr.Ctr.apply_blocks.Given as goal

abbrev pub invariant-each_block : goal.invariant-each_block
invariant-each_block l =
    (l.text ≡ applied l.fn.self (take (16 * l.i) l.fn.text) ++ drop (16 * l.i) l.fn.text)
    × (l.self ≡ advanced l.fn.self (16 * l.i))
