use Rattle.std.proofs.Common.{◌-◌, ◌*◌, ◌/◌, ◌++◌, take, drop, length}
use Rattle.cipher_modes.specs.Ige.{inverse_ige, inverse_ige_after}
use Rattle.cipher_modes.proofs.IgeLaws.{MakesWhole}
use Rattle.cipher_modes.proofs.ige.ige_decrypt.Given as goal

abbrev pub invariant-each_block : goal.invariant-each_block
invariant-each_block l =
    MakesWhole l.key l.fn.text
    (take (16 * l.i) l.text
    ++ inverse_ige_after l.key (length l.fn.text / 16 - l.i) l.cipher_before l.plain_before (drop (16 * l.i) l.text))
    (inverse_ige l.key l.iv l.fn.text) l.i
