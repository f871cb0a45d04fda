use Rattle.std.proofs.Common.{◌≡◌, ◌++◌, take, drop}
use Rattle.cipher_modes.specs.CounterMode.{applied, advanced}
use Rattle.cipher_modes.proofs.ctr.Ctr.apply_bytes.Given as goal

abbrev pub invariant-loop-byte : goal.invariant-loop-byte
invariant-loop-byte l =
    (l.text ≡ applied l.fn.self (take l.byte-index l.fn.text) ++ drop l.byte-index l.fn.text)
    × (l.self ≡ advanced l.fn.self l.byte-index)
