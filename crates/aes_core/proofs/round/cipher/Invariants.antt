use Rattle.std.proofs.Common.{◌≡◌, ◌-◌}
use Rattle.aes_core.specs.Cipher.{add_round_key, rounds}
use Rattle.aes_core.specs.Words.{bytes_of}
use Rattle.aes_core.proofs.round.cipher.Given as goal

abbrev pub invariant-rounds : goal.invariant-rounds
invariant-rounds l = bytes_of l.state ≡ rounds (bytes_of l.schedule) (l.round - 1) (add_round_key (bytes_of l.schedule) 0 l.block)
