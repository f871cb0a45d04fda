use Rattle.std.proofs.Common.{◌≡◌, ◌-◌, List, ℕ}
use Rattle.aes_core.specs.Cipher.{add_round_key, inverse_rounds}
use Rattle.aes_core.specs.Words.{bytes_of, IsInverseSchedule}
use Rattle.aes_core.proofs.round.inverse_cipher.Given as goal

abbrev pub invariant-rounds : goal.invariant-rounds
invariant-rounds l =
    (schedule : List ℕ) → IsInverseSchedule l.inverse schedule
    → inverse_rounds (bytes_of schedule) (14 - l.rounds_done) (bytes_of l.state)
    ≡ inverse_rounds (bytes_of schedule) 13 (add_round_key (bytes_of schedule) 14 l.block)
