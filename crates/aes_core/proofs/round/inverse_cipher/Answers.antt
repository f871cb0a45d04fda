use Rattle.std.proofs.Common.{◌-◌, refl, arith}
use Rattle.aes_core.specs.Cipher.{add_round_key, inverse_cipher}
use Rattle.aes_core.specs.Words.{bytes_of}
use Rattle.aes_core.proofs.CipherLaws.{inverse_rounds_next, inverse_rounds_done}
use Rattle.aes_core.proofs.InverseSchedule.{equivalent_round}
use Rattle.aes_core.proofs.round.inverse_cipher.Goals as goal

pub rounds-init : goal.rounds-init
unfolding add_round_key
rounds-init c schedule is =
    rw (c.xor_states-state.ensures, c.state_of.ensures, c.round_key.ensures, is.last) refl

pub rounds-preserved : goal.rounds-preserved
rounds-preserved c schedule is =
    rw (
      c.xor_states-state-in-rounds.ensures,
      c.inverse_mixed_rows.ensures,
      c.round_key-key.ensures,
      equivalent_round c.args.inverse.now schedule (bytes_of c.rounds.state) (14 - c.rounds.rounds_done) is (omega arith) (omega arith),
    )
    (inverse_rounds_next (bytes_of schedule) (bytes_of c.rounds.state) _ c.rounds.rounds_done (omega arith) (c.rounds.invariant schedule is))

pub returns : goal.returns
unfolding inverse_cipher add_round_key
returns c schedule is =
    let state_is = inverse_rounds_done (bytes_of schedule) (bytes_of c.rounds.state) _ c.rounds.rounds_done (omega arith) (c.rounds.invariant schedule is) in
    rw (c.block_of.ensures, c.xor_states.ensures, c.inverse_last_rows.ensures, c.round_key-2.ensures, is.first, state_is) refl
