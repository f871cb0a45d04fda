use Rattle.std.proofs.Common.{◌≡◌, ◌-◌, refl, arith}
use Rattle.aes_core.specs.Cipher.{add_round_key, rounds, cipher}
use Rattle.aes_core.specs.Words.{bytes_of}
use Rattle.aes_core.proofs.CipherLaws.{rounds_next}
use Rattle.aes_core.proofs.round.cipher.Goals as goal

pub rounds-init : goal.rounds-init
unfolding rounds add_round_key
rounds-init c = rw (c.xor_states-state.ensures, c.state_of.ensures, c.round_key.ensures) refl

pub rounds-preserved : goal.rounds-preserved
unfolding add_round_key
rounds-preserved c =
    rw (c.xor_states-state-in-rounds.ensures, c.mixed_rows.ensures, c.round_key-key.ensures)
    (rounds_next (bytes_of c.args.schedule.now) _ (bytes_of c.rounds.state) c.rounds.round (omega arith) c.rounds.invariant)

pub returns : goal.returns
unfolding cipher add_round_key
returns c =
    let last : c.rounds.round - 1 ≡ 13 = omega arith in
    rw (c.block_of.ensures, c.xor_states.ensures, c.last_rows.ensures, c.round_key-2.ensures, c.rounds.invariant, last) refl
