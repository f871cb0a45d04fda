use Rattle.std.proofs.Common.{◌≡◌, ◌∙◌, ℕ, List, ap, length, subst, arith}
use Rattle.auth_keys.specs.KeyFile.{IsFaultOf, IsRingOf}
use Rattle.auth_keys.specs.declared.fault.KeyFault.TheVariants.{Memory}
use Rattle.cmd_sim.specs.KeysOfSim.{key_file, sim_ring}
use Rattle.cmd_sim.proofs.KeyTexts.{key_file-length, sim_ring-read}
use Rattle.cmd_sim.proofs.key_ring.sim_keys.Goals as goal
use Rattle.cmd_sim.proofs.key_ring.sim_keys.Goals.{in-Memory, in_default}

pub read-requires : goal.read-requires
read-requires c =
    let same : c.as_slice.result.now ≡ key_file = c.as_slice.ensures.value ∙ c.in_ok-text.ensures in
    record { short = omega (arith, ap length same, key_file-length) }

pub returns-in-Ok : goal.returns-in-Ok
returns-in-Ok c =
    let same : c.as_slice.result.now ≡ key_file = c.as_slice.ensures.value ∙ c.in_ok-text.ensures in
    c.one_reading.ensures.ring key_file c.in-Ok.ring sim_ring (subst (λ (text : List ℕ). IsRingOf text c.in-Ok.ring) same c.in-Ok.ensures.ring) sim_ring-read

pub prove-unreachable-requires : goal.prove-unreachable-requires
prove-unreachable-requires c =
    let same : c.as_slice.result.now ≡ key_file = c.as_slice.ensures.value ∙ c.in_ok-text.ensures in
    let memory : c.in-Err.fault ≡ Memory = c.one_reading.ensures.no_fault key_file sim_ring c.in-Err.fault sim_ring-read (subst (λ (text : List ℕ). IsFaultOf text c.in-Err.fault) same c.in-Err.ensures.fault) in
    elim c.match-matches.branch [
      | in-Memory w ↦ cc
      | in_default w ↦ w.in_default.not-Memory memory
    ]
