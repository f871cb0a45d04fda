-- The setting of `sim` is one of a world.
use Rattle.std.proofs.Common.{◌+◌, ◌*◌, ℕ, Option, Some, None, List, [], ap, arith}
use Rattle.std.specs.Prelude.{is_some}
use Rattle.std.proofs.Math.Nat.{mod-lt}
use Rattle.octets.specs.Bytes.{HasBytes, IsBytes}
use Rattle.auth_keys.specs.Rings.{entry_of, key_in}
use Rattle.client_core.specs.Flushed.{binding_under}
use Rattle.regs_service.specs.Registers as registers
use Rattle.regs_service.specs.Served.{IsReply}
use Rattle.temp_keys.specs.Messages.{binding_message}
use Rattle.temp_keys.specs.declared.binding.Inner.{Inner}
use Rattle.world_rules.specs.Premises.{IsSound}
use Rattle.cmd_sim.specs.KeysOfSim.{sim_ring}
use Rattle.cmd_sim.specs.Worlds.{Registers, sim_setting, sim_sealing}
use Rattle.cmd_sim.proofs.KeyTexts.{permanent-found, temporary-found}

module _ (nil : IsBytes []) (made : (key random : List ℕ) (number : ℕ) (inner : Inner) (padding : List ℕ) → HasBytes 16 random → HasBytes 8 padding → IsBytes (binding_message key random number inner padding)) where
  under-bytes : (key : Option (List ℕ)) (random : List ℕ) (number : ℕ) (inner : Inner) (padding : List ℕ) → HasBytes 16 random → HasBytes 8 padding → IsBytes (binding_under key random number inner padding)
  under-bytes None random number inner padding drawn padded = nil
  under-bytes (Some key) random number inner padding drawn padded = made key random number inner padding drawn padded

  pub setting-sound : ((sums : Registers) (request : List ℕ) → IsReply (registers.step sums request).0 × IsBytes (registers.step sums request).0) → IsSound sim_ring sim_setting
  unfolding sim_setting sim_sealing
  setting-sound replies = record {
    permanent = ap is_some permanent-found;
    temporary = ap is_some temporary-found;
    words = λ given. mod-lt (6364136223846793005 * (given + 1)) (omega arith);
    replies = replies;
    bindings = λ perm number random padding inner drawn padded. under-bytes (key_in (entry_of perm sim_ring)) random number inner padding drawn padded;
  }
