-- The setting of joint runs is one of a world.
use Rattle.std.proofs.Common.{◌≡◌, ◌≢◌, ℕ, if◌then◌else◌, Bool, true, Option, Some, None, List, [], ◌∷◌, refl, ap, eq-eqb}
use Rattle.std.specs.Prelude.{is_some}
use Rattle.octets.specs.Bytes.{HasBytes, IsBytes}
use Rattle.auth_keys.specs.Keys.{identifier}
use Rattle.auth_keys.specs.Rings.{entry_of, key_in}
use Rattle.auth_keys.specs.declared.ring.RingKey.{RingKey}
use Rattle.client_core.specs.Flushed.{binding_under}
use Rattle.regs_service.specs.Registers as registers
use Rattle.regs_service.specs.Served.{IsReply}
use Rattle.temp_keys.specs.Messages.{binding_message}
use Rattle.temp_keys.specs.declared.binding.Inner.{Inner}
use Rattle.world_rules.specs.Premises.{IsSound}
use Rattle.law_runs.specs.Joining.{AreWords, first_key, setting_under}

has-first : (ring : List RingKey) → ring ≢ [] → is_some (entry_of (first_key ring) ring) ≡ true
has-first [] some = absurd (some refl)
has-first (entry ∷ entries) some =
    let id = identifier entry.key in
    ap (λ (b : Bool). is_some (if b then Some entry else entry_of id entries)) (eq-eqb id id refl)

module _ (nil : IsBytes []) (made : (key random : List ℕ) (number : ℕ) (inner : Inner) (padding : List ℕ) → HasBytes 16 random → HasBytes 8 padding → IsBytes (binding_message key random number inner padding)) where
  under-bytes : (key : Option (List ℕ)) (random : List ℕ) (number : ℕ) (inner : Inner) (padding : List ℕ) → HasBytes 16 random → HasBytes 8 padding → IsBytes (binding_under key random number inner padding)
  under-bytes None random number inner padding drawn padded = nil
  under-bytes (Some key) random number inner padding drawn padded = made key random number inner padding drawn padded

  pub sound-under : ((sums : registers.Sums) (request : List ℕ) → IsReply (registers.step sums request).0 × IsBytes (registers.step sums request).0)
      → {D : Type 0} (step : D → ℕ × D) (ring : List RingKey) → ring ≢ [] → AreWords step → IsSound ring (setting_under step ring)
  sound-under replies step ring some words = record {
    permanent = has-first ring some;
    temporary = has-first ring some;
    words = words;
    replies = replies;
    bindings = λ perm number random padding inner drawn padded. under-bytes (key_in (entry_of perm ring)) random number inner padding drawn padded;
  }
