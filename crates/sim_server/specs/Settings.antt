-- In what a world over cores runs.
use Rattle.std.specs.Prelude.{ℕ, List, Option}
use Rattle.auth_keys.specs.declared.ring.RingKey.{RingKey}
use Rattle.envelope.specs.declared.parts.Dir.{Dir}
use Rattle.envelope.specs.declared.parts.Envelope.{Envelope}
use Rattle.envelope.specs.Packet.{Lock}
use Rattle.regs_service.specs.Served.{Step}
use Rattle.server_dispatch.specs.Rings.{AreOf}
use Rattle.server_session.specs.Says.{Keys as RingKeys}
use Rattle.temp_keys.specs.declared.binding.Inner.{Inner}
use Rattle.world_rules.specs.Premises.{IsSealed}
use Rattle.world_rules.specs.Setting.{Keys, Setting}

-- What a seal does, as functions: the bytes of an envelope in a direction with its padding, the envelope that bytes open to,
-- and the binding message that a client makes; what its ring says of keys, as a server sees it; and the keys that clients are
-- made with.
pub record Sealing : Type 0 where
  pub sealed : Dir → Envelope → List ℕ → List ℕ
  pub opens : ℕ → Dir → List ℕ → Option Envelope
  pub binding_message : ℕ → List ℕ → ℕ → Inner → List ℕ → List ℕ
  pub rings : RingKeys
  pub keys : Keys

-- the setting of a world whose words are drawn so, with this service and its fresh state, and this seal
abbrev pub setting_in : {D V : Type 0} → (D → ℕ × D) → Step V → V → Sealing → Setting D V
setting_in step serve fresh sealing =
    record {
      step = step;
      sealed = sealing.sealed;
      opens = sealing.opens;
      keys = sealing.keys;
      is_temporary = sealing.rings.is_temporary;
      binding_message = sealing.binding_message;
      bound_by = sealing.rings.bound_by;
      serve = serve;
      fresh = fresh;
    }

-- what a setting says of keys, as a server sees it
abbrev pub rings_of : {D V : Type 0} → Setting D V → RingKeys
rings_of setting = record { is_temporary = setting.is_temporary; bound_by = setting.bound_by }

-- The setting says what the seal does under this ring.
pub record IsOf {D V : Type 0} (lock : Lock) (ring : List RingKey) (setting : Setting D V) : Type 0 where
  pub seal : IsSealed lock ring setting
  pub rings : AreOf ring (rings_of setting)
