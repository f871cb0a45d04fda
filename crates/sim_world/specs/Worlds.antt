-- A world, as it is kept.
use Rattle.std.specs.Prelude.{ℕ, List}
use Rattle.auth_keys.specs.declared.ring.RingKey.{RingKey}
use Rattle.auth_keys.specs.Rings.{entry_of, key_in}
use Rattle.client_core.specs.Flushed.{binding_under}
use Rattle.regs_service.specs.Served.{Step}
use Rattle.sim_clients.specs.Standing.{HaveKeys, Kept, Stand}
use Rattle.world_rules.specs.Setting.{Setting}
use Rattle.world_rules.specs.World.{World as Rules}
use Rattle.sim_server.specs.Hosts.{Host, Stands as HostStands}
use Rattle.sim_server.specs.Settings.{Sealing, setting_in}
use Rattle.sim_world.specs.Keys.{HasWorldKeys, world_keys}

-- What contracts see of a world: the server's side with all that was made, the clients, and what words are drawn from.
pub record World (S V D : Type 0) : Type 0 where
  pub host : Host S V
  pub seats : List Kept
  pub draw : D

-- the ring has the keys that clients are made with, and those of all clients
pub record HasAll (ring : List RingKey) (seats : List Kept) : Type 0 where
  pub own : HasWorldKeys ring
  pub clients : HaveKeys ring seats

-- the setting of a world with this ring: what the seal does is as these functions say, binding messages are made under the
-- ring's keys, and clients under the keys of every world
abbrev pub world_setting : {D V : Type 0} → (D → ℕ × D) → Step V → V → List RingKey → Sealing → Setting D V
world_setting step serve fresh ring sealing =
    setting_in step serve fresh (record sealing { binding_message = λ perm. binding_under (key_in (entry_of perm ring)); keys = world_keys })

-- It stands for a world of the definitions.
pub record Stands {S V D : Type 0} (setting : Setting D V) (kept : World S V D) (world : Rules D V) : Type 0 where
  pub host : HostStands setting kept.host kept.draw world
  pub seats : Stand kept.seats world.seats
