-- The ring of a world keeps all keys.
use Rattle.std.proofs.Common.{List}
use Rattle.auth_keys.specs.declared.ring.RingKey.{RingKey}
use Rattle.sim_clients.specs.Standing.{KeepKeys, Kept}
use Rattle.sim_world.specs.Worlds.{HasAll}

pub keeps_all : (ring : List RingKey) (before after : List Kept) → HasAll ring before → KeepKeys before after → HasAll ring after
keeps_all ring before after has keeps = record { own = has.own; clients = keeps ring has.clients }
