-- What each step of a joint run keeps of its world, for the laws that go on from it: no promise of a program.
use Rattle.std.specs.Prelude.{List}
use Rattle.auth_keys.specs.declared.ring.RingKey.{RingKey}
use Rattle.envelope.specs.Packet.{Lock}
use Rattle.world_rules.specs.Setting.{Setting}
use Rattle.world_rules.specs.World.{World}
use Rattle.world_rules.specs.Once.{InOrder}
use Rattle.law_packets.specs.Lawful.{IsSteady}
use Rattle.law_once.specs.Served.{IsServed}
use Rattle.law_once.specs.Standing.{HasMoves}
use Rattle.law_order.specs.Keeping.{KeepsOrder}

pub record Keeps {S V : Type 0} (lock : Lock) (ring : List RingKey) (setting : Setting S V) (world : World S V) : Type 0 where
  pub moves : HasMoves world
  pub steady : IsSteady lock ring setting world
  pub order : KeepsOrder world
  pub served : IsServed setting world
  pub in_order : InOrder world
