-- What an event of a server gives.
use Rattle.std.specs.Prelude.{◌≡◌, List}
use Rattle.auth_keys.specs.declared.ring.RingKey.{RingKey}
use Rattle.envelope.specs.Packet.{Lock}
use Rattle.server_output.specs.Outs.{AreSent}
use Rattle.server_rules.specs.Answer.{Answer}
use Rattle.server_core.specs.declared.effects.Effects.{Effects}
use Rattle.server_core.specs.Server.{Kept, Stands}

-- A server that is kept so after an event, the draw, and what the event gives, are what the definitions say.
pub record Gives {S D : Type 0} (lock : Lock) (keys : List RingKey) (kept : Kept S) (draw : D) (effects : Effects) (answer : Answer D) : Type 0 where
  pub stands : Stands kept answer.server
  pub drawn : draw ≡ answer.draw
  -- each packet goes out, sealed with its padding, in order
  pub sent : AreSent lock keys answer.packets effects.out.outs
  pub entered : effects.entries.entries ≡ answer.entries
