-- Scaffolding, and no promise: how far a session's messages were sent.
use Rattle.std.specs.Prelude.{◌≡◌, List, ◌++◌}
use Rattle.auth_keys.specs.declared.ring.RingKey.{RingKey}
use Rattle.envelope.specs.Packet.{Lock}
use Rattle.server_rules.specs.Event.{Sent}
use Rattle.server_output.specs.declared.outs.Out.{Out}
use Rattle.server_output.specs.Outs.{AreSent}

-- what went out so far, and what is left to be sent, give all
pub record Course (lock : Lock) (ring : List RingKey) (before now : List Out) (left all : List Sent) : Type 0 where
  pub outs : List Out
  pub sent : List Sent
  pub behind : now ≡ before ++ outs
  pub are : AreSent lock ring sent outs
  pub so_far : sent ++ left ≡ all
