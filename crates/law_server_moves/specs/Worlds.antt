-- How the server of a world stands in a world of the law on moves.
use Rattle.std.specs.Prelude.{◌≡◌, List, ◌++◌, map}
use Rattle.std.specs.List.{AllByRecursion}
use Rattle.envelope.specs.declared.parts.Dir.TheVariants.{Down}
use Rattle.law_moves.specs.World.{World}
use Rattle.world_rules.specs.World as rules
use Rattle.world_rules.specs.World.{Packet}
use Rattle.world_rules.specs.Setting.{as_heard}
use Rattle.law_server_moves.specs.Servers.{Past, ServerStands}
use Rattle.law_server_moves.specs.Sending.{WentOut}

-- the sessions that were lost, and all entries
abbrev pub past_in : {S V : Type 0} → rules.World S V → Past
past_in world = record { lost = world.lost; entries = map (λ entered. entered.entry) world.entries }

-- the server stands there with its lists, and all that is behind it
abbrev pub StandsIn : {S V : Type 0} → World → rules.World S V → Type 0
StandsIn w world = ServerStands w (past_in world) world.server.sessions world.server.jobs

-- What an event of the server made of a world stands there: the server does, and its packets went out there.
pub record HasServed {S V : Type 0} (later : World) (before after : rules.World S V) : Type 0 where
  pub stands : StandsIn later after
  pub packets : List Packet
  pub bag : after.bag ≡ before.bag ++ packets
  pub down : AllByRecursion (λ packet. (packet.dir ≡ Down) × WentOut later (as_heard packet.envelope)) packets
