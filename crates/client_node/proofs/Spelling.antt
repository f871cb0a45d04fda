-- The writer's frames, one packet more.
use Rattle.std.proofs.Common.{◌≡◌, List, [], ℕ, Option, None, Some, Result, Ok, Err, refl}
use Rattle.cipher_modes.specs.CounterMode.{CtrState}
use Rattle.transport.specs.Directions.{through}
use Rattle.transport.specs.Spelt.{Spells, SpellsMore}
use Rattle.transport.specs.Wires.{Line, Tells}
use Rattle.client_node.specs.Writes.{TellsMore}
use Rattle.client_node.specs.declared.end.End.{End}
use Rattle.client_node.specs.declared.end.End.TheVariants as ends

-- by how the write ended
pub spells_by : {X : Type 0} (result : Result X End) (old new : Line) (packet : List ℕ) → SpellsMore old new packet → TellsMore result (SpellsMore old new packet)
spells_by (Ok done) old new packet more = more
spells_by (Err ends.Memory) old new packet more = tt
spells_by (Err ends.Lost) old new packet more = more
spells_by (Err ends.Decided) old new packet more = more
spells_by (Err ends.TurnsSpent) old new packet more = more
spells_by (Err ends.Spent) old new packet more = more

-- nothing was sent yet
none_through : (stream : Option CtrState) → through stream [] ≡ []
none_through None = refl
none_through (Some stream) = refl

pub none_spelt : (line : Line) (to : Option CtrState) → Tells line to [] [] → Spells line to [] []
none_spelt line to tells = record { tells = tells; spelt = none_through to }
