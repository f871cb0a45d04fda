-- What the line of an entry is told of.
use Rattle.std.specs.Prelude.{◌≡◌, List, unwrap_or}
use Rattle.world_rules.specs.World.{Entered, Seat, owner}
use Rattle.sim_text.specs.declared.entry.EntryLine.{EntryLine}

-- The parts of a line are those of an entry, in a world of these clients: the start in which it was made, the client whose
-- session number it has, or 0 where it is nobody's, the message identifier, the answer, and whether the service ran.
pub record IsLineOf (line : EntryLine) (seats : List Seat) (entered : Entered) : Type 0 where
  pub start : line.start ≡ entered.start
  pub client : line.client ≡ unwrap_or (owner entered.entry.session seats) 0
  pub number : line.number ≡ entered.entry.number
  pub reply : line.reply.now ≡ entered.entry.reply
  pub ran : line.ran ≡ entered.entry.ran
