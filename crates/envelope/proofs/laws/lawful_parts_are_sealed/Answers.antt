use Rattle.envelope.proofs.LawfulParts.{parts-sealed}
use Rattle.envelope.proofs.laws.lawful_parts_are_sealed.Goals as goal

pub returns : goal.returns
returns c = parts-sealed
