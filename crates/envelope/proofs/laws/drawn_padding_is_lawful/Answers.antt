use Rattle.envelope.proofs.Drawn.{drawn-padding}
use Rattle.envelope.proofs.laws.drawn_padding_is_lawful.Goals as goal

pub returns : goal.returns
returns g c = λ step body draw. drawn-padding step body draw
