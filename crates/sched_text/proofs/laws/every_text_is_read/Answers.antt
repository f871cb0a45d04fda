use Rattle.sched_text.specs.Lines.{lines_in}
use Rattle.sched_text.proofs.Readings.{either}
use Rattle.sched_text.proofs.laws.every_text_is_read.Goals as goal

pub returns : goal.returns
returns c = λ text. either (lines_in text)
