use Rattle.std.proofs.Common.{ap, sym}
use Rattle.sched_text.specs.Reading.{is_end}
use Rattle.sched_text.proofs.words.lacks_words.Goals as goal

pub returns : goal.returns
returns c = sym (ap is_end c.first_word.ensures)
