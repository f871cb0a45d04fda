use Rattle.std.proofs.Common.{◌∙◌}
use Rattle.clap.specs.Words.{found_of}
use Rattle.clap.proofs.WalkLemmas.{first_value-rows}
use Rattle.commands.specs.Values.{text_of}
use Rattle.commands.proofs.simple.Taken.text.Goals as goal

pub returns : goal.returns
unfolding text_of
returns c = rw (← c.self.view_is) (c.get_str.ensures ∙ first_value-rows (found_of c.self.inside.matches) c.args.name.now)
