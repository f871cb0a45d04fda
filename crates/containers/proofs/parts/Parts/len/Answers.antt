use Rattle.std.proofs.Common.{sym, ap, length, ◌∙◌}
use Rattle.containers.proofs.Places.{length-messages_in}
use Rattle.containers.proofs.parts.Parts.len.Goals as goal

pub returns-clause-value : goal.returns-clause-value
returns-clause-value c = sym (length-messages_in c.self.inside.count c.self.inside.left.now) ∙ ap length c.self.view_is
