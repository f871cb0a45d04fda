use Rattle.std.proofs.Common.{◌≡◌, ◌∙◌, refl}
use Rattle.envelope.proofs.sealing.seal_behind.Goals as goal

pub returns-clause-spelled : goal.returns-clause-spelled
returns-clause-spelled g c text padding whole front count = c.seal_text.ensures ∙ rw (c.put_head.ensures.key, c.put_head.ensures.plain text padding whole front count) refl
