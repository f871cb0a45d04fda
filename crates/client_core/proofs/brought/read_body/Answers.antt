use Rattle.std.proofs.Common.{◌∙◌, sym}
use Rattle.client_core.proofs.BroughtLemmas.{container_brings}
use Rattle.client_core.proofs.brought.read_body.Goals as goal

pub returns-then-is_container-clause-brought : goal.returns-then-is_container-clause-brought
returns-then-is_container-clause-brought c = container_brings c.args.body.now (sym c.is_container.ensures ∙ c.if-is_container.true)
