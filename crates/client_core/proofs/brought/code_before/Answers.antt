use Rattle.std.proofs.Common.{◌∙◌, refl, sym}
use Rattle.client_core.proofs.ErrorLemmas.{error_whole, error_without}
use Rattle.client_core.proofs.brought.code_before.Goals as goal

pub returns-in-Ok : goal.returns-in-Ok
returns-in-Ok c text told = c.code_at_end.ensures ∙ sym (error_whole text _ _ _ c.args.code _ told (rw c.in-Ok.is at c.bytes.ensures.exact) refl)

pub returns-in-Err : goal.returns-in-Err
returns-in-Err c text told = sym (error_without text _ c.args.code _ told (rw c.in-Err.is at c.bytes.ensures.exact))
