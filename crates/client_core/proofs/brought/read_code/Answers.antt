use Rattle.std.proofs.Common.{sym}
use Rattle.client_core.proofs.ErrorLemmas.{error_cut}
use Rattle.client_core.proofs.brought.read_code.Goals as goal

pub returns-in-Ok : goal.returns-in-Ok
returns-in-Ok c = c.code_before.ensures c.args.reader.now (rw c.in-Ok.is at c.int.ensures.exact)

pub returns-in-Err : goal.returns-in-Err
returns-in-Err c = sym (error_cut c.args.reader.now _ (rw c.in-Err.is at c.int.ensures.exact))
