use Rattle.std.proofs.Common.{sym}
use Rattle.client_core.proofs.ErrorLemmas.{behind_is, no_error, not_number}
use Rattle.client_core.proofs.brought.code_behind.Goals as goal

pub returns-then-number-ne-RPC_ERROR : goal.returns-then-number-ne-RPC_ERROR
returns-then-number-ne-RPC_ERROR c = sym (no_error c.args.number c.args.reader.now (not_number c.args.number c.if-number-ne-RPC_ERROR.true))

pub returns : goal.returns
returns c = behind_is c.args.number _ c.args.reader.now c.if-number-ne-RPC_ERROR.false c.read_code.ensures
