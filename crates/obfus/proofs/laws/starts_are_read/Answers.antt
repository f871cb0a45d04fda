use Rattle.obfus.proofs.Undone.{read_back}
use Rattle.obfus.proofs.laws.starts_are_read.Goals as goal

pub returns : goal.returns
returns c = read_back c.ctr_undoes_itself.ensures
