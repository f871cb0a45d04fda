use Rattle.obfus.proofs.Undone.{deciphered}
use Rattle.obfus.proofs.laws.ciphering_undoes_itself.Goals as goal

pub returns : goal.returns
returns c = λ secret start long. deciphered secret start long c.ctr_undoes_itself.ensures
