use Rattle.std.proofs.Common.{refl}
use Rattle.msg_ids.specs.Counters.{none_given}
use Rattle.msg_ids.proofs.RunLemmas.{All-IsFourfold}
use Rattle.msg_ids.proofs.laws.numbers_are_fourfold.Goals as goal

pub returns-clause-given : goal.returns-clause-given
returns-clause-given c = λ askings. All-IsFourfold none_given askings refl
