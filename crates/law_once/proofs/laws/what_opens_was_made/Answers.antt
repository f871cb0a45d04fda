use Rattle.law_once.proofs.Provenance.{foreign_made, given_made, opened_short}
use Rattle.law_once.proofs.laws.what_opens_was_made.Goals as goal

pub returns-clause-given : goal.returns-clause-given
returns-clause-given g c = λ lock ring setting now packet envelope seals so sealed is. given_made lock ring setting seals so now packet envelope sealed is

pub returns-clause-foreign : goal.returns-clause-foreign
returns-clause-foreign g c = λ lock ring setting world now dir bytes envelope seals so sealed only is. foreign_made lock ring setting seals so world now dir bytes envelope sealed only is

pub returns-clause-short : goal.returns-clause-short
returns-clause-short g c = λ lock ring setting now dir bytes envelope seals so is. opened_short lock ring setting seals so now dir bytes envelope is
