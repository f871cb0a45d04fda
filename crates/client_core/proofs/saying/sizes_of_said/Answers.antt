use Rattle.client_core.specs.Draft.{item_of}
use Rattle.client_core.proofs.SizeLemmas.{said-size, said-is_words, said-few}
use Rattle.client_core.proofs.saying.sizes_of_said.Goals as goal

pub returns-clause-sizes : goal.returns-clause-sizes
returns-clause-sizes c said can = said-size c.sizes_of_spellings.ensures said can

pub returns-clause-words : goal.returns-clause-words
returns-clause-words c said fits = c.items_are_words.ensures (item_of said) fits (said-is_words said)

pub returns-clause-few : goal.returns-clause-few
returns-clause-few c said can = said-few said can
